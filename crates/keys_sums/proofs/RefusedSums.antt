-- The seed of sums that are read, and when sums are not merged.
use Rattle.std.proofs.Common.{◌≡◌, ℕ, Bool, List, Option, Some, None, Result, Ok, Err, true, refl, ap, sym, inl, inr}
use Rattle.std.specs.Prelude.{IfErr, IfSome, MatchOption}
use Rattle.sketch_base.specs.declared.error.ErrorKind.{ErrorKind}
use Rattle.sketch_base.specs.declared.error.ErrorKind.TheVariants.{Policy}
use Rattle.core_compact.specs.CompactState.{Compact}
use Rattle.core_images.specs.Summary.{SpellsNumber, SpellsTuple}
use Rattle.core_laws.specs.Refusal.{Refuses}
use Rattle.core_laws.specs.Shown.{Shown}
use Rattle.core_operators.specs.Union.{Union, IsAllBroken, IsUpdateAllError, update_all_refusal}
use Rattle.core_policies.specs.Summaries.{combined, combine_refused}
use Rattle.core_slots.specs.Entry.{tuple_key}
use Rattle.core_slots.specs.declared.entry.TupleEntry.{TupleEntry}
use Rattle.keys_sketches.proofs.Refused.{flagged_seed, only_memory}
use Rattle.keys_sketches.specs.Refusals.{IsMergeError, IsImageRefusal, IsImageFailure}
use Rattle.keys_sketches.specs.declared.sketching.ReadError.{ReadError}
use Rattle.keys_sketches.specs.declared.sketching.ReadError.TheVariants as read_error
use Rattle.keys_sums.specs.Images.{ReadsSums}
use Rattle.keys_sums.specs.Unions.{IsUniteSumsRefusal, HasNoSums, merge_refusal}
use Rattle.tuple_sketches.specs.Numbers.{combined_number}
use Rattle.tuple_sketches.specs.declared.numbers.SummaryMode.{SummaryMode}
use Rattle.tuple_sketches.specs.declared.numbers.SummaryMode.TheVariants.{Sum, Min, Max}

-- a sketch that is read has the reader's seed
pub sums_seed : (bytes : List ℕ) (h : ℕ) (s : Compact (TupleEntry ℕ)) → ReadsSums bytes h s → s.seed_hash ≡ h
sums_seed bytes h s reads = flagged_seed tuple_key bytes reads.spelled.longs h s (SpellsTuple (SpellsNumber 8)) reads.spelled.filled

-- a refused merge is one of a mode that adds
refused_mode : (mode : SummaryMode) (x y : TupleEntry ℕ) (kind : ErrorKind) → combine_refused (combined_number mode) x y ≡ true → kind ≡ Policy → merge_refusal mode ≡ Some kind
refused_mode Sum x y kind refused policy = ap (λ (k : ErrorKind). Some k) (sym policy)
refused_mode Min x y kind refused policy = absurd (cc)
refused_mode Max x y kind refused policy = absurd (cc)

-- merges of many sketches that break off
module _ {V P : Type 0} (mode : SummaryMode) (old new : Union (TupleEntry ℕ) P) (shows : V → Shown) (listing : V → List (TupleEntry ℕ)) (views : List V) (kind : ErrorKind) where
  abbrev IsBroken : Type 0
  IsBroken = IsAllBroken tuple_key (combined (combined_number mode)) (combine_refused (combined_number mode)) old new shows listing views kind

  broken_by : (o : Option ErrorKind) → o ≡ None → MatchOption o IsBroken (λ other. (kind ≡ other) × (new ≡ old)) → IsMergeError (merge_refusal mode) kind
  broken_by None none broken = elim broken.why [ inl memory ↦ inl memory | inr policy ↦ let at = policy.1.4 in inr (refused_mode mode at.held_entry at.new_entry kind at.refused policy.0) ]
  broken_by (Some other) none broken = absurd (cc)

  pub not_merged : update_all_refusal old shows views ≡ None → IsUpdateAllError tuple_key (combined (combined_number mode)) (combine_refused (combined_number mode)) old new shows listing views kind → IsMergeError (merge_refusal mode) kind
  not_merged none refused = broken_by (update_all_refusal old shows views) none refused

-- a call to which only memory is refused
pub only_memory_refused : {T : Type 0} (mode : SummaryMode) (r : Result T ErrorKind) → Refuses r None true → IfErr r (IsMergeError (merge_refusal mode))
only_memory_refused mode (Ok v) refused = tt
only_memory_refused mode (Err e) refused = inl (only_memory None true e refl refused).0

-- a merge's error is one of a union whose settings are accepted
pub merge_not_united : (mode : SummaryMode) (seed : ℕ) (refusal : Option ErrorKind) (images : Option (List (List ℕ))) (kind : ErrorKind) → refusal ≡ None → IsMergeError (merge_refusal mode) kind → IsUniteSumsRefusal mode seed refusal images (read_error.Refused kind)
merge_not_united mode seed refusal images kind none (inl memory) = inr (inl memory)
merge_not_united mode seed refusal images kind none (inr is) = inr (inr (none, inl is))

-- an image that is not added, to a union whose settings are accepted
refused_image : (mode : SummaryMode) (seed : ℕ) (refusal : Option ErrorKind) (images : Option (List (List ℕ))) (kind : ErrorKind) → refusal ≡ None → IsImageRefusal (merge_refusal mode) (IfSome images (HasNoSums seed)) kind → IsUniteSumsRefusal mode seed refusal images (read_error.Refused kind)
refused_image mode seed refusal images kind none (inl memory) = inr (inl memory)
refused_image Sum seed refusal images kind none (inr (inl policy)) = inr (inr (none, inl (ap (λ (k : ErrorKind). Some k) (sym policy))))
refused_image Sum seed refusal images kind none (inr (inr faulty)) = inr (inr (none, inr faulty))
refused_image Min seed refusal images kind none (inr faulty) = inr (inr (none, inr faulty))
refused_image Max seed refusal images kind none (inr faulty) = inr (inr (none, inr faulty))

pub image_not_united : (mode : SummaryMode) (seed : ℕ) (refusal : Option ErrorKind) (images : Option (List (List ℕ))) (u : ReadError) → refusal ≡ None → IsImageFailure (merge_refusal mode) (IfSome images (HasNoSums seed)) u → IsUniteSumsRefusal mode seed refusal images u
image_not_united mode seed refusal images (read_error.Refused kind) none refused = refused_image mode seed refusal images kind none refused
image_not_united mode seed refusal images (read_error.Failed error) none refused = none
