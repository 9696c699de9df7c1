-- What calls on sketches of sums and unions of these give, by the streams of values that they were given, in any mode.
use Rattle.std.proofs.Common.{◌≡◌, ◌≢◌, ◌^◌, ℕ, Bool, true, List, [], ◌∷◌, ◌++◌, Some, None, inl, inr, refl, sym, ap, subst, ◌∙◌, append-nil}
use Rattle.std.specs.Prelude.{◌⊎◌, IsTrue}
use Rattle.std.proofs.lemmas.List.{append_assoc}
use Rattle.sketch_base.specs.declared.error.ErrorKind.{ErrorKind}
use Rattle.sketch_base.specs.declared.error.ErrorKind.TheVariants.{OutOfMemory}
use Rattle.core_compact.specs.CompactState.{IsAnswer}
use Rattle.core_compact.proofs.Answered.{answer-seed}
use Rattle.core_laws.specs.Cuts.{Retained}
use Rattle.core_laws.specs.Folds.{unmarked, unmarked_value}
use Rattle.core_laws.specs.Shown.{Shown, shown_value}
use Rattle.core_laws.specs.Values.{Empty}
use Rattle.core_operators.specs.Union.{union_value}
use Rattle.core_state.specs.Updatable.{Updatable}
use Rattle.tuple_sketches.specs.Given.{given_values}
use Rattle.tuple_sketches.specs.Streams.{Compact, Sketch, NonEmpty, Union, TupleEntry, Given, MAX_THETA, tuple_key, seed_hash, nothing, with_value, united}
use Rattle.tuple_sketches.specs.Streams.{first_number, combined_number, given_numbers, least_numbers, least_folds, value_of, retained_of, IsPartOf, IsSketchOf, IsTrimmedOf, IsUnionOf, GivesMore, GivesNothing}
use Rattle.tuple_sketches.proofs.GivenValues.{no_values, one_more}
use Rattle.tuple_sketches.specs.declared.numbers.SummaryMode.{SummaryMode}
use Rattle.tuple_sketches.proofs.Sums.{numbers_united, numbers_retained}
use Rattle.c_objects.specs.SumsStreams.{IsSumsOf, IsSumsUnionOf, GivesValues, GivesNoValues, GivesSumsPart, HasSums, HasSumsUnion}
use Rattle.c_objects.specs.SumsUnion.{AddsShownSums, sums_union_of, sums_union_mode}
use Rattle.c_objects.specs.Values.{at_hashes, AddsInTurn}
use Rattle.c_objects.specs.declared.sums_union.SeededSumsUnion.{SeededSumsUnion}
use Rattle.c_objects.proofs.Merges.{not_ok}

-- a sketch, and a union, that were given nothing
pub bare : (mode : SummaryMode) (lg_k start seed : ℕ) (s : Updatable (TupleEntry ℕ)) → IsSketchOf lg_k start seed s nothing → IsSumsOf mode lg_k start seed s []
bare mode lg_k start seed s is = subst (IsSketchOf lg_k start seed s) (sym (no_values (Some (first_number mode)) (combined_number mode))) is

pub bare_union : {P : Type 0} (mode : SummaryMode) (lg_k k start : ℕ) (u : Union (TupleEntry ℕ) P) → IsUnionOf lg_k k start u nothing → IsSumsUnionOf mode lg_k k start u []
bare_union mode lg_k k start u is = subst (IsUnionOf lg_k k start u) (sym (no_values (Some (first_number mode)) (combined_number mode))) is

-- a value more
pub value_given : (mode : SummaryMode) (hash value : ℕ) (old new : Updatable (TupleEntry ℕ))
    → GivesMore old new (λ _ given. with_value (Some (first_number mode)) (combined_number mode) hash value given)
    → GivesValues mode ((hash, value) ∷ []) old new
value_given mode hash value old new gives lg_k start seed stream is =
    subst (IsSketchOf lg_k start seed new) (sym (one_more (Some (first_number mode)) (combined_number mode) stream (hash, value))) (gives lg_k start seed (given_numbers mode stream) is)

-- nothing
pub none_given : (old new : Updatable (TupleEntry ℕ)) → GivesNothing old new → GivesNoValues old new
none_given old new gives mode lg_k start seed stream is = gives lg_k start seed (given_numbers mode stream) is

no_more : (mode : SummaryMode) (old new : Updatable (TupleEntry ℕ)) → GivesNoValues old new → GivesValues mode [] old new
no_more mode old new gives lg_k start seed stream is = subst (λ xs. IsSumsOf mode lg_k start seed new xs) (sym (append-nil stream)) (gives mode lg_k start seed stream is)

-- values in turn
pub turn_given : (mode : SummaryMode) (hs vs : List ℕ) (old : Updatable (TupleEntry ℕ)) (status : ℕ) (new : Updatable (TupleEntry ℕ)) (added : ℕ) → AddsInTurn mode hs vs old status new added
    → status ≡ 0 → GivesValues mode (at_hashes hs vs) old new
turn_given mode [] vs old status new added turn ok = no_more mode old new turn.2.2
turn_given mode (h ∷ hs) [] old status new added turn ok = no_more mode old new turn.2.2
turn_given mode (h ∷ hs) (v ∷ vs) old status new added turn ok = elim turn [
  | inl refused ↦ absurd (refused.0 ok)
  | inr more ↦ λ lg_k start seed stream is.
      subst (λ xs. IsSumsOf mode lg_k start seed new xs) (append_assoc stream ((h, v) ∷ []) (at_hashes hs vs))
      (turn_given mode hs vs more.0 status new more.1 more.3 ok lg_k start seed (stream ++ (h, v) ∷ []) (more.2.3 lg_k start seed stream is))
]

-- values as least sums
some_given : (mode : SummaryMode) (stream : List (ℕ × ℕ)) → stream ≢ [] → (given_numbers mode stream).any ≡ true
unfolding given_values
some_given mode [] some = absurd (some refl)
some_given mode (p ∷ stream) some = refl

-- the retained entries of a value that isn't Empty
abbrev inside : {X : Type 0} → Retained X → Sketch X → Retained X
inside v Empty = v
inside v (NonEmpty u) = u

least_value : (mode : SummaryMode) (k start : ℕ) (stream : List (ℕ × ℕ)) (value : Sketch (TupleEntry ℕ)) → unmarked_value value ≡ NonEmpty (least_folds k (given_numbers mode stream) start)
    → value ≡ NonEmpty (least_numbers mode k stream start)
least_value mode k start stream Empty is = absurd (cc)
least_value mode k start stream (NonEmpty v) is = ap (λ u. NonEmpty u) (numbers_retained mode k start stream v (ap (inside (unmarked v)) is))

pub has_sums : (s : Updatable (TupleEntry ℕ)) (form : Compact (TupleEntry ℕ))
    → ((lg_k start seed : ℕ) (given : Given ℕ) → IsSketchOf lg_k start seed s given → IsPartOf (2 ^ lg_k) start (value_of form) given)
    → ((lg_k start seed : ℕ) (given : Given ℕ) → IsSketchOf lg_k start seed s given → form.seed_hash ≡ seed_hash seed)
    → ((lg_k start seed : ℕ) (given : Given ℕ) → IsTrimmedOf lg_k start seed s given → given.any ≡ true → unmarked_value (value_of form) ≡ NonEmpty (least_folds (2 ^ lg_k) given start))
    → ((lg_k seed : ℕ) (given : Given ℕ) → IsTrimmedOf lg_k MAX_THETA seed s given → true ≡ true → unmarked (retained_of form) ≡ least_folds (2 ^ lg_k) given MAX_THETA)
    → HasSums s form
has_sums s form part seeded least kmin = record {
  part = λ mode lg_k start seed stream is. part lg_k start seed (given_numbers mode stream) is;
  seeded = λ mode lg_k start seed stream is. seeded lg_k start seed (given_numbers mode stream) is;
  least = λ mode lg_k start seed stream is some. least_value mode (2 ^ lg_k) start stream (value_of form) (least lg_k start seed (given_numbers mode stream) is (some_given mode stream some));
  kmin = λ mode lg_k seed stream is. numbers_retained mode (2 ^ lg_k) MAX_THETA stream (retained_of form) (kmin lg_k seed (given_numbers mode stream) is refl);
}

module _ {P : Type 0} where
  pub part_more : (mode : SummaryMode) (value : Sketch (TupleEntry ℕ)) (old new : Union (TupleEntry ℕ) P)
      → ((lg_k k start : ℕ) (given more : Given ℕ) → IsUnionOf lg_k k start old given → IsPartOf k start value more → IsUnionOf lg_k k start new (united (combined_number mode) given more))
      → GivesSumsPart mode value old new
  part_more mode value old new gives lg_k k start stream more is part =
      subst (IsUnionOf lg_k k start new) (numbers_united mode stream more) (gives lg_k k start (given_numbers mode stream) (given_numbers mode more) is part)

  pub has_sums_union : (u : Union (TupleEntry ℕ) P) (s : Compact (TupleEntry ℕ)) → IsAnswer tuple_key (union_value tuple_key u) u.seed_hash true s
      → ((lg_k k start : ℕ) (given : Given ℕ) → IsUnionOf lg_k k start u given → IsPartOf k start (value_of s) given)
      → ((lg_k start : ℕ) (given : Given ℕ) → IsUnionOf lg_k (2 ^ lg_k) start u given → given.any ≡ true → unmarked_value (value_of s) ≡ NonEmpty (least_folds (2 ^ lg_k) given start))
      → ((lg_k : ℕ) (given : Given ℕ) → IsUnionOf lg_k (2 ^ lg_k) MAX_THETA u given → true ≡ true → unmarked (retained_of s) ≡ least_folds (2 ^ lg_k) given MAX_THETA)
      → HasSumsUnion u s
  has_sums_union u s answer part least kmin = record {
    part = λ mode lg_k k start stream is. part lg_k k start (given_numbers mode stream) is;
    seeded = answer-seed tuple_key (union_value tuple_key u) u.seed_hash true s answer;
    least = λ mode lg_k start stream is some. least_value mode (2 ^ lg_k) start stream (value_of s) (least lg_k start (given_numbers mode stream) is (some_given mode stream some));
    kmin = λ mode lg_k stream is. numbers_retained mode (2 ^ lg_k) MAX_THETA stream (retained_of s) (kmin lg_k (given_numbers mode stream) is refl);
  }

-- merges, by their status
module _ (s t : Shown) (listing others : List (TupleEntry ℕ)) (old : SeededSumsUnion) (status : ℕ) (new : SeededSumsUnion) where
  pub adds_same : s ≡ t → listing ≡ others → AddsShownSums s listing old status new → AddsShownSums t others old status new
  adds_same shown listed adds = subst (λ l. AddsShownSums t l old status new) listed (subst (λ x. AddsShownSums x listing old status new) shown adds)

  pub sums_given : AddsShownSums s listing old status new → status ≡ 0 → GivesSumsPart (sums_union_mode old) (shown_value tuple_key s listing) (sums_union_of old) (sums_union_of new)
  unfolding AddsShownSums
  sums_given adds ok = elim adds.1 [
    | inl done ↦ done.1.5
    | inr failed ↦ absurd (not_ok failed.0 (sym failed.1 ∙ ok))
  ]

-- a call that nothing refuses but memory was refused memory, which it requests
pub memory_asked : (e : ErrorKind) (asks : Bool) → (None ≡ Some e) ⊎ ((e ≡ OutOfMemory) × IsTrue asks) → IsTrue asks
memory_asked e asks refused = elim refused [
  | inl never ↦ absurd (cc)
  | inr memory ↦ memory.1
]
