-- For sketches of one seed whose hash is not 0, and sizes in range, the only error is refused memory.
use Rattle.std.proofs.Common.{◌≡◌, ℕ, ◌≤◌, Bool, true, false, cond, List, [], ◌∷◌, ◌++◌, Option, Some, None, refl, sym, ap, subst, ◌∙◌, arith, inl, inr}
use Rattle.std.specs.Prelude.{Result, Ok, Err, IfErr, IfSome, ◌==◌, ◌||◌, ◌≢◌}
use Rattle.std.proofs.lemmas.Bool.Decides.{nat_tests}
use Rattle.sketch_base.specs.Seed.{seed_hash}
use Rattle.sketch_base.specs.declared.error.ErrorKind.{ErrorKind}
use Rattle.sketch_base.specs.declared.error.ErrorKind.TheVariants.{OutOfMemory, InvalidArgument, InvalidData, Policy}
use Rattle.core_compact.specs.CompactState.{Compact, compact_value}
use Rattle.core_laws.specs.Entries.{hash_key, first_hash}
use Rattle.core_laws.specs.Operators.{meet_next}
use Rattle.core_laws.specs.Values.{Sketch}
use Rattle.core_laws.specs.declared.TheConstants.{MAX_THETA}
use Rattle.core_operators.specs.Intersection.{is_settled, seed_refusal}
use Rattle.core_laws.specs.Settings.{settings_refusal}
use Rattle.keys_sketches.specs.Meeting.{first_refusal, meet_refusal, refusal_of_intersection}
use Rattle.keys_sketches.specs.Refusals.{IsReadError, IsUniteRefusal}
use Rattle.tuple_sketches.specs.declared.numbers.SummaryMode.{SummaryMode}
use Rattle.tuple_sketches.specs.declared.numbers.SummaryMode.TheVariants.{Sum, Min, Max}
use Rattle.keys_sums.specs.Operands.{IsReadSumsError}
use Rattle.keys_sums.specs.Unions.{IsUniteSumsRefusal, HasNoSums, merge_refusal}
use Rattle.keys_sketches.specs.declared.sketching.ReadError.{ReadError}
use Rattle.keys_sketches.specs.declared.sketching.ReadError.TheVariants.{Refused, Failed}
use Rattle.distinct_inputs.specs.Failures.{IsOfUniting}
use Rattle.distinct_inputs.specs.Images.{HasNoSketch}
use Rattle.distinct_inputs.specs.Seeds.{AreSeeded}

-- a size in range
pub sized : (lg_k seed : ℕ) → 4 ≤ lg_k → lg_k ≤ 26 → seed_hash seed ≢ 0 → settings_refusal lg_k MAX_THETA seed ≡ None
sized lg_k seed low high seeded = grind (arith, nat_tests)

read_of : (refusal : Option ErrorKind) (e : ErrorKind) → refusal ≡ None → IsReadError refusal (Refused e) → e ≡ OutOfMemory
read_of refusal e none (inl is) = let both : None ≡ Some e = sym none ∙ is in absurd (cc)
read_of refusal e none (inr memory) = memory

pub read_kind : (refusal : Option ErrorKind) (u : ReadError) (e : ErrorKind) → refusal ≡ None → u ≡ Refused e → IsReadError refusal u → e ≡ OutOfMemory
read_kind refusal u e none is refused = read_of refusal e none (subst (IsReadError refusal) is refused)

-- unions of images, and of images of sums, before which nothing is refused
united_kind : (seed : ℕ) (refusal : Option ErrorKind) (images : Option (List (List ℕ))) (u : ReadError) → refusal ≡ None → IsUniteRefusal seed refusal images u → IsOfUniting false seed images u
united_kind seed refusal images (Failed error) none refused = tt
united_kind seed refusal images (Refused e) none (inl is) = let both : None ≡ Some e = sym none ∙ is in absurd (cc)
united_kind seed refusal images (Refused e) none (inr (inl memory)) = inl memory
united_kind seed refusal images (Refused e) none (inr (inr faulty)) = inr (inr (faulty.0, faulty.2))

-- merges are refused with `Policy` alone
merge_policy : (mode : SummaryMode) (e : ErrorKind) → merge_refusal mode ≡ Some e → e ≡ Policy
merge_policy Sum e is = cc
merge_policy Min e is = absurd (cc)
merge_policy Max e is = absurd (cc)

sums_kind : (mode : SummaryMode) (seed : ℕ) (refusal : Option ErrorKind) (images : Option (List (List ℕ))) (u : ReadError) → refusal ≡ None → IsUniteSumsRefusal mode seed refusal images u → IsOfUniting true seed images u
sums_kind mode seed refusal images (Failed error) none refused = tt
sums_kind mode seed refusal images (Refused e) none (inl is) = let both : None ≡ Some e = sym none ∙ is in absurd (cc)
sums_kind mode seed refusal images (Refused e) none (inr (inl memory)) = inl memory
sums_kind mode seed refusal images (Refused e) none (inr (inr later)) = elim later.1 [ inl policy ↦ inr (inl (merge_policy mode e policy, refl)) | inr faulty ↦ inr (inr faulty) ]

pub uniting_refused : {V : Type 0} (r : Result V ReadError) (sums : Bool) (seed : ℕ) (refusal : Option ErrorKind) (images : Option (List (List ℕ))) → sums ≡ false → refusal ≡ None → IfErr r (IsUniteRefusal seed refusal images) → IfErr r (IsOfUniting sums seed images)
uniting_refused (Ok v) sums seed refusal images is none refused = tt
uniting_refused (Err u) sums seed refusal images is none refused = subst (λ b. IsOfUniting b seed images u) (sym is) (united_kind seed refusal images u none refused)

pub sums_refused : {V : Type 0} (mode : SummaryMode) (r : Result V ReadError) (sums : Bool) (seed : ℕ) (refusal : Option ErrorKind) (images : Option (List (List ℕ))) → sums ≡ true → refusal ≡ None → IfErr r (IsUniteSumsRefusal mode seed refusal images) → IfErr r (IsOfUniting sums seed images)
sums_refused mode (Ok v) sums seed refusal images is none refused = tt
sums_refused mode (Err u) sums seed refusal images is none refused = subst (λ b. IsOfUniting b seed images u) (sym is) (sums_kind mode seed refusal images u none refused)

-- only unions of sums are refused for a sum of 2^64 or more
pub policy_of_sums : (sums : Bool) (seed : ℕ) (images : Option (List (List ℕ))) (u : ReadError) (e : ErrorKind) → u ≡ Refused e → IsOfUniting sums seed images u → e ≡ Policy → sums ≡ true
policy_of_sums sums seed images u e is refused policy = elim (subst (IsOfUniting sums seed images) is refused) [
  | inl memory ↦ let both : OutOfMemory ≡ Policy = sym memory ∙ policy in absurd (cc)
  | inr (inl other) ↦ other.1
  | inr (inr faulty) ↦ let both : InvalidData ≡ Policy = sym faulty.0 ∙ policy in absurd (cc)
]

-- .. and any for bad data only if some image is none
pub data_of_images : (sums : Bool) (seed : ℕ) (images : Option (List (List ℕ))) (u : ReadError) (e : ErrorKind) → u ≡ Refused e → IsOfUniting sums seed images u → e ≡ InvalidData → HasNoSketch sums seed images
data_of_images sums seed images u e is refused data_is = elim (subst (IsOfUniting sums seed images) is refused) [
  | inl memory ↦ let both : OutOfMemory ≡ InvalidData = sym memory ∙ data_is in absurd (cc)
  | inr (inl other) ↦ let both : Policy ≡ InvalidData = sym other.0 ∙ data_is in absurd (cc)
  | inr (inr faulty) ↦ faulty.1
]

-- sketches of sums are refused for bad data only if some image is none
pub data_of_sums : (seed : ℕ) (images : Option (List (List ℕ))) (u : ReadError) (e : ErrorKind) → u ≡ Refused e → IsReadSumsError (IfSome images (HasNoSums seed)) u → e ≡ InvalidData → HasNoSketch true seed images
data_of_sums seed images u e is refused data_is = elim (subst (IsReadSumsError (IfSome images (HasNoSums seed))) is refused) [
  | inl memory ↦ let both : OutOfMemory ≡ InvalidData = sym memory ∙ data_is in absurd (cc)
  | inr faulty ↦ faulty.1
]

-- sketches of one seed
one_accepted : (settled empty : Bool) (x y : ℕ) → y ≡ x → cond (settled || empty) None (cond (x == y) None (Some InvalidArgument)) ≡ None
one_accepted true empty x y same = refl
one_accepted false true x y same = refl
one_accepted false false x y same = grind (arith, nat_tests)

pub meet_accepted : (seed : ℕ) (so_far : Option (Sketch ℕ)) (sketches : List (Compact ℕ)) → AreSeeded seed sketches → meet_refusal seed so_far sketches ≡ None
meet_accepted seed so_far [] seeded = refl
meet_accepted seed so_far (s ∷ sketches) seeded =
    let next = Some (meet_next hash_key first_hash so_far (compact_value hash_key s)) in
    ap (λ o. first_refusal o (meet_refusal seed next sketches)) (one_accepted (is_settled so_far) s.empty (seed_hash seed) s.seed_hash seeded.0) ∙ meet_accepted seed next sketches seeded.1

pub seeded-more : (seed : ℕ) (sketches : List (Compact ℕ)) (s : Compact ℕ) → AreSeeded seed sketches → s.seed_hash ≡ seed_hash seed → AreSeeded seed (sketches ++ s ∷ [])
seeded-more seed [] s all one = (one, tt)
seeded-more seed (t ∷ ts) s all one = (all.0, seeded-more seed ts s all.1 one)

-- intersections of such sketches
pub intersection_accepted : (seed : ℕ) (sketches : List (Compact ℕ)) → seed_hash seed ≢ 0 → AreSeeded seed sketches → refusal_of_intersection seed sketches ≡ None
intersection_accepted seed sketches nonzero seeded =
    let accepted : seed_refusal seed ≡ None = grind (arith, nat_tests) in
    ap (λ o. first_refusal o (meet_refusal seed None sketches)) accepted ∙ meet_accepted seed None sketches seeded
