-- What merges into unions give, by their status.
use Rattle.std.proofs.Common.{◌≡◌, ◌≢◌, ◌^◌, ℕ, true, List, [], inl, inr, refl, sym, subst, ◌∙◌, arith}
use Rattle.sketch_base.specs.declared.error.ErrorKind.{ErrorKind}
use Rattle.sketch_base.specs.declared.error.ErrorKind.TheVariants.{InvalidArgument, InvalidData, OutOfMemory, Policy, Failed}
use Rattle.core_compact.specs.CompactState.{Compact, IsAnswer}
use Rattle.core_compact.proofs.Answered.{answer-seed}
use Rattle.core_laws.specs.Entries.{hash_key}
use Rattle.core_laws.specs.Shown.{Shown, shown_value}
use Rattle.core_operators.specs.Union.{Union, union_value}
use Rattle.theta_sketches.specs.Streams.{NonEmpty, MAX_THETA, kmin, set_of, value_of, retained_of, IsPartOf, IsUnionOf}
use Rattle.c_objects.specs.Status.{status_of}
use Rattle.c_objects.specs.Streams.{GivesPart, HasUnion}
use Rattle.c_objects.specs.Union.{AddsShown}
use Rattle.c_objects.specs.declared.union.SeededUnion.{SeededUnion}

-- no error has the status 0
pub not_ok : (e : ErrorKind) → status_of e ≡ 0 → ⊥
not_ok InvalidArgument is = omega (arith, is)
not_ok InvalidData is = omega (arith, is)
not_ok OutOfMemory is = omega (arith, is)
not_ok Policy is = omega (arith, is)
not_ok Failed is = omega (arith, is)

module _ (s t : Shown) (listing others : List ℕ) (old : SeededUnion) (status : ℕ) (new : SeededUnion) where
  -- a merge of an input that shows and lists the same as another
  pub adds_same : s ≡ t → listing ≡ others → AddsShown s listing old status new → AddsShown t others old status new
  adds_same shown listed adds = subst (λ l. AddsShown t l old status new) listed (subst (λ x. AddsShown x listing old status new) shown adds)

  -- a merge with status 0 gave the union one part more
  pub part_given : AddsShown s listing old status new → status ≡ 0 → GivesPart (shown_value hash_key s listing) old.union new.union
  part_given adds ok = elim adds.1 [
    | inl done ↦ done.1.5
    | inr failed ↦ absurd (not_ok failed.0 (sym failed.1 ∙ ok))
  ]

-- the result of a union
pub has_union : {P : Type 0} (u : Union ℕ P) (s : Compact ℕ) → IsAnswer hash_key (union_value hash_key u) u.seed_hash true s
    → ((lg_k k start : ℕ) (hashes : List ℕ) → IsUnionOf lg_k k start u hashes → IsPartOf k start (value_of s) hashes)
    → ((lg_k start : ℕ) (hashes : List ℕ) → IsUnionOf lg_k (2 ^ lg_k) start u hashes → hashes ≢ [] → value_of s ≡ NonEmpty (kmin (2 ^ lg_k) (set_of hashes) start))
    → ((lg_k : ℕ) (hashes : List ℕ) → IsUnionOf lg_k (2 ^ lg_k) MAX_THETA u hashes → true ≡ true → retained_of s ≡ kmin (2 ^ lg_k) (set_of hashes) MAX_THETA)
    → HasUnion u s
has_union u s answer part least all = record {
  part = part;
  seeded = answer-seed hash_key (union_value hash_key u) u.seed_hash true s answer;
  least = least;
  kmin = λ lg_k hashes is. all lg_k hashes is refl;
}
