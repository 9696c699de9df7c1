-- What calls on intersections and differences give.
use Rattle.std.proofs.Common.{◌≡◌, ℕ, true, List, [], ◌∷◌, Option, Some, None, inl, inr, refl, sym, ap, subst, ◌∙◌}
use Rattle.std.specs.Prelude.{IfSome}
use Rattle.core_compact.specs.CompactState.{Compact, IsAnswer}
use Rattle.core_compact.proofs.Answered.{answer-seed}
use Rattle.core_laws.specs.Entries.{hash_key, first_hash}
use Rattle.core_laws.specs.Operators.{meet_next}
use Rattle.core_laws.specs.Shown.{Shown, shown_value}
use Rattle.core_laws.specs.Values.{Sketch}
use Rattle.core_operators.specs.Intersection.{Intersection, IsAnswerIfAny}
use Rattle.theta_sketches.specs.Streams.{value_of, set_below, shared_by, lacking_hashes, IsSampleOf, IsIntersectionOf}
use Rattle.c_objects.specs.Images.{common_value}
use Rattle.c_objects.specs.Intersection.{MeetsShown}
use Rattle.c_objects.specs.Streams.{GivesSample, HasShared, HasCommon, HasLacking}
use Rattle.c_objects.specs.declared.intersection.SeededIntersection.{SeededIntersection}
use Rattle.c_objects.proofs.Merges.{not_ok}

module _ (s t : Shown) (listing others : List ℕ) (old : SeededIntersection) (status : ℕ) (new : SeededIntersection) where
  -- an input that shows and lists the same as another
  pub meets_same : s ≡ t → listing ≡ others → MeetsShown s listing old status new → MeetsShown t others old status new
  meets_same shown listed meets = subst (λ l. MeetsShown t l old status new) listed (subst (λ x. MeetsShown x listing old status new) shown meets)

  -- a call with status 0 gave the intersection one sample more
  pub sample_given : MeetsShown s listing old status new → status ≡ 0 → GivesSample (shown_value hash_key s listing) old.intersection new.intersection
  sample_given meets ok = elim meets.1 [
    | inl done ↦ done.1.3
    | inr failed ↦ absurd (not_ok failed.0 (sym failed.1 ∙ ok))
  ]

-- the seed hash of a result
pub result_seed : (o : Option (Sketch ℕ)) (h : ℕ) (s : Compact ℕ) → IsAnswerIfAny hash_key o h true (Some s) → s.seed_hash ≡ h
result_seed None h s answer = absurd answer
result_seed (Some v) h s answer = answer-seed hash_key v h true s answer

-- the result of an intersection of two compact sketches
module _ {P : Type 0} (none one both : Intersection ℕ P) (a b : Sketch ℕ) (h : ℕ) (o : Option (Compact ℕ)) (s : Compact ℕ) (is : o ≡ Some s) where
  pub common_answer : none.result ≡ None → none.seed_hash ≡ h
      → one.result ≡ Some (meet_next hash_key first_hash none.result a) → one ≡ record none { result = one.result }
      → both.result ≡ Some (meet_next hash_key first_hash one.result b) → both ≡ record one { result = both.result }
      → IsAnswerIfAny hash_key both.result both.seed_hash true o → IsAnswer hash_key (common_value a b) h true s
  common_answer bare seed first first_made second second_made answer =
      let all : both.result ≡ Some (common_value a b) =
      second ∙ ap (λ r. Some (meet_next hash_key first_hash r b)) (first ∙ ap (λ r. Some (meet_next hash_key first_hash r a)) bare) in
      let hash : both.seed_hash ≡ h = ap (λ i. i.seed_hash) second_made ∙ ap (λ i. i.seed_hash) first_made ∙ seed in
      let found : IsAnswerIfAny hash_key (Some (common_value a b)) h true (Some s) =
      subst (λ r. IsAnswerIfAny hash_key r h true (Some s)) all
      (subst (λ (n : ℕ). IsAnswerIfAny hash_key both.result n true (Some s)) hash
      (subst (λ q. IsAnswerIfAny hash_key both.result both.seed_hash true q) is answer)) in
      found

  pub common_samples : (first second : Compact ℕ) → IsIntersectionOf none [] → GivesSample a none one → GivesSample b one both
      → ((hashes : List ℕ) → IsSampleOf (value_of first) hashes → IsSampleOf a hashes)
      → ((hashes : List ℕ) → IsSampleOf (value_of second) hashes → IsSampleOf b hashes)
      → IfSome o (λ r. (streams : List (List ℕ)) → IsIntersectionOf both streams → IsSampleOf (value_of r) (shared_by streams))
      → IfSome o (λ r. (streams : List (List ℕ)) → IsIntersectionOf both streams → true ≡ true → r.entries ≡ set_below r.theta (shared_by streams))
      → HasCommon first second s
  common_samples first second start first_given second_given first_viewed second_viewed sample below =
      let given : (hashes others : List ℕ) → IsSampleOf (value_of first) hashes → IsSampleOf (value_of second) others → IsIntersectionOf both (hashes ∷ others ∷ []) =
      λ hashes others x y. second_given (hashes ∷ []) others (first_given [] hashes start (first_viewed hashes x)) (second_viewed others y) in
      let samples : (streams : List (List ℕ)) → IsIntersectionOf both streams → IsSampleOf (value_of s) (shared_by streams) =
      subst (λ q. IfSome q (λ r. (streams : List (List ℕ)) → IsIntersectionOf both streams → IsSampleOf (value_of r) (shared_by streams))) is sample in
      let lists : (streams : List (List ℕ)) → IsIntersectionOf both streams → true ≡ true → s.entries ≡ set_below s.theta (shared_by streams) =
      subst (λ q. IfSome q (λ r. (streams : List (List ℕ)) → IsIntersectionOf both streams → true ≡ true → r.entries ≡ set_below r.theta (shared_by streams))) is below in
      record {
        sample = λ hashes others x y. samples (hashes ∷ others ∷ []) (given hashes others x y);
        below = λ hashes others x y. lists (hashes ∷ others ∷ []) (given hashes others x y) refl;
      }

-- the result of an intersection
pub has_shared : {P : Type 0} (i : Intersection ℕ P) (o : Option (Compact ℕ)) (s : Compact ℕ) → o ≡ Some s → IsAnswerIfAny hash_key i.result i.seed_hash true o
    → IfSome o (λ r. (streams : List (List ℕ)) → IsIntersectionOf i streams → IsSampleOf (value_of r) (shared_by streams))
    → IfSome o (λ r. (streams : List (List ℕ)) → IsIntersectionOf i streams → true ≡ true → r.entries ≡ set_below r.theta (shared_by streams))
    → IsAnswerIfAny hash_key i.result i.seed_hash true (Some s) × HasShared i s
has_shared i o s is answer sample below =
    let found : IsAnswerIfAny hash_key i.result i.seed_hash true (Some s) = subst (λ q. IsAnswerIfAny hash_key i.result i.seed_hash true q) is answer in (
      found,
      record {
        sample = subst (λ q. IfSome q (λ r. (streams : List (List ℕ)) → IsIntersectionOf i streams → IsSampleOf (value_of r) (shared_by streams))) is sample;
        below =
            let lists : (streams : List (List ℕ)) → IsIntersectionOf i streams → true ≡ true → s.entries ≡ set_below s.theta (shared_by streams) =
            subst (λ q. IfSome q (λ r. (streams : List (List ℕ)) → IsIntersectionOf i streams → true ≡ true → r.entries ≡ set_below r.theta (shared_by streams))) is below in
            λ streams given. lists streams given refl;
        seeded = result_seed i.result i.seed_hash s found;
      },
    )

-- the difference of two sketches
pub has_lacking : (a b : Sketch ℕ) (first second s : Compact ℕ)
    → ((hashes : List ℕ) → IsSampleOf (value_of first) hashes → IsSampleOf a hashes)
    → ((hashes : List ℕ) → IsSampleOf (value_of second) hashes → IsSampleOf b hashes)
    → ((hashes others : List ℕ) → IsSampleOf a hashes → IsSampleOf b others → IsSampleOf (value_of s) (lacking_hashes hashes others))
    → ((hashes others : List ℕ) → IsSampleOf a hashes → IsSampleOf b others → true ≡ true → s.entries ≡ set_below s.theta (lacking_hashes hashes others))
    → HasLacking first second s
has_lacking a b first second s first_viewed second_viewed sample below = record {
  sample = λ hashes others x y. sample hashes others (first_viewed hashes x) (second_viewed others y);
  below = λ hashes others x y. below hashes others (first_viewed hashes x) (second_viewed others y) refl;
}
