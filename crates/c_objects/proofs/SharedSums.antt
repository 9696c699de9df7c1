-- What calls on intersections and differences of sketches of sums give.
use Rattle.std.proofs.Common.{◌≡◌, ℕ, Bool, true, List, map, Option, Some, None, inl, inr, refl, sym, subst, ◌∙◌}
use Rattle.std.specs.Prelude.{IfSome}
use Rattle.core_compact.proofs.Answered.{answer-seed}
use Rattle.core_laws.specs.Folds.{Value, fold_key}
use Rattle.core_laws.specs.Maps.{below}
use Rattle.core_laws.specs.Shown.{Shown, shown_value}
use Rattle.core_operators.specs.ANotB.{IsDifference}
use Rattle.core_operators.specs.Intersection.{Intersection, IsAnswerIfAny}
use Rattle.tuple_sketches.specs.Streams.{Compact, Sketch, TupleEntry, Given, tuple_key, combined_number, value_of, shared_by, without, IsSampleOf}
use Rattle.tuple_sketches.specs.declared.numbers.SummaryMode.{SummaryMode}
use Rattle.c_objects.specs.SumsIntersection.{MeetsShownSums, sums_intersection_of, sums_intersection_mode}
use Rattle.c_objects.specs.SumsStreams.{IsSumsIntersectionOf, GivesSumsSample, HasSharedSums, HasLackingSums}
use Rattle.c_objects.specs.declared.sums_intersection.SeededSumsIntersection.{SeededSumsIntersection}
use Rattle.c_objects.proofs.Merges.{not_ok}

module _ (s t : Shown) (listing others : List (TupleEntry ℕ)) (old : SeededSumsIntersection) (status : ℕ) (new : SeededSumsIntersection) where
  -- an input that shows and lists the same as another
  pub meets_same : s ≡ t → listing ≡ others → MeetsShownSums s listing old status new → MeetsShownSums t others old status new
  meets_same shown listed meets = subst (λ l. MeetsShownSums t l old status new) listed (subst (λ x. MeetsShownSums x listing old status new) shown meets)

  -- a call with status 0 gave the intersection one sample more
  pub sample_given : MeetsShownSums s listing old status new → status ≡ 0 → GivesSumsSample (sums_intersection_mode old) (shown_value tuple_key s listing) (sums_intersection_of old) (sums_intersection_of new)
  unfolding MeetsShownSums
  sample_given meets ok = elim meets.1 [
    | inl done ↦ done.1.3
    | inr failed ↦ absurd (not_ok failed.0 (sym failed.1 ∙ ok))
  ]

-- the seed hash of a result
result_seed : (o : Option (Sketch (TupleEntry ℕ))) (h : ℕ) (s : Compact (TupleEntry ℕ)) → IsAnswerIfAny tuple_key o h true (Some s) → s.seed_hash ≡ h
result_seed None h s answer = absurd answer
result_seed (Some v) h s answer = answer-seed tuple_key v h true s answer

-- the result of an intersection
pub has_shared : {P : Type 0} (mode : SummaryMode) (i : Intersection (TupleEntry ℕ) P) (o : Option (Compact (TupleEntry ℕ))) (s : Compact (TupleEntry ℕ)) → o ≡ Some s → IsAnswerIfAny tuple_key i.result i.seed_hash true o
    → IfSome o (λ r. (givens : List (Given ℕ)) → IsSumsIntersectionOf mode i givens → IsSampleOf (value_of r) (shared_by (combined_number mode) givens))
    → IfSome o (λ r. (givens : List (Given ℕ)) → IsSumsIntersectionOf mode i givens → true ≡ true → map Value r.entries ≡ below (fold_key tuple_key) (shared_by (combined_number mode) givens).whole r.theta)
    → IsAnswerIfAny tuple_key i.result i.seed_hash true (Some s) × HasSharedSums mode i s
has_shared mode i o s is answer sample lists =
    let found : IsAnswerIfAny tuple_key i.result i.seed_hash true (Some s) = subst (λ q. IsAnswerIfAny tuple_key i.result i.seed_hash true q) is answer in (
      found,
      record {
        sample = subst (λ q. IfSome q (λ r. (givens : List (Given ℕ)) → IsSumsIntersectionOf mode i givens → IsSampleOf (value_of r) (shared_by (combined_number mode) givens))) is sample;
        below =
            let all : (givens : List (Given ℕ)) → IsSumsIntersectionOf mode i givens → true ≡ true → map Value s.entries ≡ below (fold_key tuple_key) (shared_by (combined_number mode) givens).whole s.theta =
            subst (λ q. IfSome q (λ r. (givens : List (Given ℕ)) → IsSumsIntersectionOf mode i givens → true ≡ true → map Value r.entries ≡ below (fold_key tuple_key) (shared_by (combined_number mode) givens).whole r.theta)) is lists in
            λ givens given. all givens given refl;
        seeded = result_seed i.result i.seed_hash s found;
      },
    )

-- the difference of sketches that show and list the same as others
pub difference_same : (ordered : Bool) (a c b d : Shown) (la lc : List (TupleEntry ℕ)) (s : Compact (TupleEntry ℕ)) → a ≡ c → la ≡ lc → b ≡ d
    → IsDifference tuple_key a la b ordered s → IsDifference tuple_key c lc d ordered s
difference_same ordered a c b d la lc s first firsts second is =
    subst (λ x. IsDifference tuple_key c lc x ordered s) second
    (subst (λ xs. IsDifference tuple_key c xs b ordered s) firsts
    (subst (λ x. IsDifference tuple_key x la b ordered s) first is))

pub has_lacking : (a b : Sketch (TupleEntry ℕ)) (first second s : Compact (TupleEntry ℕ))
    → ((given : Given ℕ) → IsSampleOf (value_of first) given → IsSampleOf a given)
    → ((given : Given ℕ) → IsSampleOf (value_of second) given → IsSampleOf b given)
    → ((given others : Given ℕ) → IsSampleOf a given → IsSampleOf b others → IsSampleOf (value_of s) (without given others))
    → ((given others : Given ℕ) → IsSampleOf a given → IsSampleOf b others → true ≡ true → map Value s.entries ≡ below (fold_key tuple_key) (without given others).whole s.theta)
    → HasLackingSums first second s
has_lacking a b first second s first_viewed second_viewed sample lists = record {
  sample = λ given others x y. sample given others (first_viewed given x) (second_viewed others y);
  below = λ given others x y. lists given others (first_viewed given x) (second_viewed others y) refl;
}
