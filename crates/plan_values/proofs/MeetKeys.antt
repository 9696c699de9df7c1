-- The keys of an intersection don't depend on the order of its parts.
use Rattle.std.proofs.Common.{◌≡◌, ℕ, ◌<◌, true, List, [], ◌∷◌, map, None, sym, ap, subst, ◌∙◌, arith}
use Rattle.std.specs.Prelude.{IsPermutation}
use Rattle.std.specs.List.{list_all, AllByRecursion}
use Rattle.std.proofs.lemmas.Bool.Decides.{nat_tests}
use Rattle.std.proofs.lemmas.List.Sorted.{IsPermutation-map}
use Rattle.core_laws.specs.KeysOfValues.{keys_of, IsBelowTheta}
use Rattle.core_laws.specs.Maps.{below}
use Rattle.core_laws.specs.Samples.{IsSample, AreSamples}
use Rattle.core_laws.specs.Values.{Sketch, Empty, NonEmpty, IsAscendingValue}
use Rattle.core_laws.proofs.maps.Ascending.{ascending-filter, each-passes}
use Rattle.core_laws.proofs.operators.SharedKeys.{permuted_keys}
use Rattle.plan_text.specs.declared.plan.Plan.{Plan}
use Rattle.plan_text.specs.declared.plan.Plan.TheVariants as plan
use Rattle.plan_values.specs.Family.{Family, IsFamily}
use Rattle.plan_values.specs.Value.{value_in, fits, plan_refusal}
use Rattle.plan_values.proofs.AcceptedSettings.{accepted, and_right}
use Rattle.plan_values.proofs.NodeEquations.{value_meet, fits_meet}
use Rattle.plan_values.proofs.Samples.{parts_sampled}

-- a sample's keys ascend, below its theta

module _ {X : Type 0} (key : X → ℕ) where
  below_low : (xs : List X) (t : ℕ) → AllByRecursion (λ x. key x < t) (below key xs t)
  below_low xs t = each-passes (λ x. key x < t) _ (λ x passes. grind (arith, nat_tests)) xs

  ascending_sample : (v : Sketch X) (whole : List X) → IsSample key v whole → IsAscendingValue key v
  ascending_sample Empty whole sample = tt
  ascending_sample (NonEmpty v) whole sample = rw sample.all_below (ascending-filter key _ whole sample.ascending)

  low_sample : (v : Sketch X) (whole : List X) → IsSample key v whole → IsBelowTheta key v
  low_sample Empty whole sample = tt
  low_sample (NonEmpty v) whole sample = subst (λ (xs : List X). AllByRecursion (λ x. key x < v.theta) xs) (sym sample.all_below) (below_low whole v.theta)

  all_ascend : (values : List (Sketch X)) (wholes : List (List X)) → AreSamples key values wholes → AllByRecursion (IsAscendingValue key) values
  all_ascend [] [] samples = tt
  all_ascend [] (whole ∷ wholes) samples = absurd samples
  all_ascend (v ∷ values) [] samples = absurd samples
  all_ascend (v ∷ values) (whole ∷ wholes) samples = (ascending_sample v whole samples.0, all_ascend values wholes samples.1)

  all_low : (values : List (Sketch X)) (wholes : List (List X)) → AreSamples key values wholes → AllByRecursion (IsBelowTheta key) values
  all_low [] [] samples = tt
  all_low [] (whole ∷ wholes) samples = absurd samples
  all_low (v ∷ values) [] samples = absurd samples
  all_low (v ∷ values) (whole ∷ wholes) samples = (low_sample v whole samples.0, all_low values wholes samples.1)

module _ {X V Z : Type 0} (f : Family X V) (lawful : IsFamily f) where
  pub meet_any_order : (seed : ℕ) (parts others : List (Plan V Z)) → plan_refusal seed (plan.Meet parts) ≡ None → IsPermutation parts others → keys_of f.key (value_in f (plan.Meet parts)) ≡ keys_of f.key (value_in f (plan.Meet others))
  meet_any_order seed parts others accepts permuted =
      let fit : fits seed (plan.Meet parts) ≡ true = accepted (fits seed (plan.Meet parts)) accepts in
      let all : list_all (λ fit. fit) (map (fits seed) parts) ≡ true = and_right _ _ (sym (fits_meet Z seed parts) ∙ fit) in
      let samples = parts_sampled Z f lawful seed parts all in
      ap (keys_of f.key) (value_meet Z f parts)
      ∙ permuted_keys f.key f.merges lawful.merged (map (value_in f) parts) (map (value_in f) others) (all_ascend f.key _ _ samples) (all_low f.key _ _ samples) (IsPermutation-map (value_in f) parts others permuted)
      ∙ ap (keys_of f.key) (sym (value_meet Z f others))
