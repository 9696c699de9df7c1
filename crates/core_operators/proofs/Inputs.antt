-- The inputs of a union, read one after another.
use Rattle.std.proofs.Common.{◌≡◌, ℕ, ◌<◌, ◌≤◌, min, Bool, true, false, eqb, List, [], ◌∷◌, map, refl, sym, ap, ◌∙◌, arith}
use Rattle.std.specs.Prelude.{◌&&◌}
use Rattle.std.specs.List.{AllByRecursion}
use Rattle.std.proofs.lemmas.Bool.Decides.{nat_tests}
use Rattle.core_laws.specs.declared.TheConstants.{MAX_THETA}
use Rattle.core_laws.specs.Operators.{least}
use Rattle.core_laws.specs.Shown.{Shown}
use Rattle.core_operators.specs.Union.{IsInput, all_empty, least_theta, share_seed}

and_false : (b : Bool) → (b && false) ≡ false
and_false true = refl
and_false false = refl

module _ {X S : Type 0} (key : X → ℕ) (shown : S → Shown) (listing : S → List X) where
  -- what is known of the inputs that were read, with those that are left, is what holds of all
  pub record IsSurvey (seed_hash : ℕ) (all left : List S) (empty : Bool) (theta : ℕ) : Type 0 where
    pub empty_is : (empty && all_empty shown left) ≡ all_empty shown all
    pub theta_is : least theta (map (λ s. (shown s).theta) left) ≡ least_theta shown all
    pub high : theta ≤ MAX_THETA
    pub seeds : share_seed shown seed_hash left ≡ share_seed shown seed_hash all
    pub inputs : AllByRecursion (λ s. IsInput key (shown s) (listing s)) left → AllByRecursion (λ s. IsInput key (shown s) (listing s)) all

  module _ (seed_hash : ℕ) (all left : List S) (s : S) (empty : Bool) (theta : ℕ) (known : IsSurvey seed_hash all (s ∷ left) empty theta) (input : IsInput key (shown s) (listing s)) where
    pub survey-empty : (shown s).empty ≡ true → IsSurvey seed_hash all left empty theta
    survey-empty e =
        let same : min theta (shown s).theta ≡ theta = omega (arith, input.lawful.greatest e, known.high) in
        record {
          empty_is = rw e at known.empty_is;
          theta_is = ap (λ (t : ℕ). least t (map (λ r. (shown r).theta) left)) (sym same) ∙ known.theta_is;
          high = known.high;
          seeds = rw e at known.seeds;
          inputs = λ rest. known.inputs (input, rest);
        }

    pub survey-next : (shown s).empty ≡ false → (seed_hash ≡ (shown s).seed_hash) → IsSurvey seed_hash all left false (min theta (shown s).theta)
    survey-next e own =
        let same : eqb seed_hash (shown s).seed_hash ≡ true = grind (arith, nat_tests) in
        record {
          empty_is = sym (and_false empty) ∙ (rw e at known.empty_is);
          theta_is = known.theta_is;
          high = omega (arith, known.high);
          seeds = rw (e, same) at known.seeds;
          inputs = λ rest. known.inputs (input, rest);
        }

  least-positive : (left : List S) (theta : ℕ) → 0 < theta → AllByRecursion (λ s. IsInput key (shown s) (listing s)) left → 0 < least theta (map (λ s. (shown s).theta) left)
  least-positive [] theta low all = low
  least-positive (s ∷ left) theta low all = least-positive left (min theta (shown s).theta) (omega (arith, low, all.0.lawful.theta_low)) all.1

  -- the least theta of inputs is at least 1
  pub least_theta-low : (sketches : List S) → AllByRecursion (λ s. IsInput key (shown s) (listing s)) sketches → 0 < least_theta shown sketches
  least_theta-low sketches all = least-positive sketches MAX_THETA (omega arith) all
