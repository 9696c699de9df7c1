-- The value of an intersection after an update.
use Rattle.std.proofs.Common.{◌≡◌, ℕ, Bool, true, false, cond, eqb, not, List, [], ◌∷◌, map, length, min, Some, refl, sym, ap, ◌∙◌, arith}
use Rattle.std.specs.Prelude.{◌&&◌}
use Rattle.std.specs.Option.{option_map}
use Rattle.std.proofs.lemmas.Bool.Decides.{nat_tests}
use Rattle.std.proofs.lemmas.List.{length-map, length-append}
use Rattle.core_laws.specs.declared.TheConstants.{MAX_THETA}
use Rattle.core_operators.specs.declared.intersection.Outcome.{Outcome}
use Rattle.core_operators.specs.declared.intersection.Outcome.TheVariants.{Unbegun, Nothing, Held}
use Rattle.core_laws.specs.Cuts.{Retained, IsRetained, none_below}
use Rattle.core_laws.specs.Maps.{below, above, map_of}
use Rattle.core_operators.specs.Intersection.{outcome_value, content_of, is_settled_outcome, is_begun, is_nothing_left}
use Rattle.core_laws.specs.Operators.{meet_next, shared, is_disjoint}
use Rattle.core_laws.specs.Values.{Empty, NonEmpty}
use Rattle.core_laws.specs.Folds.{Fold, Value, fold_key, fold_merges, unmarked, unmarked_value}
use Rattle.core_laws.proofs.maps.Ascending.{ascending-nil}

pub not_begun : (o : Outcome) → is_begun o ≡ false → o ≡ Unbegun
not_begun Unbegun e = refl
not_begun Nothing e = absurd (cc)
not_begun Held e = absurd (cc)

module _ {X : Type 0} where
  pub none_retained : (key : X → ℕ) → IsRetained key (none_below MAX_THETA)
  none_retained key = record { ascending = ascending-nil key; nonzero = tt; below_theta = tt; theta_low = omega arith; theta_high = omega arith }

  -- the value of an outcome that is begun and isn't Empty is what is retained
  pub held_value : (o : Outcome) (v : Retained X) → is_settled_outcome o ≡ false → is_begun o ≡ true → outcome_value o v ≡ Some (NonEmpty v)
  held_value Unbegun v a b = absurd (cc)
  held_value Nothing v a b = absurd (cc)
  held_value Held v a b = refl

  -- the laws of retained entries hold for an intersection's value if they hold for what it keeps
  pub held_retained : (key : X → ℕ) (o : Outcome) (v : Retained X) → IsRetained key v → IsRetained key (content_of (outcome_value o v))
  held_retained key Unbegun v kept = none_retained key
  held_retained key Nothing v kept = none_retained key
  held_retained key Held v kept = kept

module _ {X : Type 0} (key : X → ℕ) where
  none_listed : (xs : List X) → eqb (length xs) 0 ≡ eqb (length (map_of key xs)) 0
  none_listed [] = refl
  none_listed (x ∷ xs) =
      let count = length-append (below key (map_of key xs) (key x)) (x ∷ above key (map_of key xs) (key x)) in
      let some : eqb (length (map_of key (x ∷ xs))) 0 ≡ false = grind (arith, nat_tests, count) in
      let first : eqb (length (x ∷ xs)) 0 ≡ false = grind (arith, nat_tests) in
      first ∙ sym some

module _ {X : Type 0} (key : X → ℕ) (merges : X → X → X) (refuses : X → X → Bool) where
  -- the outcome with the shared entries is the meet of the retained and the incoming entries
  pub met_value : (old new : Retained X) (listing : List X) (theta : ℕ) (o : Outcome) →
      unmarked new ≡ shared (fold_key key) (fold_merges key merges refuses) (unmarked old) (unmarked (record { entries = map_of key listing; theta = theta })) →
      o ≡ cond (is_nothing_left new.theta (length old.entries) (length listing) (length new.entries)) Nothing Held →
      option_map unmarked_value (outcome_value o new) ≡ Some (meet_next (fold_key key) (fold_merges key merges refuses) (Some (NonEmpty (unmarked old))) (NonEmpty (unmarked (record { entries = map_of key listing; theta = theta }))))
  met_value old new listing theta o is_shared outcome =
      let fk = fold_key key in
      let fm = fold_merges key merges refuses in
      let v : Retained X = record { entries = map_of key listing; theta = theta } in
      let marked : X → Fold X = λ x. Value x in
      let left : ℕ = length (shared fk fm (unmarked old) (unmarked v)).entries in
      let m : ℕ = min old.theta theta in
      let theta_is : new.theta ≡ m = ap (λ u. u.theta) is_shared in
      let held_is : length old.entries ≡ length (map marked old.entries) = sym (length-map old.entries marked) in
      let come_is : eqb (length listing) 0 ≡ eqb (length (map marked (map_of key listing))) 0 = none_listed key listing ∙ ap (λ (n : ℕ). eqb n 0) (sym (length-map (map_of key listing) marked)) in
      let left_is : length new.entries ≡ left = sym (length-map new.entries marked) ∙ ap (λ u. length u.entries) is_shared in
      let same : is_nothing_left new.theta (length old.entries) (length listing) (length new.entries) ≡ is_disjoint fk fm (unmarked old) (unmarked v) =
      ap (λ (t : ℕ). is_nothing_left t (length old.entries) (length listing) (length new.entries)) theta_is
      ∙ ap (λ (n : ℕ). is_nothing_left m n (length listing) (length new.entries)) held_is
      ∙ ap (λ (b : Bool). eqb m MAX_THETA && (not (eqb (length (map marked old.entries)) 0) && (not b && eqb (length new.entries) 0))) come_is
      ∙ ap (λ (n : ℕ). eqb m MAX_THETA && (not (eqb (length (map marked old.entries)) 0) && (not (eqb (length (map marked (map_of key listing))) 0) && eqb n 0))) left_is in
      ap (λ (p : Outcome). option_map unmarked_value (outcome_value p new)) (outcome ∙ ap (λ (b : Bool). cond b Nothing Held) same)
      ∙ elim (is_disjoint fk fm (unmarked old) (unmarked v)) as (λ b. option_map unmarked_value (outcome_value (cond b Nothing Held) new) ≡ Some (cond b Empty (NonEmpty (shared fk fm (unmarked old) (unmarked v))))) [
        | true ↦ refl
        | false ↦ ap (λ u. Some (NonEmpty u)) is_shared
      ]
