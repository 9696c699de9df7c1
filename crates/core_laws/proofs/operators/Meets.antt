-- Intersections: one more input, and the entry at each key.
use Rattle.std.proofs.Common.{◌≡◌, ℕ, true, false, cond, List, [], ◌∷◌, ◌++◌, refl, ◌<◌, min, ltb, map, None, sym, ap, ◌∙◌, arith}
use Rattle.core_laws.specs.Cuts.{Retained}
use Rattle.core_laws.specs.Values.{Sketch, Empty, NonEmpty}
use Rattle.core_laws.specs.Operators.{meet, meet_from, is_disjoint, shared, common, least, both, all_have}
use Rattle.std.proofs.lemmas.Bool.Decides.{nat_tests}
use Rattle.core_laws.specs.Maps.{entry_at}
use Rattle.core_laws.proofs.maps.LookUps.{entry_at-below}
use Rattle.core_laws.proofs.operators.CommonMaps.{entry_at-common}
use Rattle.core_laws.proofs.operators.Unions.{least-le}
use Rattle.core_laws.specs.Entries.{KeepsKey}

module _ {X : Type 0} (key : X → ℕ) (merges : X → X → X) where
  meet_from_more : (values : List (Sketch X)) (u : Retained X) (last : Sketch X) → meet_from key merges u (values ++ last ∷ []) ≡ meet key merges (meet_from key merges u values ∷ last ∷ [])
  meet_from_more [] u last = refl
  meet_from_more (Empty ∷ values) u last = refl
  meet_from_more (NonEmpty v ∷ values) u last =
      elim (is_disjoint key merges u v) as (λ b. cond b Empty (meet_from key merges (shared key merges u v) (values ++ last ∷ [])) ≡ meet key merges (cond b Empty (meet_from key merges (shared key merges u v) values) ∷ last ∷ [])) [
        | true ↦ refl
        | false ↦ meet_from_more values (shared key merges u v) last
      ]

  -- meeting a list at once is meeting its last value with the meet of the others
  pub meet_of_meet : (first : Sketch X) (values : List (Sketch X)) (last : Sketch X) → meet key merges ((first ∷ values) ++ last ∷ []) ≡ meet key merges (meet key merges (first ∷ values) ∷ last ∷ [])
  meet_of_meet Empty values last = refl
  meet_of_meet (NonEmpty v) values last = meet_from_more values v last

module _ {X : Type 0} (key : X → ℕ) (merges : X → X → X) (keeps : KeepsKey key merges) where
  pub empty_nonempty : (r : Retained X) → Empty ≡ NonEmpty r → ⊥
  empty_nonempty r e = cc

  -- the shared entry at each key
  pub shared_look : (u v : Retained X) (q : ℕ) → entry_at key (shared key merges u v).entries q ≡ cond (ltb q (min u.theta v.theta)) (both merges (entry_at key u.entries q) (entry_at key v.entries q)) None
  shared_look u v q = entry_at-below key (common key merges u.entries v.entries) (min u.theta v.theta) q ∙ ap (λ o. cond (ltb q (min u.theta v.theta)) o None) (entry_at-common key merges keeps u.entries v.entries q)

  meet_from_shows : (vs : List (Retained X)) (u r : Retained X) → meet_from key merges u (map NonEmpty vs) ≡ NonEmpty r → (r.theta ≡ least u.theta (map (λ v. v.theta) vs)) × ((q : ℕ) → q < r.theta → entry_at key r.entries q ≡ all_have key merges (entry_at key u.entries q) vs q)
  meet_from_shows [] u r e = let same : u ≡ r = cc in (ap (λ v. v.theta) (sym same), λ q lt. ap (λ v. entry_at key v.entries q) (sym same))
  meet_from_shows (v ∷ vs) u r e =
      (elim (is_disjoint key merges u v) as (λ b. cond b Empty (meet_from key merges (shared key merges u v) (map NonEmpty vs)) ≡ NonEmpty r → (r.theta ≡ least (min u.theta v.theta) (map (λ v. v.theta) vs)) × ((q : ℕ) → q < r.theta → entry_at key r.entries q ≡ all_have key merges (both merges (entry_at key u.entries q) (entry_at key v.entries q)) vs q)) [
        | true ↦ λ e. absurd (empty_nonempty r e)
        | false ↦ λ e.
            let rest : (r.theta ≡ least (min u.theta v.theta) (map (λ v. v.theta) vs)) × ((q : ℕ) → q < r.theta → entry_at key r.entries q ≡ all_have key merges (entry_at key (shared key merges u v).entries q) vs q) = meet_from_shows vs (shared key merges u v) r e in (
              rest.0,
              λ q lt.
                  let low : ltb q (min u.theta v.theta) ≡ true = (let bound = least-le (map (λ v. v.theta) vs) (min u.theta v.theta) in let less : q < min u.theta v.theta = omega (arith, lt, rest.0, bound) in grind (arith, nat_tests)) in
                  rest.1 q lt ∙ ap (λ o. all_have key merges o vs q) (shared_look u v q ∙ ap (λ b. cond b (both merges (entry_at key u.entries q) (entry_at key v.entries q)) None) low),
            )
      ]) e

  pub meet_shows : (u : Retained X) (vs : List (Retained X)) (r : Retained X) → meet key merges (NonEmpty u ∷ map NonEmpty vs) ≡ NonEmpty r → (r.theta ≡ least u.theta (map (λ v. v.theta) vs)) × ((q : ℕ) → q < r.theta → entry_at key r.entries q ≡ all_have key merges (entry_at key u.entries q) vs q)
  meet_shows u vs r e = meet_from_shows vs u r e
