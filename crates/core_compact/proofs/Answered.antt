-- The value of a result, and its order.
use Rattle.std.proofs.Common.{◌≡◌, ℕ, Bool, true, cond, ap, ◌∙◌}
use Rattle.core_laws.specs.Maps.{map_of}
use Rattle.core_compact.specs.CompactState.{Compact, IsAnswer, compact_value}
use Rattle.core_laws.specs.Values.{Sketch, Empty, NonEmpty}

module _ {X : Type 0} (key : X → ℕ) where
  -- the value of a result is the one that it was made for, and its seed hash is the given one
  pub answer-value : (v : Sketch X) (seed_hash : ℕ) (requested : Bool) (s : Compact X) → IsAnswer key v seed_hash requested s → compact_value key s ≡ v
  answer-value Empty seed_hash requested s is = ap (compact_value key) is
  answer-value (NonEmpty v) seed_hash requested s is =
      ap (λ b. cond b Empty (NonEmpty (record { entries = map_of key s.entries; theta = s.theta }))) is.nonempty
      ∙ ap (λ xs. NonEmpty (record { entries = xs; theta = s.theta })) is.lists_all.same_map
      ∙ ap (λ (t : ℕ). NonEmpty (record { entries = v.entries; theta = t })) is.same_theta

  pub answer-seed : (v : Sketch X) (seed_hash : ℕ) (requested : Bool) (s : Compact X) → IsAnswer key v seed_hash requested s → s.seed_hash ≡ seed_hash
  answer-seed Empty seed_hash requested s is = ap (λ c. c.seed_hash) is
  answer-seed (NonEmpty v) seed_hash requested s is = is.same_seed
