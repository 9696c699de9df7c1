-- The result of a plan: one ordered sketch.
use Rattle.std.specs.Prelude.{ℕ, ◌≡◌, true, false, map}
use Rattle.core_compact.specs.CompactState.{Compact, compact_value, ordered_sketch}
use Rattle.core_laws.specs.Cuts.{Retained}
use Rattle.core_laws.specs.Folds.{Fold, unmarked_value}
use Rattle.core_laws.specs.Values.{Sketch}

-- the ordered sketch with this value, which has no mark
abbrev pub IsOrderedSketchOf : {X : Type 0} → (X → ℕ) → Sketch (Fold X) → (seed_hash : ℕ) → Compact X → Type 0
IsOrderedSketchOf key v seed_hash s = (unmarked_value (compact_value key s) ≡ v) × (s ≡ ordered_sketch (compact_value key s) seed_hash)

-- a sketch isn't empty, is ordered, and has these hashes and this theta
pub record HasKeys {X : Type 0} (key : X → ℕ) (v : Retained ℕ) (s : Compact X) : Type 0 where
  pub nonempty : s.empty ≡ false
  pub hashes : map key s.entries ≡ v.entries
  pub theta : s.theta ≡ v.theta
  pub ordered : s.ordered ≡ true
