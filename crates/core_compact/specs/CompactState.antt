-- Compact states.
use Rattle.std.specs.Prelude.{ℕ, ◌≡◌, ◌==◌, ◌&&◌, ◌||◌, Bool, true, false, List, [], length, map, if◌then◌else◌}
use Rattle.core_laws.specs.declared.TheConstants.{MAX_THETA}
use Rattle.core_laws.specs.Cuts.{Retained}
use Rattle.core_laws.specs.Maps.{map_of, IsListing}
use Rattle.core_laws.specs.Values.{Sketch, Empty, NonEmpty}
use Rattle.core_laws.specs.Shown.{Shown, IsShown}

-- the contents of a compact state: its entries in their order, and whether they are known to ascend
pub record Compact (X : Type 0) : Type 0 where
  pub empty : Bool
  pub entries : List X
  pub theta : ℕ
  pub seed_hash : ℕ
  pub ordered : Bool

-- the state of an empty sketch
abbrev pub empty_compact : {X : Type 0} → ℕ → Compact X
empty_compact seed_hash = record { empty = true; entries = []; theta = MAX_THETA; seed_hash = seed_hash; ordered = true }

-- what a compact state shows
abbrev pub shown_of : {X : Type 0} → (X → ℕ) → Compact X → Shown
shown_of key s = record { empty = s.empty; theta = s.theta; seed_hash = s.seed_hash; ordered = s.ordered; hashes = map key s.entries }

-- the laws of every compact state: those of what it shows, and an empty one is ordered
pub record IsCompact {X : Type 0} (key : X → ℕ) (s : Compact X) : Type 0 where
  pub shown : IsShown (shown_of key s)
  pub empty_ordered : s.empty ≡ true → s.ordered ≡ true

-- a result is ordered if `requested`, or if it has one entry and the greatest theta
abbrev pub is_answer_ordered : (requested : Bool) → (count theta : ℕ) → Bool
is_answer_ordered requested count theta = requested || (count == 1 && theta == MAX_THETA)

-- s lists the retained entries, each once, and ascending if it is ordered
pub record IsCompactOf {X : Type 0} (key : X → ℕ) (v : Retained X) (seed_hash : ℕ) (requested : Bool) (s : Compact X) : Type 0 where
  pub nonempty : s.empty ≡ false
  pub same_theta : s.theta ≡ v.theta
  pub same_seed : s.seed_hash ≡ seed_hash
  pub ordered_if : s.ordered ≡ is_answer_ordered requested (length v.entries) v.theta
  pub lists_all : IsListing key v.entries s.entries
  pub in_order : s.ordered ≡ true → s.entries ≡ v.entries

-- s is the result that has this value
abbrev pub IsAnswer : {X : Type 0} → (X → ℕ) → Sketch X → (seed_hash : ℕ) → (requested : Bool) → Compact X → Type 0
IsAnswer key Empty seed_hash requested s = s ≡ empty_compact seed_hash
IsAnswer key (NonEmpty v) seed_hash requested s = IsCompactOf key v seed_hash requested s

-- the value of a compact state
abbrev pub compact_value : {X : Type 0} → (X → ℕ) → Compact X → Sketch X
compact_value key s = if s.empty then Empty else NonEmpty (record { entries = map_of key s.entries; theta = s.theta })

-- the ordered sketch of a value
abbrev pub ordered_sketch : {X : Type 0} → Sketch X → (seed_hash : ℕ) → Compact X
ordered_sketch Empty seed_hash = empty_compact seed_hash
ordered_sketch (NonEmpty v) seed_hash = record { empty = false; entries = v.entries; theta = v.theta; seed_hash = seed_hash; ordered = true }
