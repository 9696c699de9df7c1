-- Sketches that take updates, of either family.
use Rattle.std.specs.Prelude.{ℕ, ◌≤◌, ◌≡◌, ◌==◌, ◌&&◌, Bool, true, false, if◌then◌else◌, List, length, map, IsTrue}
use Rattle.core_laws.specs.declared.TheConstants.{MIN_LG_K, MAX_LG_K}
use Rattle.core_laws.specs.Values.{Sketch, Empty, NonEmpty, theta_of}
use Rattle.core_laws.specs.Parts.{StopsAt}
use Rattle.core_table.specs.HashTable.{MapTable, after_hashes, hash_allocates}
use Rattle.core_laws.specs.Cuts.{none_below}
use Rattle.core_laws.specs.Shown.{Shown}

-- a sketch: whether it is empty (no update was accepted yet), its table, and its entries in the unspecified order of
-- its iterator
pub record Updatable (X : Type 0) : Type 0 where
  pub empty : Bool
  pub map : MapTable X
  pub sequence : List X

-- the invariant of a sketch: its nominal entries are in range, and if it is empty, it has no entries and its starting theta
pub record IsUpdatable {X : Type 0} (s : Updatable X) : Type 0 where
  pub lg_k_low : MIN_LG_K ≤ s.map.lg_nom
  pub lg_k_high : s.map.lg_nom ≤ MAX_LG_K
  pub none_yet : s.empty ≡ true → s.map.kept ≡ none_below s.map.start

-- the value of a sketch
abbrev pub sketch_value : {X : Type 0} → Updatable X → Sketch X
sketch_value s = if s.empty then Empty else NonEmpty s.map.kept

-- what a sketch shows; it is never ordered
abbrev pub sketch_shows : {X : Type 0} → (X → ℕ) → Updatable X → Shown
sketch_shows key s =
    record {
      empty = s.empty;
      theta = theta_of (sketch_value s);
      seed_hash = s.map.seed_hash;
      ordered = false;
      hashes = map key s.sequence;
    }

-- updates with hashes stopped at one that makes an entry, because memory was refused: the sketch has accepted exactly
-- the hashes before it
abbrev pub StopsUpdates : (hashes : List ℕ) → (old new : Updatable ℕ) → Type 0
StopsUpdates hashes old new =
    StopsAt hashes (λ front hash.
    (new.map ≡ after_hashes front old.map)
    × (new.empty ≡ (old.empty && length front == 0))
    × IsTrue (hash_allocates hash new.map.kept))
