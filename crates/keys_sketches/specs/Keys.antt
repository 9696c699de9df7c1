-- The hashes of lines, and their sketch.
use Rattle.std.specs.Prelude.{ℕ, ◌≡◌, ◌⊎◌, ◌^◌, Bool, true, false, List, [], ◌∷◌, map}
use Rattle.sketch_base.specs.Seed.{seed_hash}
use Rattle.core_compact.specs.CompactState.{Compact, ordered_sketch}
use Rattle.core_laws.specs.Entries.{hash_step, hash_key}
use Rattle.core_laws.specs.Leaf.{kmin}
use Rattle.core_laws.specs.Values.{Sketch, Empty, NonEmpty}
use Rattle.core_table.specs.HashTable.{MapTable, empty_table}
use Rattle.core_laws.specs.Insertion.{after_upsert}
use Rattle.core_state.specs.Updatable.{Updatable}
use Rattle.core_laws.specs.declared.TheConstants.{MAX_THETA}
use Rattle.theta_sketches.specs.Image.{written}
use Rattle.theta_sketches.specs.Streams.{set_of}
use Rattle.keys_lines.specs.Keys.{line_hash}
use Rattle.keys_lines.specs.Lines.{lines_of}
use Rattle.keys_lines.specs.declared.key.Hashing.{Hashing}

-- the hashes of lines, a stream
abbrev pub line_hashes : Hashing → List (List ℕ) → List ℕ
line_hashes hashing lines = map (line_hash hashing) lines

-- the set of the hashes of lines
abbrev pub key_set : Hashing → List (List ℕ) → List ℕ
key_set hashing lines = set_of (line_hashes hashing lines)

-- the value of lines: the k smallest of the set of their hashes, and Empty if there are no lines
abbrev pub value_of_lines : Hashing → (lg_k : ℕ) → List (List ℕ) → Sketch ℕ
value_of_lines hashing lg_k [] = Empty
value_of_lines hashing lg_k (line ∷ lines) = NonEmpty (kmin (2 ^ lg_k) (key_set hashing (line ∷ lines)) MAX_THETA)

-- the ordered sketch of a value, under this seed
abbrev pub sketch_of_value : (seed : ℕ) → Sketch ℕ → Compact ℕ
sketch_of_value seed v = ordered_sketch v (seed_hash seed)

-- a line is among lines
abbrev pub IsAmong : (line : List ℕ) → List (List ℕ) → Type 0
IsAmong line [] = ⊥
IsAmong line (other ∷ lines) = (line ≡ other) ⊎ IsAmong line lines

-- both have the same lines, in any order and with any repeats
abbrev pub HaveSameLines : (lines others : List (List ℕ)) → Type 0
HaveSameLines lines others =
    ((line : List ℕ) → IsAmong line lines → IsAmong line others)
    × ((line : List ℕ) → IsAmong line others → IsAmong line lines)

-- the image of lines
abbrev pub image_of_lines : Hashing → (lg_k : ℕ) → List (List ℕ) → List ℕ
image_of_lines hashing lg_k lines = written (sketch_of_value hashing.seed (value_of_lines hashing lg_k lines))

-- the image of a text's lines
abbrev pub image_of_text : Hashing → (lg_k : ℕ) → List ℕ → List ℕ
image_of_text hashing lg_k text = written (sketch_of_value hashing.seed (value_of_lines hashing lg_k (lines_of text)))

-- the state of a sketch without the order of its listing
pub record LineState : Type 0 where
  pub map : MapTable ℕ
  pub empty : Bool

abbrev pub line_state : Updatable ℕ → LineState
line_state s = record { map = s.map; empty = s.empty }

-- the state of a new sketch
abbrev pub new_state : (seed lg_k : ℕ) → LineState
new_state seed lg_k = record { map = empty_table lg_k MAX_THETA seed; empty = true }

-- the state after one more line, and after more lines
abbrev pub with_line : Hashing → LineState → List ℕ → LineState
with_line hashing s line =
    record {
      map = record s.map { kept = after_upsert hash_key (2 ^ s.map.lg_nom) (line_hash hashing line) (hash_step (line_hash hashing line)) s.map.kept };
      empty = false;
    }

abbrev pub with_lines : Hashing → LineState → List (List ℕ) → LineState
with_lines hashing s [] = s
with_lines hashing s (line ∷ lines) = with_lines hashing (with_line hashing s line) lines
