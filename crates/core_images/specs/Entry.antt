-- How images spell entries: a parameter, so that images of every family share this. A hash is spelled by its eight bytes.
use Rattle.std.specs.Prelude.{ℕ, ◌≡◌, List, length, ◌≤◌, ◌++◌, [], ◌∷◌, drop, false}
use Rattle.sketch_base.specs.Bytes.{number}
use Rattle.core_compact.specs.CompactState.{Compact, shown_of}
use Rattle.core_laws.specs.Shown.{IsShown}
use Rattle.core_images.specs.declared.preamble.Preamble.{Preamble}

-- these bytes spell the hash
abbrev pub SpellsHash : List ℕ → ℕ → Type 0
SpellsHash bytes h = (length bytes ≡ 8) × (h ≡ number bytes)

-- the text is the spellings of the entries, one after another
abbrev pub SpellsEach : {X : Type 0} → (List ℕ → X → Type 0) → List ℕ → List X → Type 0
SpellsEach Spells text [] = text ≡ []
SpellsEach Spells text (x ∷ xs) = (first : List ℕ) × (rest : List ℕ) × (text ≡ first ++ rest) × Spells first x × SpellsEach Spells rest xs

-- the bytes begin with the spellings of these entries, and there are `count` entries
pub record Holds {X : Type 0} (Spells : List ℕ → X → Type 0) (bytes : List ℕ) (count : ℕ) (xs : List X) : Type 0 where
  pub text : List ℕ
  pub after : List ℕ
  pub there : bytes ≡ text ++ after
  pub spelled : SpellsEach Spells text xs
  pub counted : length xs ≡ count

-- the state of a sketch that is not empty, with a preamble's theta and order
abbrev pub state_after_preamble : {X : Type 0} → Preamble → (seed_hash : ℕ) → List X → Compact X
state_after_preamble p seed_hash xs = record { empty = false; entries = xs; theta = p.theta; seed_hash = seed_hash; ordered = p.ordered }

-- after this preamble the bytes have the spellings of these entries, and a sketch may show these entries
pub record HasEntries {X : Type 0} (key : X → ℕ) (Spells : List ℕ → X → Type 0) (bytes : List ℕ) (p : Preamble) (h : ℕ) (xs : List X) : Type 0 where
  pub whole : p.start ≤ length bytes
  pub content : Holds Spells (drop p.start bytes) p.count xs
  pub lawful : IsShown (shown_of key (state_after_preamble p h xs))
