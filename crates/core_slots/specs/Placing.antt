-- Entries that are placed in slots, and the looks that this takes.
use Rattle.std.specs.Prelude.{ℕ, ◌<◌, ◌≤◌, ◌≡◌, ◌+◌, ◌*◌, Option, None, List}
use Rattle.core_slots.specs.SlotLayout.{slot, IsOnPath, IsLaidOut}

-- the slot `at` is free, and a search for this entry, whose hash is not 0, ends there
pub record IsFreeFor {X : Type 0} (key : X → ℕ) (lg : ℕ) (slots : List (Option X)) (at : ℕ) (entry : X) : Type 0 where
  pub laid_out : IsLaidOut key lg slots
  pub free : slot slots at ≡ None
  pub on_path : IsOnPath key lg slots (key entry) at
  pub nonzero : 0 < key entry

-- placing n entries took a look for each
abbrev pub LooksForEach : (n before after : ℕ) → Type 0
LooksForEach n before after = before + n ≤ after

-- placing n entries in free slots took at most 1 + 2 + .. + n looks: each entry may look at those placed before it
abbrev pub LooksAtPlaced : (n before after : ℕ) → Type 0
LooksAtPlaced n before after = 2 * after ≤ 2 * before + n * (n + 1)
