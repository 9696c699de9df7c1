-- Byte strings that lie one after another, by where each ends.
use Rattle.std.specs.Prelude.{◌≡◌, ◌⊎◌, ◌&&◌, ℕ, Bool, true, false, List, [], ◌∷◌, length, slice_range, nat_le}
use Rattle.sketch_base.specs.Seed.{hash_of}
use Rattle.c_objects.specs.Thetas.{UpdatesHashes}
use Rattle.c_objects.specs.declared.theta.SeededSketch.{SeededSketch}

-- whether strings may end there, the first of which begins at `start`: the ends ascend, and none is past the bytes
abbrev pub are_ends : (start count : ℕ) → List ℕ → Bool
are_ends start count [] = true
are_ends start count (e ∷ es) = nat_le start e && (nat_le e count && are_ends e count es)

-- the hashes of the strings that end there, the first of which begins at `start`
abbrev pub string_hashes : (seed : ℕ) → (bytes : List ℕ) → (start : ℕ) → List ℕ → List ℕ
string_hashes seed bytes start [] = []
string_hashes seed bytes start (e ∷ es) = hash_of seed (slice_range bytes start e) ∷ string_hashes seed bytes e es

-- strings were inserted by their hashes, as `UpdatesHashes` says of those; or memory for the hashes was refused, with
-- 3, or the ends are out of range, with 1, and nothing has changed
abbrev pub UpdatesStrings : (bytes ends : List ℕ) → (old : SeededSketch) → (status : ℕ) → (new : SeededSketch) → Type 0
UpdatesStrings bytes ends old status new =
    ((are_ends 0 (length bytes) ends ≡ true) × UpdatesHashes (string_hashes old.seed bytes 0 ends) old status new)
    ⊎ ((new ≡ old) × ((status ≡ 3) ⊎ ((status ≡ 1) × (are_ends 0 (length bytes) ends ≡ false))))
