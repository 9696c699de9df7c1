-- What a reader of a part has left.
use Rattle.std.specs.Prelude.{ℕ, ◌≡◌, ◌+◌, ◌-◌, ◌≤◌, ◌&&◌, ◌==◌, List, [], ◌∷◌, ◌++◌, length, take, Option, if◌then◌else◌}
use Rattle.keys_lines.specs.Lines.{Lacks}
use Rattle.std.specs.Option.{option_map}
use Rattle.keys_parts.specs.declared.part.Part.{Part}
use Rattle.keys_parts.specs.declared.stage.Stage.{Stage}
use Rattle.keys_parts.specs.declared.stage.Stage.TheVariants.{Whole, Skipping, Passing, Ended}

-- the bytes through the first LF after so many bytes, or all of them
abbrev pub passed : (before : ℕ) → List ℕ → List ℕ
passed before [] = []
passed before (byte ∷ text) = byte ∷ (if before == 0 && byte == 10 then [] else passed (before - 1) text)

-- what is passed after the first LF of the first `count` bytes, where the range has as many bytes left as these; nothing if they have no LF
abbrev pub skipped : (count : ℕ) → List ℕ → List ℕ
skipped count [] = []
skipped count (byte ∷ text) = if count == 0 then [] else (if byte == 10 then passed (count - 1) text else skipped (count - 1) text)

-- the bytes of a part that are left at a stage, if the reader of the text has these left
abbrev pub rest_of : Stage → List ℕ → List ℕ
rest_of Whole text = text
rest_of (Skipping count) text = skipped count text
rest_of (Passing before) text = passed before text
rest_of Ended text = []

-- the bytes that a reader of a part has left, if they are known
abbrev pub part_remaining : {R : Type 0} → (remaining : R → Option (List ℕ)) → Part R → Option (List ℕ)
part_remaining remaining part = option_map (rest_of part.stage) (remaining part.inner)

-- the first `count` bytes have no LF
abbrev pub HasNoEnd : (count : ℕ) → List ℕ → Type 0
HasNoEnd count bytes = Lacks 10 (take count bytes)

-- the first LF of the bytes is among the first `count`, and `end` of them are through this LF
abbrev pub BeginsAfter : (count : ℕ) (bytes : List ℕ) (end : ℕ) → Type 0
BeginsAfter count bytes end =
    (line : List ℕ) × (others : List ℕ) × Lacks 10 line × (bytes ≡ line ++ 10 ∷ others) × (end ≡ length line + 1) × (end ≤ count)
