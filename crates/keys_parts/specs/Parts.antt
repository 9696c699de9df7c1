-- The parts of a text: the lines that begin in a range of its places.
use Rattle.std.specs.Prelude.{ℕ, ◌+◌, ◌*◌, ◌/◌, Bool, ◌&&◌, ◌==◌, nat_lt, nat_le, List, [], ◌∷◌, map, length, if◌then◌else◌}
use Rattle.std.specs.List.{concat, onto_first, range_with_len}
use Rattle.keys_parts.specs.declared.places.Places.{Places}

-- the lines of a text, each with the LF that ends it, which the last may lack
abbrev pub ended_lines : List ℕ → List (List ℕ)
ended_lines [] = []
ended_lines (byte ∷ text) = if byte == 10 then (byte ∷ []) ∷ ended_lines text else onto_first byte (ended_lines text)

-- a place is in a range: it is at least `from` and below `to`
abbrev pub is_within : (from to place : ℕ) → Bool
is_within from to place = nat_le from place && nat_lt place to

-- The lines that begin in a range. The first begins at `place`, and each other where the line before it ends.
abbrev pub lines_within : (from to place : ℕ) → List (List ℕ) → List (List ℕ)
lines_within from to place [] = []
lines_within from to place (line ∷ lines) =
    if is_within from to place then line ∷ lines_within from to (place + length line) lines
    else lines_within from to (place + length line) lines

-- the bytes of the lines of a text that begin in a range of its places, which are counted from 0
abbrev pub part_of : (from to : ℕ) (text : List ℕ) → List ℕ
part_of from to text = concat (lines_within from to 0 (ended_lines text))

-- where so many of `parts` equal ranges of a text of this size end
abbrev pub bound : (size parts count : ℕ) → ℕ
bound size parts count = (size * count) / parts

-- the range after so many of `parts` equal ranges of a text of this size
abbrev pub places_of : (size parts before : ℕ) → Places
places_of size parts before = record { from = bound size parts before; to = bound size parts (before + 1) }

-- the part of a text that begins in a range
abbrev pub part_within : Places → (text : List ℕ) → List ℕ
part_within places text = part_of places.from places.to text

-- the first `count` of so many parts of a text, whose ranges are equal
abbrev pub first_parts : (text : List ℕ) (parts count : ℕ) → List (List ℕ)
first_parts text parts count = map (λ before. part_within (places_of (length text) parts before) text) (range_with_len 0 count)

-- all parts of a text, of which there are so many
abbrev pub parts_of : (text : List ℕ) (parts : ℕ) → List (List ℕ)
parts_of text parts = first_parts text parts parts
