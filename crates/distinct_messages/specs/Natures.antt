-- Files that have no lines, by their first bytes.
use Rattle.std.specs.Prelude.{ℕ, ◌==◌, ◌&&◌, nat_eq, nat_le, Bool, false, List, [], ◌∷◌, Option, Some, None}
use Rattle.std.specs.Prelude.{if◌then◌else◌}
use Rattle.std.specs.List.{starts_with}
use Rattle.distinct_messages.specs.declared.nature.Nature.{Nature}
use Rattle.distinct_messages.specs.declared.nature.Nature.TheVariants.{Gzip, Zstd, Xz, Bzip2, Sketch, Sums}

-- Whether bytes begin an image of a sketch of this family (3 of theta sketches, 9 of tuple sketches): from 1 to 4 words of
-- preamble, and a version from 1 to 3, are before it.
abbrev pub begins_image : (family : ℕ) → List ℕ → Bool
begins_image family [] = false
begins_image family (words ∷ []) = false
begins_image family (words ∷ version ∷ []) = false
begins_image family (words ∷ version ∷ third ∷ bytes) =
    nat_le 1 words && nat_le words 4 && nat_le 1 version && nat_le version 3 && third == family

-- what a file that begins with these bytes has in place of lines
abbrev pub nature_of : List ℕ → Option Nature
nature_of bytes =
    if starts_with nat_eq bytes (0x1f ∷ 0x8b ∷ []) then Some Gzip else
    if starts_with nat_eq bytes (0x28 ∷ 0xb5 ∷ 0x2f ∷ 0xfd ∷ []) then Some Zstd else
    if starts_with nat_eq bytes (0xfd ∷ 0x37 ∷ 0x7a ∷ 0x58 ∷ 0x5a ∷ 0 ∷ []) then Some Xz else
    if starts_with nat_eq bytes (0x42 ∷ 0x5a ∷ 0x68 ∷ []) then Some Bzip2 else
    if begins_image 3 bytes then Some Sketch else
    if begins_image 9 bytes then Some Sums else None
