-- The files of groups.
use Rattle.std.specs.Prelude.{ℕ, ◌≡◌, ◌==◌, ◌&&◌, ◌||◌, nat_le, Bool, List, [], ◌∷◌, ◌++◌, map, codes, flat_map}
use Rattle.std.specs.Prelude.{if◌then◌else◌}
use Rattle.core_compact.specs.CompactState.{Compact}
use Rattle.theta_sketches.specs.Image.{written}
use Rattle.keys_sketches.specs.Hex.{hex_of}
use Rattle.keys_groups.specs.Groups.{AreGroups, group_sketch}
use Rattle.keys_groups.specs.declared.groups.Grouping.{Grouping}
use Rattle.keys_groups.specs.declared.files.GroupFile.{GroupFile}

-- whether a byte is a letter, a digit or one of - . _, which the name of a file has as it is
abbrev pub is_plain : ℕ → Bool
is_plain byte =
    (nat_le 97 byte && nat_le byte 122) || (nat_le 65 byte && nat_le byte 90) || (nat_le 48 byte && nat_le byte 57)
    || byte == 45 || byte == 46 || byte == 95

-- a byte in the name of a file: as it is, or as % (37) and its two hexadecimal digits
abbrev pub spelled : ℕ → List ℕ
spelled byte = if is_plain byte then byte ∷ [] else 37 ∷ hex_of (byte ∷ [])

-- the bytes of a group's name in the name of a file; % for the empty name
abbrev pub file_stem : List ℕ → List ℕ
file_stem [] = codes "%"
file_stem (byte ∷ name) = spelled byte ++ flat_map spelled name

-- the name of the file of a group
abbrev pub file_name : List ℕ → List ℕ
file_name name = file_stem name ++ codes ".theta"

-- what the file of a group has: the image of its sketch, as bytes or as a line of their hexadecimal digits
abbrev pub file_bytes : (hex : Bool) → Compact ℕ → List ℕ
file_bytes hex s = if hex then hex_of (written s) ++ 10 ∷ [] else written s

-- the names of files, and what they have
abbrev pub contents_of : List GroupFile → List (List ℕ × List ℕ)
contents_of files = map (λ file. (file.name.items, file.bytes.items)) files

-- the files of the groups of these names: one for each, of its own name, with the image of the sketch of its own lines
abbrev pub files_of : (hex : Bool) → Grouping → (lines names : List (List ℕ)) → List (List ℕ × List ℕ)
files_of hex grouping lines names = map (λ name. (file_name name, file_bytes hex (group_sketch grouping lines name))) names

-- these are the files of the groups of lines
abbrev pub AreFilesOf : (hex : Bool) → Grouping → (lines : List (List ℕ)) → List GroupFile → Type 0
AreFilesOf hex grouping lines files =
    (names : List (List ℕ)) × AreGroups grouping.by lines names × (contents_of files ≡ files_of hex grouping lines names)
