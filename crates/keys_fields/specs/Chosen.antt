-- The chosen fields of a line.
use Rattle.std.specs.Prelude.{ℕ, ◌==◌, ◌&&◌, Bool, true, not, List, [], ◌∷◌, ◌++◌, length, take, get_or, map, Option, Some, None, if◌then◌else◌}
use Rattle.std.specs.List.{list_any, list_all}
use Rattle.std.specs.Option.{option_map_or}
use Rattle.keys_lines.specs.Keys.{fields_of}
use Rattle.keys_fields.specs.declared.layout.Layout.{Layout}
use Rattle.keys_fields.specs.declared.chosen.Part.{Part}
use Rattle.keys_fields.specs.declared.chosen.Chosen.{Chosen}
use Rattle.keys_fields.specs.Lines.{joined, plain_line, separator_of}

-- the field at a place, from 0; nothing if a line has fewer
abbrev pub field_at : (separator place : ℕ) (line : List ℕ) → List ℕ
field_at separator place line = get_or (fields_of separator line) place []

-- a text has a byte
abbrev pub has_byte : (byte : ℕ) (text : List ℕ) → Bool
has_byte byte text = list_any (λ x. x == byte) text

-- a text has neither of the bytes that are put between chosen fields (31) and between parts of a line (30)
abbrev pub is_free : (text : List ℕ) → Bool
is_free text = not (has_byte 30 text) && not (has_byte 31 text)

-- the fields at these places
abbrev pub fields_at : (separator : ℕ) (places : List ℕ) (line : List ℕ) → List (List ℕ)
fields_at separator places line = map (λ place. field_at separator place line) places

-- a part of a line: the whole line if it has no places, or the fields at its places with the byte 31 between two; of
-- these the first bytes, as many as it has at most
abbrev pub part_text : (separator : ℕ) → Part → (line : List ℕ) → List ℕ
part_text separator part line =
    take part.most (if length part.places.items == 0 then line else joined 31 (fields_at separator part.places.items line))

-- a part lacks the byte between parts, and its fields lack that between fields, too
abbrev pub part_fits : (separator : ℕ) → Part → (line : List ℕ) → Bool
part_fits separator part line =
    if length part.places.items == 0 then not (has_byte 30 line) else list_all is_free (fields_at separator part.places.items line)

-- nothing, of a part that isn't chosen
abbrev pub any_text : (separator : ℕ) → Option Part → (line : List ℕ) → List ℕ
any_text separator part line = option_map_or (λ p. part_text separator p line) part []

abbrev pub any_fits : (separator : ℕ) → Option Part → (line : List ℕ) → Bool
any_fits separator part line = option_map_or (λ p. part_fits separator p line) part true

-- the chosen parts of a line, with the byte 30 between two: its key, its group and its number
abbrev pub parts_text : (separator : ℕ) → Chosen → (line : List ℕ) → List ℕ
parts_text separator chosen line =
    part_text separator chosen.key line ++ 30 ∷ (any_text separator chosen.group line ++ 30 ∷ any_text separator chosen.value line)

abbrev pub parts_fit : (separator : ℕ) → Chosen → (line : List ℕ) → Bool
parts_fit separator chosen line =
    part_fits separator chosen.key line && any_fits separator chosen.group line && any_fits separator chosen.value line

-- the line that a line is passed on as, if it can be: its chosen parts, or the whole line as it is read
abbrev pub line_for : Layout → Option Chosen → (line : List ℕ) → Option (List ℕ)
line_for layout None line = Some (plain_line layout line)
line_for layout (Some chosen) line =
    if parts_fit (separator_of layout) chosen (plain_line layout line) then Some (parts_text (separator_of layout) chosen (plain_line layout line))
    else None
