-- What a line is passed on as.
use Rattle.std.specs.Prelude.{ℕ, Bool, false, List, [], ◌∷◌, ◌++◌, Option, Some, None, flat_map, is_none, is_some, if◌then◌else◌}
use Rattle.std.specs.Option.{option_map_or}
use Rattle.keys_sums.specs.Amounts.{amount_in}
use Rattle.keys_sums.specs.declared.addends.Amount.{Amount}
use Rattle.keys_fields.specs.declared.passing.Passing.{Passing}
use Rattle.keys_fields.specs.declared.layout.Layout.{Layout}
use Rattle.keys_fields.specs.declared.chosen.Chosen.{Chosen}
use Rattle.keys_fields.specs.Chosen.{line_for}

-- a line should add such a number, and adds none
abbrev pub lacks_number : Option Amount → (line : List ℕ) → Bool
lacks_number None line = false
lacks_number (Some amount) line = is_none (amount_in amount line)

-- a line adds such a number
abbrev pub adds_number : Amount → (line : List ℕ) → Bool
adds_number amount line = is_some (amount_in amount line)

-- lines, each with an LF
abbrev pub lines_text : List (List ℕ) → List ℕ
lines_text lines = flat_map (λ line. line ++ 10 ∷ []) lines

-- the bytes that are passed on of a line: an LF ends it, and nothing of it is passed on if it lacks a number
abbrev pub ended_for : Option Amount → (line : Option (List ℕ)) → Option (List ℕ)
ended_for amount None = None
ended_for amount (Some line) = Some (if lacks_number amount line then [] else line ++ 10 ∷ [])

-- the bytes that a line is passed on as, if it can be
abbrev pub bytes_for : Passing → (line : List ℕ) → Option (List ℕ)
bytes_for passing line = ended_for passing.amount (line_for passing.layout passing.chosen line)

-- a line is left out, since it lacks a number
abbrev pub is_left_out : Passing → (line : List ℕ) → Bool
is_left_out passing line = option_map_or (λ l. lacks_number passing.amount l) (line_for passing.layout passing.chosen line) false

-- each line is passed on as it is read
abbrev pub passing_all : Layout → Passing
passing_all layout = record { layout = layout; chosen = None; amount = None }

-- .. or these parts of it are
abbrev pub choosing : Passing → Chosen → Passing
choosing passing chosen = record passing { chosen = Some chosen }

-- .. or it is only if it adds such a number
abbrev pub adding : Passing → Amount → Passing
adding passing amount = record passing { amount = Some amount }
