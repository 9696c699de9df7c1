-- Lines of which fields are chosen.
use Rattle.std.specs.Prelude.{ℕ, ◌-◌, ◌||◌, ◌&&◌, Bool, not, List, Option, Some, None, is_none, is_some, if◌then◌else◌}
use Rattle.distinct_arguments.specs.Settings.{OptionValues, ColumnValue, numbered, texted, between, chosen_value, has_texts}
use Rattle.distinct_arguments.specs.Words.{number_of}
use Rattle.std.specs.Option.{option_map}
use Rattle.keys_fields.specs.declared.layout.Layout.{Layout}
use Rattle.keys_fields.specs.Names.{place_in}
use Rattle.keys_sums.specs.declared.addends.Amount.{Amount}
use Rattle.keys_sums.specs.declared.addends.Amount.TheVariants.{Number}

-- the first line is passed over: of records that no text chooses from, their reader passes over the first
abbrev pub has_header : OptionValues → Bool
has_header options = options.header && (not options.csv || has_texts options)

-- lines are read in another way: some of their bytes, or the first line, are passed over
abbrev pub is_read_otherwise : OptionValues → Bool
is_read_otherwise options = options.blanks || options.crlf || has_header options || has_texts options

-- lines are passed on as others, or left out
abbrev pub is_mapped : OptionValues → Bool
is_mapped options = is_read_otherwise options || options.skip_invalid

-- what a line adds that is passed on, if others are left out
abbrev pub amount_with : OptionValues → Option Amount
amount_with options = if options.skip_invalid then option_map Number (chosen_value options) else None

-- how they are read
abbrev pub layout_with : OptionValues → Layout
layout_with options = record { separator = between options; blanks = options.blanks; returns = options.crlf }

-- what chooses the fields of a part: a text, or else a number
abbrev pub column_with : Option ℕ → Option (List ℕ) → Option ColumnValue
column_with number (Some text) = Some (texted text)
column_with number None = option_map numbered number

abbrev pub group_with : OptionValues → Option ColumnValue
group_with options = column_with options.by options.by_text

-- where numbers are added up and no field is chosen, the group is read in place of the key, which is not used then
abbrev pub key_with : OptionValues → Option ColumnValue
key_with options = if is_none options.field && is_some options.value then group_with options else column_with options.field options.field_text

abbrev pub value_with : OptionValues → Option ColumnValue
value_with options = column_with options.value options.value_text

-- the place of a name in the first line, if that is read
abbrev pub named_place : (separator : ℕ) → Option (List ℕ) → (name : List ℕ) → Option ℕ
named_place separator None name = None
named_place separator (Some header) name = place_in separator name header

-- the place of a field: that of a number, from 1, or of a name
abbrev pub place_or : (separator : ℕ) → Option (List ℕ) → (item : List ℕ) → Option ℕ → Option ℕ
place_or separator header item (Some number) = Some (number - 1)
place_or separator header item None = named_place separator header item

abbrev pub place_for : (separator : ℕ) → Option (List ℕ) → (item : List ℕ) → Option ℕ
place_for separator header item = place_or separator header item (number_of 1 18446744073709551615 item)
