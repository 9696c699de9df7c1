-- How files of records are read.
use Rattle.std.specs.Prelude.{ℕ, ◌&&◌, not, Option, Some, None, is_none, is_some, if◌then◌else◌}
use Rattle.std.specs.Option.{unwrap_or, option_map_or}
use Rattle.distinct_arguments.specs.Settings.{OptionValues, has_texts}
use Rattle.keys_records.specs.Fields.{all_columns, columns_of}
use Rattle.keys_records.specs.declared.form.Columns.{Columns}
use Rattle.keys_records.specs.declared.form.Form.{Form}

-- the number of the field that is a record's key, if not the whole record is: where numbers are added up and no field is chosen, that
-- of its group, whose keys are not used
abbrev pub key_number : OptionValues → Option ℕ
key_number options = if is_none options.field && is_some options.value then options.by else options.field

-- the fields that options use: those of their numbers, or all if texts choose some, or if the whole record is its key
abbrev pub chosen_columns : OptionValues → Columns
chosen_columns options =
    if has_texts options then all_columns
    else option_map_or (λ field. columns_of field (unwrap_or options.by 0) (unwrap_or options.value 0)) (key_number options) all_columns

-- how files are read as records, if they are; their fields are separated by a comma (44) by default
abbrev pub record_form : OptionValues → Option Form
record_form options =
    if options.csv then Some (record {
      separator = unwrap_or options.separator 44;
      header = options.header && not (has_texts options);
      columns = chosen_columns options;
    }) else None
