-- The fields that are chosen.
use Rattle.std.specs.Prelude.{ℕ, ◌-◌, Bool, true, false, ◌||◌, ◌==◌}
use Rattle.keys_records.specs.declared.form.Columns.{Columns}

-- the fields with these numbers
abbrev pub columns_of : (first second third : ℕ) → Columns
columns_of first second third = record { all = false; first = first; second = second; third = third }

-- all fields
abbrev pub all_columns : Columns
all_columns = record { all = true; first = 0; second = 0; third = 0 }

-- the field with this number is chosen
abbrev pub is_chosen : Columns → (number : ℕ) → Bool
is_chosen columns number = columns.all || columns.first == number || columns.second == number || columns.third == number

-- the first field is chosen
abbrev pub has_first : Columns → Bool
has_first columns = is_chosen columns 1

-- the chosen fields behind the first, counted from there
abbrev pub without_first : Columns → Columns
without_first columns = record { all = columns.all; first = columns.first - 1; second = columns.second - 1; third = columns.third - 1 }
