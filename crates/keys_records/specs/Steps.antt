-- What is passed on of each byte of a text, and where the byte behind it is.
use Rattle.std.specs.Prelude.{ℕ, ◌≡◌, ⊤, Bool, true, false, not, ◌==◌, List, [], ◌∷◌, Option, None, Some, if◌then◌else◌}
use Rattle.std.specs.Option.{option_map}
use Rattle.keys_records.specs.declared.flaw.Flaw.TheVariants as Flaw
use Rattle.keys_records.specs.declared.form.Columns.{Columns}
use Rattle.keys_records.specs.declared.form.Form.{Form}
use Rattle.keys_records.specs.declared.place.Before.{Before}
use Rattle.keys_records.specs.declared.place.Before.TheVariants.{Record, Separator, Plain, Quoted, Quote, Return}
use Rattle.keys_records.specs.declared.place.Place.{Place}
use Rattle.keys_records.specs.declared.place.Stay.{Stay}
use Rattle.keys_records.specs.declared.place.Stay.TheVariants.{Shown, Dropped, Unknown}
use Rattle.keys_records.specs.declared.place.Step.{Step}
use Rattle.keys_records.specs.declared.place.Step.TheVariants.{Shows, Drops, Flawed}
use Rattle.keys_records.specs.declared.place.End.{End}
use Rattle.keys_records.specs.declared.place.End.TheVariants.{Ends, Rests, Fails}
use Rattle.keys_records.specs.Fields.{columns_of, has_first, without_first}

-- the same form, of which other fields are chosen, and no record is a header
abbrev pub form_with : Form → Columns → Form
form_with form columns = record { separator = form.separator; header = false; columns = columns }

-- the start of a record that isn't the header
abbrev pub record_place : Form → Place
record_place form = record { before = Record; columns = form.columns; header = false }

-- the start of a text
abbrev pub first_place : Form → Place
first_place form = if form.header then record { before = Record; columns = columns_of 0 0 0; header = true } else record_place form

-- the start of the next field
abbrev pub field_place : Place → Place
field_place place = record { before = Separator; columns = without_first place.columns; header = place.header }

-- the place behind a byte of the same field
abbrev pub moved : Place → Before → Place
moved place before = record { before = before; columns = place.columns; header = place.header }

-- a byte of a field's value
abbrev pub value_step : Place → Before → (byte : ℕ) → Step
value_step place before byte =
    if not (has_first place.columns) then Drops (moved place before)
    else (if byte == 10 then Flawed Flaw.Lines else (if byte == 31 then Flawed Flaw.Between else Shows byte (moved place before)))

-- the LF that ends a record
abbrev pub end_step : Form → Place → Step
end_step form place = if place.header then Drops (record_place form) else Shows 10 (record_place form)

-- a separator
abbrev pub separator_step : Place → Step
separator_step place = if place.header then Drops (field_place place) else Shows 31 (field_place place)

-- a byte that is outside of quotes and is no quote: a separator, a line end, or another byte
abbrev pub outside_step : Form → Place → (byte : ℕ) → (others : Step) → Step
outside_step form place byte others =
    if byte == form.separator then separator_step place
    else (if byte == 10 then end_step form place else (if byte == 13 then Drops (moved place Return) else others))

-- a byte that has this before it
abbrev pub step_behind : Form → Place → Before → (byte : ℕ) → Step
step_behind form place Record byte = if byte == 34 then Drops (moved place Quoted) else outside_step form place byte (value_step place Plain byte)
step_behind form place Separator byte = if byte == 34 then Drops (moved place Quoted) else outside_step form place byte (value_step place Plain byte)
step_behind form place Plain byte = if byte == 34 then Flawed Flaw.Quote else outside_step form place byte (value_step place Plain byte)
step_behind form place Quoted byte = if byte == 34 then Drops (moved place Quote) else value_step place Quoted byte
step_behind form place Quote byte = if byte == 34 then value_step place Quoted byte else outside_step form place byte (Flawed Flaw.Behind)
step_behind form place Return byte = if byte == 10 then end_step form place else Flawed Flaw.Return

abbrev pub step : Form → Place → (byte : ℕ) → Step
step form place byte = step_behind form place place.before byte

-- the end of a text, behind a byte of a record
abbrev pub open_end : (header : Bool) → End
open_end header = if header then Rests else Ends

-- the end of a text that has this before it
abbrev pub end_behind : (header : Bool) → Before → End
end_behind header Record = Rests
end_behind header Separator = open_end header
end_behind header Plain = open_end header
end_behind header Quoted = Fails Flaw.Open
end_behind header Quote = open_end header
end_behind header Return = Fails Flaw.Return

abbrev pub end_of : Place → End
end_of place = end_behind place.header place.before

-- what is passed on at the end
abbrev pub shown_end : End → Option (List ℕ)
shown_end Ends = Some (10 ∷ [])
shown_end Rests = Some []
shown_end (Fails flaw) = None

-- what is passed on of a byte and those behind it
abbrev pub shown_step : Step → (rest : Place → Option (List ℕ)) → Option (List ℕ)
shown_step (Shows byte next) rest = option_map (λ bytes. byte ∷ bytes) (rest next)
shown_step (Drops next) rest = rest next
shown_step (Flawed flaw) rest = None

-- what is passed on of a text from a place on, unless it is flawed
abbrev pub text_of : Form → Place → (text : List ℕ) → Option (List ℕ)
text_of form place [] = shown_end (end_of place)
text_of form place (byte ∷ text) = shown_step (step form place byte) (λ next. text_of form next text)

-- what is passed on of a byte of a value, unless it is a flaw
abbrev pub stay_in_value : Place → Stay
stay_in_value place = if has_first place.columns then Shown else Dropped

-- this is passed on of the byte at a place, and the place behind it is the same; or it isn't known
abbrev pub Stays : Form → Place → (byte : ℕ) → Stay → Type 0
Stays form place byte Shown = step form place byte ≡ Shows byte place
Stays form place byte Dropped = step form place byte ≡ Drops place
Stays form place byte Unknown = ⊤
