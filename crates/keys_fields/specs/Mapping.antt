-- What a reader that passes each line on as another has left.
use Rattle.std.specs.Prelude.{ℕ, ◌≡◌, ◌+◌, ◌-◌, ◌^◌, Bool, List, [], ◌∷◌, drop, min, Option, Some, None, IsSome, if◌then◌else◌}
use Rattle.std.specs.List.{count_by}
use Rattle.std.specs.Io.KnownBytes.{prepend_known}
use Rattle.keys_lines.specs.Lines.{lines_of, lines_after}
use Rattle.keys_fields.specs.declared.mapped.Mapped.{Mapped}
use Rattle.keys_fields.specs.declared.fields.Fields.{Fields}
use Rattle.keys_fields.specs.declared.fields.Fields.TheVariants.{Whole, Mapped as Mapping}
use Rattle.keys_fields.specs.Ahead.{ahead_remaining}
use Rattle.keys_fields.specs.Passing.{bytes_for, is_left_out}

-- the bytes of a line, and what is behind them; nothing is known if the line can't be passed on
abbrev pub onto_lines : (bytes others : Option (List ℕ)) → Option (List ℕ)
onto_lines None others = None
onto_lines (Some bytes) others = prepend_known bytes others

-- the bytes that lines are passed on as; `None` if one can't be
abbrev pub lines_for : (passed : List ℕ → Option (List ℕ)) → List (List ℕ) → Option (List ℕ)
lines_for passed [] = Some []
lines_for passed (line ∷ lines) = onto_lines (passed line) (lines_for passed lines)

-- what a text is passed on as; `None` if one of its lines can't be
abbrev pub text_for : (passed : List ℕ → Option (List ℕ)) → (text : List ℕ) → Option (List ℕ)
text_for passed text = lines_for passed (lines_of text)

-- a count with one more line, if that is counted; it stops at 2^64 - 1
abbrev pub count_with : (is_counted : Bool) → (count : ℕ) → ℕ
count_with is_counted count = if is_counted then min (count + 1) (2 ^ 64 - 1) else count

-- a count behind lines
abbrev pub count_after : (counted : List ℕ → Bool) → (count : ℕ) → List (List ℕ) → ℕ
count_after counted count [] = count
count_after counted count (line ∷ lines) = count_after counted (count_with (counted line) count) lines

-- how many of these lines are counted, or 2^64 - 1 if there are more
abbrev pub count_of : (counted : List ℕ → Bool) → List (List ℕ) → ℕ
count_of counted lines = min (count_by counted lines) (2 ^ 64 - 1)

-- What is left to be passed on: what waits, and then the lines of a begun line and the text behind it, if that is known. And
-- the count of lines behind these.
abbrev pub left_for : (passed : List ℕ → Option (List ℕ)) (counted : List ℕ → Bool) (waiting : List ℕ) (count : ℕ) (begun : List ℕ)
    → (text : Option (List ℕ)) → Option (List ℕ) × ℕ
left_for passed counted waiting count begun None = (None, count)
left_for passed counted waiting count begun (Some text) =
    (prepend_known waiting (lines_for passed (lines_after begun text)), count_after counted count (lines_after begun text))

-- what a reader has left, and the count of lines that it has left out behind that
abbrev pub mapped_left : {R : Type 0} → (remaining : R → Option (List ℕ)) → Mapped R → Option (List ℕ) × ℕ
mapped_left remaining mapped =
    let waiting = drop mapped.given mapped.waiting.items in
    let text = ahead_remaining remaining mapped.ahead in
    left_for (bytes_for mapped.passing) (is_left_out mapped.passing) waiting mapped.left_out mapped.begun.items text

-- the bytes that a reader has left, if they are known and can be passed on
abbrev pub mapped_remaining : {R : Type 0} → (remaining : R → Option (List ℕ)) → Mapped R → Option (List ℕ)
mapped_remaining remaining mapped = (mapped_left remaining mapped).0

-- how many lines it will have left out once it has read all
abbrev pub left_out_at_end : {R : Type 0} → (remaining : R → Option (List ℕ)) → Mapped R → ℕ
left_out_at_end remaining mapped = (mapped_left remaining mapped).1

-- If the text is known, it still is, and the same is left as before.
abbrev pub SameLeft : (passed : List ℕ → Option (List ℕ)) (counted : List ℕ → Bool) (waiting : List ℕ) (count : ℕ) (begun : List ℕ) (text : Option (List ℕ))
    (waiting_now : List ℕ) (count_now : ℕ) (begun_now : List ℕ) (text_now : Option (List ℕ)) → Type 0
SameLeft passed counted waiting count begun text waiting_now count_now begun_now text_now =
    IsSome text → IsSome text_now × (left_for passed counted waiting count begun text ≡ left_for passed counted waiting_now count_now begun_now text_now)

-- If the text is known, it still is, what was left is these bytes and what is left now, and as many lines will be left out.
abbrev pub Passes : {R : Type 0} → (remaining : R → Option (List ℕ)) → (old new : Mapped R) (bytes : List ℕ) → Type 0
Passes remaining old new bytes =
    IsSome (ahead_remaining remaining old.ahead) → IsSome (ahead_remaining remaining new.ahead)
    × (mapped_remaining remaining old ≡ prepend_known bytes (mapped_remaining remaining new))
    × (left_out_at_end remaining old ≡ left_out_at_end remaining new)

-- nothing is left, if the text is known, and the lines that were left out are all that will be
abbrev pub HasNone : {R : Type 0} → (remaining : R → Option (List ℕ)) → Mapped R → Type 0
HasNone remaining mapped =
    IsSome (ahead_remaining remaining mapped.ahead)
    → (mapped_remaining remaining mapped ≡ Some []) × (left_out_at_end remaining mapped ≡ mapped.left_out)

-- the bytes that a reader has left: those of the text, or what its lines are passed on as
abbrev pub fields_remaining : {R : Type 0} → (remaining : R → Option (List ℕ)) → Fields R → Option (List ℕ)
fields_remaining remaining (Whole inner) = remaining inner
fields_remaining remaining (Mapping mapped) = mapped_remaining remaining mapped

-- how many lines a reader has left out
abbrev pub left_out_of : {R : Type 0} → Fields R → ℕ
left_out_of (Whole inner) = 0
left_out_of (Mapping mapped) = mapped.left_out
