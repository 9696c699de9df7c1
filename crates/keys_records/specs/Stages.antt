-- What a reader of records has left.
use Rattle.std.specs.Prelude.{ℕ, ◌≡◌, List, [], Option, None, Some, IsSome}
use Rattle.std.specs.Io.KnownBytes.{prepend_known}
use Rattle.keys_records.specs.declared.form.Form.{Form}
use Rattle.keys_records.specs.declared.records.Records.{Records}
use Rattle.keys_records.specs.declared.stage.Stage.{Stage}
use Rattle.keys_records.specs.declared.stage.Stage.TheVariants.{Whole, Reading, Ended, Flawed}
use Rattle.keys_records.specs.Steps.{text_of}

-- what is left at a stage, if the reader of the text has these bytes left; `None` if they are flawed
abbrev pub rest_of : Form → Stage → (text : List ℕ) → Option (List ℕ)
rest_of form Whole text = Some text
rest_of form (Reading place) text = text_of form place text
rest_of form Ended text = Some []
rest_of form (Flawed flaw) text = None

-- the same, if the bytes are known
abbrev pub known_rest : Form → Stage → Option (List ℕ) → Option (List ℕ)
known_rest form stage None = None
known_rest form stage (Some text) = rest_of form stage text

-- the bytes that a reader of records has left, if they are known and not flawed
abbrev pub records_remaining : {R : Type 0} → (remaining : R → Option (List ℕ)) → Records R → Option (List ℕ)
records_remaining remaining records = known_rest records.form records.stage (remaining records.inner)

-- The bytes of the text are known. Then they still are, and what was left is these bytes and what is left now: if it was
-- flawed, it is.
abbrev pub Passes : {R : Type 0} → (remaining : R → Option (List ℕ)) → (old new : Records R) (bytes : List ℕ) → Type 0
Passes remaining old new bytes = IsSome (remaining old.inner) →
    IsSome (remaining new.inner) × (records_remaining remaining old ≡ prepend_known bytes (records_remaining remaining new))

-- nothing is left, if the bytes of the text are known
abbrev pub HasNone : {R : Type 0} → (remaining : R → Option (List ℕ)) → Records R → Type 0
HasNone remaining records = IsSome (remaining records.inner) → records_remaining remaining records ≡ Some []

-- at the end of the text what was left is these bytes, and nothing is left now
abbrev pub Finishes : Form → (old new : Stage) (bytes : List ℕ) → Type 0
Finishes form old new bytes = (rest_of form old [] ≡ Some bytes) × (rest_of form new [] ≡ Some [])
