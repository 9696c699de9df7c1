-- Why images of sums are not read.
use Rattle.std.specs.Prelude.{◌≡◌, ◌⊎◌, ⊤}
use Rattle.sketch_base.specs.declared.error.ErrorKind.TheVariants.{OutOfMemory, InvalidData}
use Rattle.keys_sketches.specs.declared.sketching.ReadError.{ReadError}
use Rattle.keys_sketches.specs.declared.sketching.ReadError.TheVariants.{Refused, Failed}

-- memory ran out, there is this fault, or a source failed
abbrev pub IsReadSumsError : (Fault : Type 0) → ReadError → Type 0
IsReadSumsError Fault (Refused kind) = (kind ≡ OutOfMemory) ⊎ ((kind ≡ InvalidData) × Fault)
IsReadSumsError Fault (Failed error) = ⊤
