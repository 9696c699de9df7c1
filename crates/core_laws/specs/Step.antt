-- The meaning of a step of an insertion.
use Rattle.std.specs.Prelude.{Bool, false, Option, Some, None, true}
use Rattle.sketch_base.specs.declared.error.ErrorKind.{ErrorKind}
use Rattle.core_laws.specs.Refusal.{policy_refusal}

-- how it writes an existing entry and when it refuses to, what it makes and when it refuses to, and whether it may take
-- memory
pub record Step (X : Type 0) : Type 0 where
  pub writes : X → X
  pub refuses_existing : X → Option ErrorKind
  pub makes : Option X
  pub refuses_absent : Option ErrorKind
  pub allocates : Bool

-- the step that makes an entry, and leaves an existing one unchanged
abbrev pub put_step : {X : Type 0} → X → Step X
put_step x = record { writes = λ y. y; refuses_existing = λ _. None; makes = Some x; refuses_absent = None; allocates = false }

-- the step that merges an incoming entry
abbrev pub merge_step : {X : Type 0} → (X → X → X) → (X → X → Bool) → X → Step X
merge_step merges refuses incoming =
    record {
      writes = λ x. merges x incoming;
      refuses_existing = λ x. policy_refusal (refuses x incoming);
      makes = Some incoming;
      refuses_absent = None;
      allocates = true;
    }
