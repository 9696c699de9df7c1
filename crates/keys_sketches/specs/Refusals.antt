-- Why lines and images are not read.
use Rattle.std.specs.Prelude.{ℕ, ◌≡◌, ◌≢◌, ◌⊎◌, ⊤, Bool, true, List, ◌∷◌, ◌++◌, Option, Some, None, IfSome, Result}
use Rattle.std.specs.Prelude.{MatchResult}
use Rattle.std.specs.IoError.{error_kind}
use Rattle.std.specs.declared.io.ErrorKind.TheVariants.{Interrupted}
use Rattle.sketch_base.specs.Seed.{seed_hash}
use Rattle.sketch_base.specs.declared.error.ErrorKind.{ErrorKind}
use Rattle.sketch_base.specs.declared.error.ErrorKind.TheVariants.{OutOfMemory, InvalidData}
use Rattle.theta_sketches.specs.Image.{IsReadable}
use Rattle.keys_sketches.specs.declared.sketching.ReadError.{ReadError}
use Rattle.keys_sketches.specs.declared.sketching.ReadError.TheVariants.{Refused, Failed}

-- the error is the refusal, if there is one; or memory ran out; or, only if nothing is refused, a source failed
abbrev pub IsReadError : Option ErrorKind → ReadError → Type 0
IsReadError refusal (Refused kind) = (refusal ≡ Some kind) ⊎ (kind ≡ OutOfMemory)
IsReadError refusal (Failed error) = refusal ≡ None

-- the result is Ok only if nothing is refused
abbrev pub RefusesRead : {T : Type 0} → Result T ReadError → Option ErrorKind → Type 0
RefusesRead r refusal = MatchResult r (λ _. refusal ≡ None) (IsReadError refusal)

-- a text is reported to have failed only if it may fail
abbrev pub FailsIf : (may_fail : Bool) → ReadError → Type 0
FailsIf may_fail (Refused kind) = ⊤
FailsIf may_fail (Failed error) = may_fail ≡ true

-- a failed read was not just interrupted
abbrev pub IsLasting : ReadError → Type 0
IsLasting (Refused kind) = ⊤
IsLasting (Failed error) = error_kind error ≢ Interrupted

-- the bytes are not an image of a sketch of this seed
abbrev pub IsNoImage : (seed : ℕ) → List ℕ → Type 0
IsNoImage seed bytes = IsReadable bytes (seed_hash seed) → ⊥

-- some of these texts have a fault
pub record HasFault (IsFaulty : List ℕ → Type 0) (texts : List (List ℕ)) : Type 0 where
  pub front : List (List ℕ)
  pub faulty : List ℕ
  pub back : List (List ℕ)
  pub parted : texts ≡ front ++ faulty ∷ back
  pub is_faulty : IsFaulty faulty

-- some of these are not an image
abbrev pub HasNoImage : (seed : ℕ) → (texts : List (List ℕ)) → Type 0
HasNoImage seed texts = HasFault (IsNoImage seed) texts

-- sketches that were read are not merged: memory ran out, or the merge is refused
abbrev pub IsMergeError : (merge_refusal : Option ErrorKind) → ErrorKind → Type 0
IsMergeError merge_refusal kind = (kind ≡ OutOfMemory) ⊎ (merge_refusal ≡ Some kind)

-- an image has this fault, or a union that may refuse a merge with some kind has refused it
abbrev pub IsMergeOrFault : (merge_refusal : Option ErrorKind) → (Fault : Type 0) → ErrorKind → Type 0
IsMergeOrFault None Fault kind = (kind ≡ InvalidData) × Fault
IsMergeOrFault (Some refusal) Fault kind = (kind ≡ refusal) ⊎ ((kind ≡ InvalidData) × Fault)

-- an image is not added to a union: memory ran out, the merge is refused, or the image has this fault
abbrev pub IsImageRefusal : (merge_refusal : Option ErrorKind) → (Fault : Type 0) → ErrorKind → Type 0
IsImageRefusal merge_refusal Fault kind = (kind ≡ OutOfMemory) ⊎ IsMergeOrFault merge_refusal Fault kind

-- the same, or the image's source failed
abbrev pub IsImageFailure : (merge_refusal : Option ErrorKind) → (Fault : Type 0) → ReadError → Type 0
IsImageFailure merge_refusal Fault (Refused kind) = IsImageRefusal merge_refusal Fault kind
IsImageFailure merge_refusal Fault (Failed error) = ⊤

-- images are not united: by a refusal before any is read, or because one is not read
abbrev pub IsUniteRefusal : (seed : ℕ) → Option ErrorKind → Option (List (List ℕ)) → ReadError → Type 0
IsUniteRefusal seed refusal images (Refused kind) =
    (refusal ≡ Some kind)
    ⊎ (kind ≡ OutOfMemory)
    ⊎ ((kind ≡ InvalidData) × (refusal ≡ None) × IfSome images (HasNoImage seed))
IsUniteRefusal seed refusal images (Failed error) = refusal ≡ None
