-- The shapes of calls on handles: by the object before, the status and the object after.
use Rattle.std.specs.Prelude.{◌≡◌, ℕ, Bool, Option, Some, None, Result, MatchResult}
use Rattle.sketch_base.specs.declared.error.ErrorKind.{ErrorKind}
use Rattle.c_objects.specs.Status.{status_of}

-- a call on an object: a handle without one is refused with 1 and keeps none
abbrev pub OnObject : {T : Type 0} → (Does : T → ℕ → T → Type 0) → Option T → (status : ℕ) → Option T → Type 0
OnObject Does None status new = (status ≡ 1) × (new ≡ None)
OnObject Does (Some old) status None = ⊥
OnObject Does (Some old) status (Some new) = Does old status new

-- a call that fills a handle: one with an object is refused with 1 and keeps it
abbrev pub Fills : {T : Type 0} → (IsMade : T → Type 0) → (IsRefused : ℕ → Type 0) → Option T → (status : ℕ) → Option T → Type 0
Fills IsMade IsRefused (Some old) status new = (status ≡ 1) × (new ≡ Some old)
Fills IsMade IsRefused None status None = IsRefused status
Fills IsMade IsRefused None status (Some new) = (status ≡ 0) × IsMade new

-- what a call made
abbrev pub IsMadeBy : {T E : Type 0} → Result T E → T → Type 0
IsMadeBy made x = MatchResult made (λ y. x ≡ y) (λ _. ⊥)

-- the status of a refusal: memory for what a call made, with 3, or the call's own status
abbrev pub IsRefusedBy : {T : Type 0} → Result T ℕ → (status : ℕ) → Type 0
IsRefusedBy made status = MatchResult made (λ _. status ≡ 3) (λ s. status ≡ s)

-- the same if the call's refusal is an error
abbrev pub IsRefusedWith : {T : Type 0} → Result T ErrorKind → (status : ℕ) → Type 0
IsRefusedWith made status = MatchResult made (λ _. status ≡ 3) (λ e. status ≡ status_of e)

-- a call that fills a handle from an object: without one it is refused with 1, and the handle is as before
abbrev pub FillsFrom : {S T : Type 0}
    → (IsMade : S → T → Type 0)
    → (IsRefused : S → ℕ → Type 0)
    → Option S
    → Option T
    → (status : ℕ)
    → Option T
    → Type 0
FillsFrom IsMade IsRefused None old status new = (status ≡ 1) × (new ≡ old)
FillsFrom IsMade IsRefused (Some source) old status new = Fills (IsMade source) (IsRefused source) old status new

-- a call on an object that reads another: without that one it is refused with 1 and nothing changes
abbrev pub OnObjectWith : {S T : Type 0} → (Does : S → T → ℕ → T → Type 0) → Option S → Option T → (status : ℕ) → Option T → Type 0
OnObjectWith Does None old status new = (status ≡ 1) × (new ≡ old)
OnObjectWith Does (Some source) old status new = OnObject (Does source) old status new

-- a value of an object was written, with status 0; without an object the status is 1 and the caller's variable is as before
abbrev pub WritesValue : {V : Type 0} → Option V → (before : V) → (status : ℕ) → (after : V) → Type 0
WritesValue None before status after = (status ≡ 1) × (after ≡ before)
WritesValue (Some value) before status after = (status ≡ 0) × (after ≡ value)

-- a call that fills a handle from two objects, only if it accepts them: without either it is refused with 1, and the handle is as
-- before
abbrev pub FillsFromTwo : {S T : Type 0} → (AreAccepted : S → S → Type 0) → (IsMade : S → S → T → Type 0) → (IsRefused : S → S → ℕ → Type 0)
    → (first second : Option S) → (old : Option T) → (status : ℕ) → (new : Option T) → Type 0
FillsFromTwo AreAccepted IsMade IsRefused None second old status new = (status ≡ 1) × (new ≡ old)
FillsFromTwo AreAccepted IsMade IsRefused (Some a) None old status new = (status ≡ 1) × (new ≡ old)
FillsFromTwo AreAccepted IsMade IsRefused (Some a) (Some b) old status new =
    Fills (λ made. AreAccepted a b × IsMade a b made) (IsRefused a b) old status new

-- a call that may change two objects: without either it is refused with 1, and neither changes
abbrev pub OnBoth : {S T : Type 0}
    → (Does : S → T → ℕ → S → T → Type 0)
    → (old_first : Option S)
    → (old : Option T)
    → (status : ℕ)
    → (new_first : Option S)
    → (new : Option T)
    → Type 0
OnBoth Does None old status new_first new = (status ≡ 1) × (new_first ≡ None) × (new ≡ old)
OnBoth Does (Some a) None status new_first new = (status ≡ 1) × (new_first ≡ Some a) × (new ≡ None)
OnBoth Does (Some a) (Some b) status None new = ⊥
OnBoth Does (Some a) (Some b) status (Some c) None = ⊥
OnBoth Does (Some a) (Some b) status (Some c) (Some d) = Does a b status c d

-- some number of an object was written, with status 0; without an object the status is 1 and the caller's variable is as before
abbrev pub WritesSome : {T V : Type 0} → Option T → (before : V) → (status : ℕ) → (after : V) → Type 0
WritesSome None before status after = (status ≡ 1) × (after ≡ before)
WritesSome (Some object) before status after = status ≡ 0

-- a call that fills a handle from an object in an order of choice: without a valid order it is refused with 1, and the handle
-- is as before
abbrev pub FillsInOrder : {S T : Type 0}
    → (IsMade : Bool → S → T → Type 0)
    → (IsRefused : S → ℕ → Type 0)
    → (order : Option Bool)
    → Option S
    → Option T
    → (status : ℕ)
    → Option T
    → Type 0
FillsInOrder IsMade IsRefused None source old status new = (status ≡ 1) × (new ≡ old)
FillsInOrder IsMade IsRefused (Some ordered) source old status new = FillsFrom (IsMade ordered) IsRefused source old status new

-- the same from two objects
abbrev pub FillsFromTwoInOrder : {S T : Type 0}
    → (AreAccepted : S → S → Type 0)
    → (IsMade : Bool → S → S → T → Type 0)
    → (IsRefused : S → S → ℕ → Type 0)
    → (order : Option Bool)
    → (first second : Option S)
    → (old : Option T)
    → (status : ℕ)
    → (new : Option T)
    → Type 0
FillsFromTwoInOrder AreAccepted IsMade IsRefused None first second old status new = (status ≡ 1) × (new ≡ old)
FillsFromTwoInOrder AreAccepted IsMade IsRefused (Some ordered) first second old status new =
    FillsFromTwo AreAccepted (IsMade ordered) IsRefused first second old status new
