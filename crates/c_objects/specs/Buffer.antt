-- Bytes that are written into a buffer of the caller.
use Rattle.std.specs.Prelude.{◌≡◌, ◌⊎◌, ◌≤◌, ◌<◌, ◌++◌, ℕ, List, length, drop, Option, Some, None, Result, MatchResult}
use Rattle.std.specs.declared.vec.Vec.{Vec}
use Rattle.std.specs.declared.alloc.Global.{Global}

-- bytes are written to the front of a buffer that has room for them, with status 0; a buffer that is too small is left as it
-- was, with status 6; their number is written in both cases
abbrev pub IsPut : (bytes before : List ℕ) → (status : ℕ) → (after : List ℕ) → (count : ℕ) → Type 0
IsPut bytes before status after count =
    (count ≡ length bytes)
    × (length bytes ≤ length before → (status ≡ 0) × (after ≡ bytes ++ drop (length bytes) before))
    × (length before < length bytes → (status ≡ 6) × (after ≡ before))

-- an image is put into a buffer; or the call is refused, and the buffer and the count are as before
abbrev pub Writes : (IsImage : List ℕ → Type 0)
    → (IsRefused : ℕ → Type 0)
    → (before : List ℕ)
    → (count_before status : ℕ)
    → (after : List ℕ)
    → (count : ℕ)
    → Type 0
Writes IsImage IsRefused before count_before status after count =
    ((image : List ℕ) × IsImage image × IsPut image before status after count) ⊎ (IsRefused status × (after ≡ before) × (count ≡ count_before))

-- an image that a call made, and the status of its refusal
abbrev pub IsImageMade : Result (Vec ℕ Global) ℕ → (image : List ℕ) → Type 0
IsImageMade made image = MatchResult made (λ v. image ≡ v.items) (λ _. ⊥)

abbrev pub IsImageRefused : Result (Vec ℕ Global) ℕ → (status : ℕ) → Type 0
IsImageRefused made status = MatchResult made (λ _. ⊥) (λ s. status ≡ s)

-- the image of an object is put into a buffer; a handle without one is refused with 1
abbrev pub WritesOf : {T : Type 0}
    → (IsImage : T → List ℕ → Type 0)
    → (IsRefused : T → ℕ → Type 0)
    → Option T
    → (before : List ℕ)
    → (count_before status : ℕ)
    → (after : List ℕ)
    → (count : ℕ)
    → Type 0
WritesOf IsImage IsRefused None before count_before status after count = (status ≡ 1) × (after ≡ before) × (count ≡ count_before)
WritesOf IsImage IsRefused (Some x) before count_before status after count = Writes (IsImage x) (IsRefused x) before count_before status after count
