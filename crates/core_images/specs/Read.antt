-- Which bytes are read as which state, in any family, and what a reader returns.
use Rattle.std.specs.Prelude.{◌≡◌, ◌⊎◌, ⊤, List, ℕ, Result, Ok, Err, true, false, slice_index}
use Rattle.sketch_base.specs.declared.error.ErrorKind.{ErrorKind}
use Rattle.sketch_base.specs.declared.error.ErrorKind.TheVariants.{InvalidArgument, InvalidData, OutOfMemory, Policy, Failed}
use Rattle.core_compact.specs.CompactState.{Compact, empty_compact}
use Rattle.core_images.specs.Entry.{HasEntries, state_after_preamble}
use Rattle.core_laws.specs.declared.TheConstants.{MAX_THETA}
use Rattle.core_images.specs.Preamble.{Begins, is_empty, is_ordered, seed_hash_at, count_at, theta_at, announced}
use Rattle.core_images.specs.declared.flaw.Flaw.{Flaw}
use Rattle.core_images.specs.declared.flaw.ReadError.{ReadError}
use Rattle.core_images.specs.declared.flaw.ReadError.TheVariants.{Flawed, OutOfMemory as NoMemory}
use Rattle.core_images.specs.declared.preamble.ImageLayout.{ImageLayout}
use Rattle.core_images.specs.declared.preamble.ImageLayout.TheVariants.{Empty, Filled}

-- the error is OutOfMemory, or it is InvalidData and there is no reading
abbrev pub IsRefused : ErrorKind → Type 0 → Type 0
IsRefused e Something = (e ≡ OutOfMemory) ⊎ ((e ≡ InvalidData) × (Something → ⊥))

-- a prefix of the bytes spells the result, and the rest of them is left; InvalidData is returned only if no prefix
-- spells anything
abbrev pub ReadsPrefix : {X : Type 0} → (X → List ℕ → Type 0) → (left : List ℕ) → Result X ErrorKind → Type 0
ReadsPrefix {X} Spelled left (Ok x) = Spelled x left
ReadsPrefix {X} Spelled left (Err e) = IsRefused e ((x : X) × (rest : List ℕ) × Spelled x rest)

-- the result is a reading; InvalidData is returned only if there is none
abbrev pub ReadsState : {X : Type 0} → (X → Type 0) → Result X ErrorKind → Type 0
ReadsState {X} Reads (Ok x) = Reads x
ReadsState {X} Reads (Err e) = IsRefused e ((x : X) × Reads x)

-- Version 3 after its first three bytes: a case for the empty sketch, and one for each count of preamble longs.
pub data ReadsFlagged {X : Type 0} (key : X → ℕ) (Spells : List ℕ → X → Type 0) (bytes : List ℕ) (longs h : ℕ) : Compact X → Type 0 where
  empty_image : is_empty bytes ≡ true → ReadsFlagged key Spells bytes longs h (empty_compact h)
  single_image : (xs : List X) → is_empty bytes ≡ false → seed_hash_at bytes ≡ h → longs ≡ 1
      → HasEntries key Spells bytes (announced 1 1 MAX_THETA (is_ordered bytes)) h xs
      → ReadsFlagged key Spells bytes longs h (state_after_preamble (announced 1 1 MAX_THETA (is_ordered bytes)) h xs)
  exact_image : (xs : List X) → is_empty bytes ≡ false → seed_hash_at bytes ≡ h → longs ≡ 2
      → HasEntries key Spells bytes (announced 2 (count_at bytes) MAX_THETA (is_ordered bytes)) h xs
      → ReadsFlagged key Spells bytes longs h (state_after_preamble (announced 2 (count_at bytes) MAX_THETA (is_ordered bytes)) h xs)
  estimating_image : (xs : List X) → is_empty bytes ≡ false → seed_hash_at bytes ≡ h → longs ≡ 3
      → HasEntries key Spells bytes (announced 3 (count_at bytes) (theta_at bytes) (is_ordered bytes)) h xs
      → ReadsFlagged key Spells bytes longs h (state_after_preamble (announced 3 (count_at bytes) (theta_at bytes) (is_ordered bytes)) h xs)

-- these bytes are read as version 3 of a family and kind
abbrev pub ReadsCurrent : {X : Type 0} → (X → ℕ) → (List ℕ → X → Type 0) → (family kind : ℕ) → (bytes : List ℕ) → (h : ℕ) → Compact X → Type 0
ReadsCurrent key Spells family kind bytes h s =
    (longs : ℕ) × Begins bytes longs 3 family × (slice_index bytes 3 ≡ kind) × ReadsFlagged key Spells bytes longs h s

-- a layout allows this state: by what it says, and by the bytes after the preamble; a flaw allows none
abbrev pub LeavesOpen : {X : Type 0} → (X → ℕ) → (List ℕ → X → Type 0) → List ℕ → (h : ℕ) → Result ImageLayout Flaw → Compact X → Type 0
LeavesOpen key Spells bytes h (Err flaw) s = ⊥
LeavesOpen key Spells bytes h (Ok Empty) s = s ≡ empty_compact h
LeavesOpen {X} key Spells bytes h (Ok (Filled p)) s = (xs : List X) × (s ≡ state_after_preamble p h xs) × HasEntries key Spells bytes p h xs

-- memory is refused, or there is no reading, and this is the flaw
abbrev pub IsUnread : (Something : Type 0) → Flaw → ReadError → Type 0
IsUnread Something flaw NoMemory = ⊤
IsUnread Something flaw (Flawed found) = (found ≡ flaw) × (Something → ⊥)

-- the result is a reading; a flaw is returned only if there is none, and it is this one
abbrev pub ReadsOrFlawed : {X : Type 0} → (X → Type 0) → Flaw → Result X ReadError → Type 0
ReadsOrFlawed {X} Reads flaw (Ok x) = Reads x
ReadsOrFlawed {X} Reads flaw (Err e) = IsUnread ((x : X) × Reads x) flaw e

-- why bytes with this flaw were not read, by the error of reading them
abbrev pub error_of : Flaw → ErrorKind → ReadError
error_of flaw InvalidData = Flawed flaw
error_of flaw InvalidArgument = NoMemory
error_of flaw OutOfMemory = NoMemory
error_of flaw Policy = NoMemory
error_of flaw Failed = NoMemory

-- the kind of the error of a caller that doesn't ask why
abbrev pub kind_of : ReadError → ErrorKind
kind_of (Flawed flaw) = InvalidData
kind_of NoMemory = OutOfMemory
