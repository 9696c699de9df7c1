-- Settings of new objects.
use Rattle.std.specs.Prelude.{ℕ, ◌≡◌, ◌≢◌, ◌==◌, ◌||◌, Bool, true, false, is_some, if◌then◌else◌, Option, Some, None}
use Rattle.sketch_base.specs.Seed.{seed_hash}
use Rattle.sketch_base.specs.declared.error.ErrorKind.{ErrorKind}
use Rattle.sketch_base.specs.declared.error.ErrorKind.TheVariants.{InvalidArgument}
use Rattle.core_laws.specs.Settings.{settings_refusal}
use Rattle.core_laws.specs.declared.TheConstants.{MAX_THETA}
use Rattle.tuple_sketches.specs.declared.numbers.SummaryMode.{SummaryMode}
use Rattle.tuple_sketches.specs.declared.numbers.SummaryMode.TheVariants.{Sum, Min, Max}
use Rattle.c_objects.specs.Status.{IsRefusal}

-- a resize factor
abbrev pub valid_factor : ℕ → Option ℕ
valid_factor n = if n == 1 || n == 2 || n == 4 || n == 8 then Some n else None

-- the error of settings that no sketch and no union may have
abbrev pub new_refusal : (lg_k factor start seed : ℕ) → Option ErrorKind
new_refusal lg_k factor start seed = if is_some (valid_factor factor) then settings_refusal lg_k start seed else Some InvalidArgument

-- the refusal of a new object: settings that none may have, or memory
abbrev pub IsNewRefusal : (lg_k factor start seed status : ℕ) → Type 0
IsNewRefusal lg_k factor start seed status = IsRefusal (new_refusal lg_k factor start seed) true status

-- the refusal of a new object of the default resize factor, at the greatest theta
abbrev pub IsSettingsRefusal : (lg_k seed status : ℕ) → Type 0
IsSettingsRefusal lg_k seed status = IsRefusal (settings_refusal lg_k MAX_THETA seed) true status

-- the mode of a number: 0 for sums, 1 for least numbers, 2 for greatest numbers
abbrev pub valid_mode : ℕ → Option SummaryMode
valid_mode n = if n == 0 then Some Sum else (if n == 1 then Some Min else (if n == 2 then Some Max else None))

-- the error of a number that is no mode, or else another
abbrev pub mode_refusal : (mode : ℕ) → Option ErrorKind → Option ErrorKind
mode_refusal mode refusal = if is_some (valid_mode mode) then refusal else Some InvalidArgument

-- the refusal of a new object of a mode: a mode or settings that none may have, or memory
abbrev pub IsModeRefusal : (mode lg_k factor start seed status : ℕ) → Type 0
IsModeRefusal mode lg_k factor start seed status =
    let refusal = if is_some (valid_factor factor) then mode_refusal mode (settings_refusal lg_k start seed) else Some InvalidArgument in
    IsRefusal refusal true status

-- the hash of a seed was written, with status 0; a seed whose hash is 0 is refused with 1, and nothing is written
abbrev pub WritesSeedHash : (seed before status after : ℕ) → Type 0
WritesSeedHash seed before status after =
    (seed_hash seed ≢ 0 → (status ≡ 0) × (after ≡ seed_hash seed)) × (seed_hash seed ≡ 0 → (status ≡ 1) × (after ≡ before))

-- the order that a number asks for: whether a sketch is to be ordered
abbrev pub valid_order : ℕ → Option Bool
valid_order n = if n == 0 then Some false else (if n == 1 then Some true else None)

-- an order as a number
abbrev pub order_number : (ordered : Bool) → ℕ
order_number ordered = if ordered then 1 else 0
