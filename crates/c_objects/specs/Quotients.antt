-- Fractions as decimal numbers and as whole ones, as they are written for C.
use Rattle.std.specs.Prelude.{◌≡◌, ◌&&◌, ℕ, Bool, List, nat_le, if◌then◌else◌, Option, Some, None}
use Rattle.estimates.specs.declared.fraction.TheConstants.{MAX_PLACES}
use Rattle.estimates.specs.Fraction.{decimal_of}
use Rattle.estimates.specs.Fraction.{nearest}
use Rattle.c_objects.specs.Bounds.{wide}
use Rattle.c_objects.specs.Buffer.{IsPut}
use Rattle.c_objects.specs.Numerals.{decimal_text}
use Rattle.c_objects.specs.declared.bounds.Wide.{Wide}

-- a fraction as a decimal number, rounded down: its whole part and its decimals; `None` if a number is out of range
abbrev pub parts_of : (is_valid : Bool) → ℕ × ℕ → (places : ℕ) → Option (ℕ × ℕ)
parts_of is_valid fraction places =
    if is_valid && nat_le places MAX_PLACES then Some ((decimal_of fraction places).whole, (decimal_of fraction places).decimals) else None

-- a fraction as the nearest whole number; `None` if a number is out of range
abbrev pub rounded_of : (is_valid : Bool) → ℕ × ℕ → Option ℕ
rounded_of is_valid fraction = if is_valid then Some (nearest fraction.0 fraction.1) else None

-- the parts of a decimal number were written, with status 0; or a number is out of range, with 1, and nothing is written
abbrev pub WritesParts : Option (ℕ × ℕ) → (whole_before : Wide) → (decimals_before status : ℕ) → (whole : Wide) → (decimals : ℕ) → Type 0
WritesParts None whole_before decimals_before status whole decimals = (status ≡ 1) × (whole ≡ whole_before) × (decimals ≡ decimals_before)
WritesParts (Some parts) whole_before decimals_before status whole decimals = (status ≡ 0) × (whole ≡ wide parts.0) × (decimals ≡ parts.1)

-- the same as text, if the buffer has room for it
abbrev pub WritesText : Option (ℕ × ℕ) → (places : ℕ) → (before : List ℕ) → (count_before status : ℕ) → (after : List ℕ) → (count : ℕ) → Type 0
WritesText None places before count_before status after count = (status ≡ 1) × (after ≡ before) × (count ≡ count_before)
WritesText (Some parts) places before count_before status after count = IsPut (decimal_text parts.0 parts.1 places) before status after count

-- a whole number was written, with status 0; or a number is out of range, with 1, and nothing is written
abbrev pub WritesNumber : Option ℕ → (before : Wide) → (status : ℕ) → (after : Wide) → Type 0
WritesNumber None before status after = (status ≡ 1) × (after ≡ before)
WritesNumber (Some number) before status after = (status ≡ 0) × (after ≡ wide number)
