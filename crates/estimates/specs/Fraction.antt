-- A fraction as a decimal number and as a whole one.
use Rattle.std.specs.Prelude.{ℕ, ◌+◌, ◌*◌, ◌/◌, ◌%◌, ◌^◌}
use Rattle.estimates.specs.declared.fraction.Decimal.{Decimal}

-- a fraction as a decimal number with `places` decimals, rounded down: the quotient, and the quotient of the remainder
-- times a power of ten
abbrev pub decimal_of : ℕ × ℕ → (places : ℕ) → Decimal
decimal_of f places = record { whole = f.0 / f.1; decimals = f.0 % f.1 * 10 ^ places / f.1; places = places }

-- the nearest whole number to a fraction; a half is rounded up
abbrev pub nearest : (over under : ℕ) → ℕ
nearest over under = (2 * over + under) / (2 * under)
