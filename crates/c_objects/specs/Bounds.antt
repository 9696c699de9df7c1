-- Estimates from the numbers of a state, as C reads them.
use Rattle.std.specs.Prelude.{◌≡◌, ◌*◌, ◌/◌, ◌%◌, ◌^◌, ◌&&◌, ℕ, Bool, true, false, is_some, nat_lt, nat_le}
use Rattle.std.specs.Prelude.{if◌then◌else◌, Option, Some, None}
use Rattle.core_laws.specs.declared.TheConstants.{MAX_THETA}
use Rattle.estimates.specs.Bounds.{count_bounds}
use Rattle.c_objects.specs.declared.bounds.Wide.{Wide}

-- a number of 128 bits as two of 64
abbrev pub wide : ℕ → Wide
wide n = record { low = n % 2 ^ 64; high = n / 2 ^ 64 }

-- the numbers of some sketch's state: fewer than 2^32 retained entries, and a theta from 1 to the greatest
abbrev pub is_state : (retained theta : ℕ) → Bool
is_state retained theta = nat_lt retained (2 ^ 32) && nat_lt 0 theta && nat_le theta MAX_THETA

-- the numerator of the estimate, whose divisor is theta
abbrev pub numerator : (retained : ℕ) → ℕ
numerator retained = retained * MAX_THETA

-- a number of standard deviations that has bounds
abbrev pub valid_deviations : ℕ → Option ℕ
valid_deviations n = if nat_le 1 n && nat_le n 3 then Some n else None

-- the bounds of the count were written, with status 0; or a number is out of range, with 1, and nothing is written
abbrev pub WritesBounds : (retained theta deviations : ℕ) → (lower_before upper_before : Wide) → (status : ℕ) → (lower upper : Wide) → Type 0
WritesBounds retained theta deviations lower_before upper_before status lower upper =
    ((is_state retained theta && is_some (valid_deviations deviations)) ≡ true
    → (status ≡ 0)
    × (lower ≡ wide (count_bounds deviations retained theta).lower)
    × (upper ≡ wide (count_bounds deviations retained theta).upper))
    × ((is_state retained theta && is_some (valid_deviations deviations)) ≡ false
    → (status ≡ 1) × (lower ≡ lower_before) × (upper ≡ upper_before))
