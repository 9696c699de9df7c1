-- Totals of sums, and what they estimate.
use Rattle.std.specs.Prelude.{◌+◌, ◌*◌, ◌^◌, ◌&&◌, ℕ, Bool, nat_lt, nat_le}
use Rattle.core_laws.specs.declared.TheConstants.{MAX_THETA}

-- a total, below 2^64 times theta, and a theta from 1 to the greatest, as every sketch has them: it has fewer entries than theta
abbrev pub is_total : (low high theta : ℕ) → Bool
is_total low high theta = nat_lt high theta && nat_le theta MAX_THETA

-- a number of two halves
abbrev pub joined_halves : (low high : ℕ) → ℕ
joined_halves low high = low + 2 ^ 64 * high

-- the estimate of the total of all values of the stream: the total of a sketch times the greatest theta, over its theta
abbrev pub total_fraction : (low high theta : ℕ) → ℕ × ℕ
total_fraction low high theta = (joined_halves low high * MAX_THETA, theta)
