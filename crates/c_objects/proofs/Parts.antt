-- The decimals of estimates fit 64 bits.
use Rattle.std.proofs.Common.{◌*◌, ◌/◌, ◌%◌, ◌^◌, ◌<◌, ◌≤◌, ℕ, arith}
use Rattle.std.proofs.Math.Nat.{pow-le-pow_right}
use Rattle.std.proofs.lemmas.Nat.{mul-le, div_below, mod_below}

-- a rest times a power of ten of at most 19 zeros, divided
pub decimals_fit : (f t places : ℕ) → 0 < t → places ≤ 19 → f % t * 10 ^ places / t < 2 ^ 64
decimals_fit f t places low limited =
    let rest : f % t < t = mod_below f t low in
    let power : 10 ^ places ≤ 10000000000000000000 = pow-le-pow_right {n = 10} (omega arith) {i = places} {j = 19} limited in
    let most : f % t * 10 ^ places ≤ f % t * 10000000000000000000 = mul-le (f % t) (10 ^ places) (f % t) 10000000000000000000 (omega arith) power in
    let below : f % t * 10 ^ places / t < 10000000000000000000 = div_below (f % t * 10 ^ places) t 10000000000000000000 low (omega (arith, most, rest)) in
    omega (arith, below)
