-- Bounds of a share: the share itself, and the shares that are near it, are within them.
use Rattle.std.proofs.Common.{ℕ, ◌+◌, ◌-◌, ◌*◌, ◌/◌, ◌≤◌, ◌<◌, ◌≡◌, Bool, true, false, cond, eqb, inl, inr, refl, ap, sym, subst, arith}
use Rattle.std.specs.Int.{abs_diff, div_ceil}
use Rattle.std.proofs.Math.Nat.{div-le_of_le-mul, div-mul-le_self}
use Rattle.std.proofs.lemmas.Nat.{mul-le, le-div, div_below}
use Rattle.std.proofs.lemmas.Bool.{cases_lt}
use Rattle.std.proofs.lemmas.Bool.Decides.{nat_tests}
use Rattle.std.proofs.lemmas.Grind.{div_ceil_times}
use Rattle.core_laws.specs.declared.TheConstants.{MAX_THETA}
use Rattle.estimates.specs.Bounds.{ceil_sqrt}
use Rattle.estimates.specs.Fraction.{nearest}
use Rattle.estimates.specs.declared.bounds.Deviations.{Deviations}
use Rattle.estimates.proofs.Roots.{ceil_sqrt_enough, ceil_sqrt_least}
use Rattle.similarities.specs.Similarities.{IsConsistent, IsNear, reach, middle, share_bounds, united, deviations_of, similarity_by, similarity_with}
use Rattle.similarities.specs.declared.similarity.TheConstants.{MILLION}
use Rattle.similarities.specs.declared.similarity.Nonempty.{Nonempty}
use Rattle.similarities.specs.declared.similarity.Nonempty.TheVariants.{Neither, One, Both}
use Rattle.similarities.specs.declared.similarity.Overlap.{Overlap}

at_most_root : (x w : ℕ) → x * x ≤ w * w → x ≤ w
at_most_root x w h =
    elim (cases_lt w x) [ inl lt ↦ absurd (omega (arith, h, mul-le (w + 1) (w + 1) x x (omega (arith, lt)) (omega (arith, lt)))) | inr le ↦ le ]

cancelled : (a b n : ℕ) → 0 < n → a * n ≤ b * n → a ≤ b
cancelled a b n some h =
    elim (cases_lt b a) [ inl lt ↦ absurd (omega (arith, some, h, mul-le (b + 1) n a n (omega (arith, lt)) (omega arith))) | inr le ↦ le ]

-- a quotient that is rounded up is at most a number whose product is at least the dividend
ceil_at_most : (x n b : ℕ) → 0 < n → x ≤ b * n → div_ceil x n ≤ b
ceil_at_most x n b some h =
    elim (cases_lt b (div_ceil x n)) [
      | inl lt ↦ absurd (omega (arith, h, (div_ceil_times x n some).1, mul-le (b + 1) n (div_ceil x n) n (omega (arith, lt)) (omega arith)))
      | inr le ↦ le
    ]

-- the square of what is under the root
abbrev under : (z s n : ℕ) → ℕ
under z s n = z * z * (MILLION * MILLION) * (z * z * n + 4 * (s * (n - s)))

-- the root covers it
reach_covers : (z s n : ℕ) → 0 < n → under z s n ≤ reach z s n * reach z s n * n
reach_covers z s n some =
    let q : ℕ = div_ceil (under z s n) n in
    let fits : under z s n ≤ q * n = (div_ceil_times (under z s n) n some).0 in
    omega (arith, fits, mul-le q n (ceil_sqrt q * ceil_sqrt q) n (ceil_sqrt_enough q) (omega arith))

-- .. and is at least z²
reach_wide : (z s n : ℕ) → 0 < n → MILLION * (z * z) ≤ reach z s n
reach_wide z s n some =
    at_most_root (MILLION * (z * z)) (reach z s n) (cancelled (MILLION * (z * z) * (MILLION * (z * z))) (reach z s n * reach z s n) n some (omega (arith, reach_covers z s n some)))

-- ---- the share is within its bounds

lower_share : (z s n : ℕ) → 0 < n → (share_bounds z s n).lower ≤ nearest (s * MILLION) n
unfolding share_bounds
lower_share z s n some =
    let rest : ℕ = middle z s - reach z s n in
    le-div (rest / (2 * (n + z * z))) _ (2 * n) (omega (arith, some)) (omega (arith, div-mul-le_self rest (2 * (n + z * z)), reach_wide z s n some))

upper_fits : (z s n : ℕ) → 0 < n → middle z s + reach z s n ≤ (share_bounds z s n).upper * (2 * (n + z * z))
unfolding share_bounds
upper_fits z s n some = (div_ceil_times (middle z s + reach z s n) (2 * (n + z * z)) (omega (arith, some))).0

upper_times : (z s n : ℕ) → 0 < n → s ≤ n → s * MILLION ≤ n * (share_bounds z s n).upper
upper_times z s n some inside =
    let u : ℕ = (share_bounds z s n).upper in
    elim (cases_lt MILLION u) [
      | inl lt ↦ mul-le s MILLION n u inside (omega (arith, lt))
      | inr le ↦ omega (arith, upper_fits z s n some, reach_wide z s n some, mul-le u (z * z) MILLION (z * z) le (omega arith))
    ]

upper_share : (z s n : ℕ) → 0 < n → s ≤ n → nearest (s * MILLION) n ≤ (share_bounds z s n).upper
upper_share z s n some inside =
    omega (arith, div_below (2 * (s * MILLION) + n) (2 * n) ((share_bounds z s n).upper + 1) (omega (arith, some)) (omega (arith, some, upper_times z s n some inside)))

-- ---- the bounds are at most one

below_square : (z m s d : ℕ) → z * z * (m * m) * (z * z * (s + d) + 4 * (s * d)) ≤ m * (2 * d + z * z) * (m * (2 * d + z * z)) * (s + d)
below_square z m s d = omega arith

reach_limited : (z s n : ℕ) → 0 < n → s ≤ n → reach z s n ≤ MILLION * (2 * (n - s) + z * z)
reach_limited z s n some inside =
    let d : ℕ = n - s in
    let same : s + d ≡ n = omega (arith, inside) in
    let b : ℕ = MILLION * (2 * d + z * z) in
    let square : under z s n ≤ b * b * n = subst (λ (k : ℕ). z * z * (MILLION * MILLION) * (z * z * k + 4 * (s * d)) ≤ b * b * k) same (below_square z MILLION s d) in
    ceil_sqrt_least (div_ceil (under z s n) n) b (ceil_at_most (under z s n) n (b * b) some square)

upper_limited : (z s n : ℕ) → 0 < n → s ≤ n → (share_bounds z s n).upper ≤ MILLION
unfolding share_bounds
upper_limited z s n some inside =
    ceil_at_most (middle z s + reach z s n) (2 * (n + z * z)) MILLION (omega (arith, some)) (omega (arith, inside, reach_limited z s n some inside))

-- ---- the similarity of two sketches

measured_consistent : (deviations : Deviations) (o : Overlap) (none : Bool) → eqb (united o) 0 ≡ none →
    IsConsistent (cond none (similarity_with o false (MILLION / 2) 0 MILLION)
    (similarity_with o (eqb o.theta MAX_THETA) (nearest (o.shared * MILLION) (united o))
    (share_bounds (deviations_of (eqb o.theta MAX_THETA) deviations) o.shared (united o)).lower
    (share_bounds (deviations_of (eqb o.theta MAX_THETA) deviations) o.shared (united o)).upper))
measured_consistent deviations o true none = record { above_lower = omega arith; below_upper = omega arith; at_most_one = omega arith }
measured_consistent deviations o false none =
    let z = deviations_of (eqb o.theta MAX_THETA) deviations in
    let some : 0 < united o = grind (arith, nat_tests) in
    let inside : o.shared ≤ united o = omega arith in
    record {
      above_lower = lower_share z o.shared (united o) some;
      below_upper = upper_share z o.shared (united o) some inside;
      at_most_one = upper_limited z o.shared (united o) some inside;
    }

pub consistent : (deviations : Deviations) (nonempty : Nonempty) (o : Overlap) → IsConsistent (similarity_by nonempty deviations o)
consistent deviations Neither o = record { above_lower = omega arith; below_upper = omega arith; at_most_one = omega arith }
consistent deviations One o = record { above_lower = omega arith; below_upper = omega arith; at_most_one = omega arith }
consistent deviations Both o = measured_consistent deviations o (eqb (united o) 0) refl

-- ---- shares that are near

abs_square : (a b : ℕ) → abs_diff a b * abs_diff a b + 2 * (a * b) ≡ a * a + b * b
abs_square a b =
    elim (cases_lt a b) [
      | inl lt ↦
          let w : ℕ = b - a in
          let gap : abs_diff a b ≡ w = omega (arith, lt) in
          let same : a + w ≡ b = omega (arith, lt) in
          rw gap (subst (λ (y : ℕ). w * w + 2 * (a * y) ≡ a * a + y * y) same (omega arith))
      | inr le ↦
          let w : ℕ = a - b in
          let gap : abs_diff a b ≡ w = omega (arith, le) in
          let same : b + w ≡ a = omega (arith, le) in
          rw gap (subst (λ (y : ℕ). w * w + 2 * (y * b) ≡ y * y + b * b) same (omega arith))
    ]

-- here h is the square of d q - s e, and g that of (2 d + Z) q - (2 s + Z) e
spread_out : (s d q e Z g h : ℕ) → h + 2 * (d * q * (s * e)) ≡ d * q * (d * q) + s * e * (s * e) → g + 2 * ((2 * d + Z) * q * ((2 * s + Z) * e)) ≡ (2 * d + Z) * q * ((2 * d + Z) * q) + (2 * s + Z) * e * ((2 * s + Z) * e)
    → h ≤ Z * ((s + d) * q) * e → g * (s + d) ≤ Z * ((q + e) * (q + e)) * (Z * (s + d) + 4 * (s * d))
spread_out s d q e Z g h of_h of_g near =
    omega (
      arith,
      ap (λ (y : ℕ). y * (s + d)) of_g,
      ap (λ (y : ℕ). y * (s + d)) of_h,
      ap (λ (y : ℕ). y * Z) of_h,
      mul-le h (s + d + Z) (Z * ((s + d) * q) * e) (s + d + Z) near (omega arith),
    )

near_root : (z s n q : ℕ) → 0 < n → s ≤ n → q ≤ MILLION → IsNear z s n q
    → (2 * (n + z * z) * q ≤ middle z s + reach z s n) × (middle z s ≤ 2 * (n + z * z) * q + reach z s n)
near_root z s n q some inside limited near =
    let d : ℕ = n - s in
    let e : ℕ = MILLION - q in
    let Z : ℕ = z * z in
    let same_n : s + d ≡ n = omega (arith, inside) in
    let same_m : q + e ≡ MILLION = omega (arith, limited) in
    let gap : abs_diff (n * q) (s * MILLION) ≡ abs_diff (d * q) (s * e) = omega (arith, ap (λ (y : ℕ). y * q) same_n, ap (λ (y : ℕ). s * y) same_m) in
    let close : abs_diff (d * q) (s * e) * abs_diff (d * q) (s * e) ≤ Z * ((s + d) * q) * e =
    subst (λ (k : ℕ). abs_diff (d * q) (s * e) * abs_diff (d * q) (s * e) ≤ Z * (k * q) * e) (sym same_n) (subst (λ (y : ℕ). y * y ≤ Z * (n * q) * e) gap near) in
    let x : ℕ = (2 * d + Z) * q in
    let y : ℕ = (2 * s + Z) * e in
    let w : ℕ = abs_diff x y in
    let wide : w * w * (s + d) ≤ Z * ((q + e) * (q + e)) * (Z * (s + d) + 4 * (s * d)) = spread_out s d q e Z (w * w) _ (abs_square (d * q) (s * e)) (abs_square x y) close in
    let under_it : w * w * n ≤ under z s n =
    subst (λ (k : ℕ). w * w * k ≤ Z * (MILLION * MILLION) * (Z * k + 4 * (s * d))) same_n (subst (λ (m : ℕ). w * w * (s + d) ≤ Z * (m * m) * (Z * (s + d) + 4 * (s * d))) same_m wide) in
    let reached : w ≤ reach z s n = at_most_root w (reach z s n) (cancelled (w * w) (reach z s n * reach z s n) n some (omega (arith, under_it, reach_covers z s n some))) in
    let apart : 2 * (n + Z) * q + y ≡ middle z s + x = omega (arith, ap (λ (k : ℕ). k * q) same_n, ap (λ (m : ℕ). m * s) same_m, ap (λ (m : ℕ). m * Z) same_m) in
    (omega (arith, reached, apart), omega (arith, reached, apart))

pub near_from_lower : (z s n q : ℕ) → 0 < n → s ≤ n → q ≤ MILLION → IsNear z s n q → (share_bounds z s n).lower ≤ q
unfolding share_bounds
near_from_lower z s n q some inside limited near = div-le_of_le-mul (2 * (n + z * z)) (omega (arith, (near_root z s n q some inside limited near).1))

pub near_to_upper : (z s n q : ℕ) → 0 < n → s ≤ n → q ≤ MILLION → IsNear z s n q → q ≤ (share_bounds z s n).upper
near_to_upper z s n q some inside limited near =
    cancelled q (share_bounds z s n).upper (2 * (n + z * z)) (omega (arith, some)) (omega (arith, (near_root z s n q some inside limited near).0, upper_fits z s n some))
