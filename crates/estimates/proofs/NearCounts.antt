-- Near counts and the bounds that cover them.
use Rattle.std.proofs.Common.{ℕ, zero, suc, ◌+◌, ◌-◌, ◌*◌, ◌/◌, ◌≤◌, ◌<◌, ◌≡◌, inl, inr, ap, sym, subst, ◌∙◌, arith}
use Rattle.std.specs.Prelude.{max}
use Rattle.std.specs.Int.{abs_diff}
use Rattle.std.proofs.Math.Nat.{div-le_of_le-mul, div-mul-le_self, lt-div-mul-add}
use Rattle.std.proofs.lemmas.Nat.{mul-le, le-div, div_below}
use Rattle.std.proofs.lemmas.Bool.{cases_lt}
use Rattle.std.proofs.lemmas.Grind.{div_ceil_times}
use Rattle.core_laws.specs.declared.TheConstants.{MAX_THETA}
use Rattle.estimates.specs.Bounds.{IsNear, ceil_sqrt, spread, reach, root_sum, middle, count_bounds}
use Rattle.estimates.specs.Fraction.{nearest}
use Rattle.estimates.proofs.Roots.{ceil_sqrt_enough, ceil_sqrt_least}

-- ---- a number a within √(S a) of e is within (S + √(S (S + 4 e))) / 2 of e, upwards, and downwards

at_most_root : (x w : ℕ) → x * x ≤ w * w → x ≤ w
at_most_root x w h =
    elim (cases_lt w x) [ inl lt ↦ absurd (omega (arith, h, mul-le (w + 1) (w + 1) x x (omega (arith, lt)) (omega (arith, lt)))) | inr le ↦ le ]

square_above : (S e d x : ℕ) → d * d ≤ S * (e + d) → 2 * d ≡ S + x → x * x ≤ S * (S + 4 * e)
square_above S e d x h eq = omega (arith, h, ap (λ (y : ℕ). y * y) eq, ap (λ (y : ℕ). S * y) eq)

above : (S e d w : ℕ) → d * d ≤ S * (e + d) → S * (S + 4 * e) ≤ w * w → 2 * d ≤ S + w
above S e d w h root =
    elim (cases_lt (S + w) (2 * d)) [
      | inl lt ↦
          let x : ℕ = 2 * d - S in
          let square : x * x ≤ S * (S + 4 * e) = square_above S e d x h (omega (arith, lt)) in
          let small : x ≤ w = at_most_root x w (omega (arith, square, root)) in
          absurd (omega (arith, lt, small))
      | inr le ↦ le
    ]

below : (S a d w : ℕ) → d * d ≤ S * a → S * (S + 4 * (a + d)) ≤ w * w → 2 * d + S ≤ w
below S a d w h root = at_most_root (2 * d + S) w (omega (arith, h, root))

pub near_middle : (S a e w : ℕ) → abs_diff a e * abs_diff a e ≤ S * a → S * (S + 4 * e) ≤ w * w → (2 * a ≤ 2 * e + S + w) × (2 * e + S ≤ 2 * a + w)
near_middle S a e w h root =
    elim (cases_lt a e) [
      | inl lt ↦
          let d : ℕ = e - a in
          let same : e ≡ a + d = omega (arith, lt) in
          let gap : abs_diff a e ≡ d = omega (arith, lt) in
          let far : 2 * d + S ≤ w = below S a d w (subst (λ (y : ℕ). y * y ≤ S * a) gap h) (subst (λ (y : ℕ). S * (S + 4 * y) ≤ w * w) same root) in
          (omega (arith, lt), omega (arith, far, same))
      | inr le ↦
          let d : ℕ = a - e in
          let same : a ≡ e + d = omega (arith, le) in
          let gap : abs_diff a e ≡ d = omega (arith, le) in
          let close : d * d ≤ S * a = subst (λ (y : ℕ). y * y ≤ S * a) gap h in
          let far : 2 * d ≤ S + w = above S e d w (subst (λ (y : ℕ). d * d ≤ S * y) same close) root in
          let wide : S ≤ w = at_most_root S w (omega (arith, root)) in
          (omega (arith, far, same), omega (arith, wide, le))
    ]

pub near_more : (z more r t n : ℕ) → z ≤ more → IsNear z r t n → IsNear more r t n
near_more z more r t n le near =
    omega (arith, near, mul-le (z * z) (n * t * (MAX_THETA - t)) (more * more) (n * t * (MAX_THETA - t)) (mul-le z z more more le le) (omega arith))

-- ---- the bounds

-- the product of the roots is at least the root of the product
pub reach_enough : (z r t : ℕ) → spread z t * (spread z t + 4 * (r * MAX_THETA)) ≤ reach z r t * reach z r t
reach_enough z r t =
    let S = spread z t in
    let Q = spread z t + 4 * (r * MAX_THETA) in
    omega (arith, mul-le S Q (ceil_sqrt S * ceil_sqrt S) (ceil_sqrt Q * ceil_sqrt Q) (ceil_sqrt_enough S) (ceil_sqrt_enough Q))

-- so it is at least the spread
reach_wide : (z r t : ℕ) → spread z t ≤ reach z r t
reach_wide z r t = at_most_root (spread z t) (reach z r t) (omega (arith, reach_enough z r t))

near_within : (z r t n : ℕ) → IsNear z r t n → (2 * (n * t) ≤ middle z r t + reach z r t) × (middle z r t ≤ 2 * (n * t) + reach z r t)
near_within z r t n near =
    near_middle (spread z t) (n * t) (r * MAX_THETA) (reach z r t) (omega (arith, near)) (reach_enough z r t)

pub near_from_lower : (z r t n : ℕ) → r ≤ n → IsNear z r t n → (count_bounds z r t).lower ≤ n
unfolding count_bounds
near_from_lower z r t n seen near =
    let limited : (middle z r t - reach z r t) / (2 * t) ≤ n = div-le_of_le-mul (2 * t) (omega (arith, (near_within z r t n near).1)) in
    omega (arith, limited, seen)

pub near_to_upper : (z r t n : ℕ) → 0 < t → IsNear z r t n → n ≤ (count_bounds z r t).upper
unfolding count_bounds
near_to_upper z r t n low near =
    let many : n ≤ (middle z r t + reach z r t) / (2 * t) = le-div n _ (2 * t) (omega (arith, low)) (omega (arith, (near_within z r t n near).0)) in
    omega (arith, many)

-- the lower bound is at least the number of retained entries
pub retained_within : (z r t : ℕ) → r ≤ (count_bounds z r t).lower
unfolding count_bounds
retained_within z r t = omega arith

max_times : (a b t w : ℕ) → a * t ≤ w → b * t ≤ w → max a b * t ≤ w
max_times a b t w first second =
    elim (cases_lt a b) [
      | inl lt ↦ let e : max a b ≡ b = omega (arith, lt) in rw e second
      | inr le ↦ let e : max a b ≡ a = omega (arith, le) in rw e first
    ]

pub lower_times : (z r t : ℕ) → t ≤ MAX_THETA → (count_bounds z r t).lower * t ≤ r * MAX_THETA
unfolding count_bounds
lower_times z r t high =
    max_times ((middle z r t - reach z r t) / (2 * t)) r t (r * MAX_THETA)
    (omega (arith, div-mul-le_self (middle z r t - reach z r t) (2 * t), reach_wide z r t))
    (mul-le r t r MAX_THETA (omega arith) high)

upper_fits : (z r t : ℕ) → 0 < t → (middle z r t + reach z r t ≤ (count_bounds z r t).upper * (2 * t)) × ((count_bounds z r t).upper * (2 * t) < middle z r t + reach z r t + 2 * t)
unfolding count_bounds
upper_fits z r t low = div_ceil_times (middle z r t + reach z r t) (2 * t) (omega (arith, low))

pub upper_times : (z r t : ℕ) → 0 < t → r * MAX_THETA ≤ (count_bounds z r t).upper * t
upper_times z r t low = omega (arith, (upper_fits z r t low).0)

-- the lower bound is at most the nearest whole number to the estimate
pub lower_nearest : (z r t : ℕ) → 0 < t → t ≤ MAX_THETA → (count_bounds z r t).lower ≤ nearest (r * MAX_THETA) t
lower_nearest z r t low high = le-div (count_bounds z r t).lower _ (2 * t) (omega (arith, low)) (omega (arith, lower_times z r t high))

-- the upper bound is at least the nearest whole number to the estimate
pub upper_nearest : (z r t : ℕ) → 0 < t → nearest (r * MAX_THETA) t ≤ (count_bounds z r t).upper
upper_nearest z r t low =
    omega (arith, div_below (2 * (r * MAX_THETA) + t) (2 * t) ((count_bounds z r t).upper + 1) (omega (arith, low)) (omega (arith, low, upper_times z r t low)))

-- below the greatest theta, for one deviation or more, the upper bound is above the number of retained entries
pub upper_above : (z r t : ℕ) → 0 < z → 0 < t → t < MAX_THETA → r < (count_bounds z r t).upper
upper_above z r t some low less =
    let square : 1 ≤ z * z = mul-le 1 1 z z some some in
    let wide : 1 ≤ spread z t = mul-le 1 1 (z * z) (MAX_THETA - t) square (omega (arith, less)) in
    let more : r * t ≤ r * MAX_THETA = mul-le r t r MAX_THETA (omega arith) (omega (arith, less)) in
    elim (cases_lt r (count_bounds z r t).upper) [
      | inl lt ↦ lt
      | inr le ↦ absurd (omega (arith, wide, more, (upper_fits z r t low).0, mul-le (count_bounds z r t).upper (2 * t) r (2 * t) le (omega arith)))
    ]

-- ---- the greatest theta

no_reach : (z r : ℕ) → reach z r MAX_THETA ≡ 0
no_reach z r =
    let none : spread z MAX_THETA ≡ 0 = omega arith in
    let root : ceil_sqrt (spread z MAX_THETA) ≡ 0 = omega (arith, ceil_sqrt_least (spread z MAX_THETA) 0 (omega (arith, none))) in
    ap (λ (y : ℕ). y * ceil_sqrt (spread z MAX_THETA + 4 * (r * MAX_THETA))) root ∙ omega arith

lower_exact : (z r : ℕ) → (count_bounds z r MAX_THETA).lower ≡ r
lower_exact z r = omega (arith, lower_times z r MAX_THETA (omega arith), retained_within z r MAX_THETA)

upper_exact : (z r : ℕ) → (count_bounds z r MAX_THETA).upper ≡ r
upper_exact z r = omega (arith, upper_times z r MAX_THETA (omega arith), (upper_fits z r MAX_THETA (omega arith)).1, no_reach z r)

-- at the greatest theta both bounds are the number of retained entries
pub exact_bounds : (z r : ℕ) → count_bounds z r MAX_THETA ≡ record { lower = r; upper = r }
unfolding count_bounds
exact_bounds z r = λ i. record { lower = lower_exact z r i; upper = upper_exact z r i }

-- ---- counts inside the bounds

-- √(S (S + 4 e)) or less away from the middle is near
middle_near : (S a e x : ℕ) → abs_diff (2 * a) (2 * e + S) ≤ x → x * x ≤ S * (S + 4 * e) → abs_diff a e * abs_diff a e ≤ S * a
middle_near S a e x away root =
    elim (cases_lt a e) [
      | inl lt ↦
          let d : ℕ = e - a in
          let same : e ≡ a + d = omega (arith, lt) in
          let square : (2 * d + S) * (2 * d + S) ≤ x * x = mul-le (2 * d + S) (2 * d + S) x x (omega (arith, away, lt)) (omega (arith, away, lt)) in
          let limited : x * x ≤ S * (S + 4 * (a + d)) = subst (λ (y : ℕ). x * x ≤ S * (S + 4 * y)) same root in
          let near : d * d ≤ S * a = omega (arith, square, limited) in
          let gap : abs_diff a e ≡ d = omega (arith, lt) in
          rw gap near
      | inr le ↦
          let d : ℕ = a - e in
          let same : a ≡ e + d = omega (arith, le) in
          let gap : abs_diff a e ≡ d = omega (arith, le) in
          let near : d * d ≤ S * (e + d) =
          elim (cases_lt (2 * d) S) [
            | inl limited ↦ omega (arith, mul-le d d S d (omega (arith, limited)) (omega arith))
            | inr many ↦ above_near S e d (2 * d - S) x (omega (arith, many)) (omega (arith, away, le, many)) root
          ] in
          rw gap (subst (λ (y : ℕ). d * d ≤ S * y) (sym same) near)
    ]
  where
    above_near : (S e d y x : ℕ) → 2 * d ≡ S + y → y ≤ x → x * x ≤ S * (S + 4 * e) → d * d ≤ S * (e + d)
    above_near S e d y x eq less root =
        omega (arith, root, mul-le y y x x less less, ap (λ (w : ℕ). w * w) eq, ap (λ (w : ℕ). S * w) eq)

-- the number below a root has a square of at most the number
root_minus_one : (n : ℕ) → (ceil_sqrt n - 1) * (ceil_sqrt n - 1) ≤ n
root_minus_one n =
    let g : ℕ = ceil_sqrt n - 1 in
    elim (cases_lt n (g * g)) [
      | inl lt ↦
          let least : ceil_sqrt n ≤ g = ceil_sqrt_least n g (omega (arith, lt)) in
          let none : g ≤ 0 = omega (arith, least) in
          absurd (omega (arith, lt, mul-le g g 0 0 none none))
      | inr le ↦ le
    ]

-- what remains of a product without its factors
less_both : (x u v : ℕ) → x + (u + v) ≤ u * v → x ≤ (u - 1) * (v - 1)
less_both x zero v h = omega (arith, h)
less_both x (suc u) zero h = omega (arith, h)
less_both x (suc u) (suc v) h =
    let first : suc u - 1 ≡ u = omega arith in
    let second : suc v - 1 ≡ v = omega arith in
    rw (first, second) (omega (arith, h))

inside_root : (x S Q : ℕ) → x + (ceil_sqrt S + ceil_sqrt Q) ≤ ceil_sqrt S * ceil_sqrt Q → x * x ≤ S * Q
inside_root x S Q h =
    let g : ℕ = ceil_sqrt S - 1 in
    let k : ℕ = ceil_sqrt Q - 1 in
    let less : x ≤ g * k = less_both x (ceil_sqrt S) (ceil_sqrt Q) h in
    omega (arith, mul-le x x (g * k) (g * k) less less, mul-le (g * g) (k * k) S Q (root_minus_one S) (root_minus_one Q))

inside_lower : (z r t n : ℕ) → 0 < t → root_sum z r t ≤ 2 * t → (count_bounds z r t).lower + 2 ≤ n → middle z r t + root_sum z r t ≤ 2 * (n * t) + reach z r t
unfolding count_bounds
inside_lower z r t n low wide from =
    let rest : ℕ = middle z r t - reach z r t in
    let next : rest < rest / (2 * t) * (2 * t) + 2 * t = lt-div-mul-add (omega (arith, low)) in
    let more : (rest / (2 * t) + 2) * (2 * t) ≤ n * (2 * t) = mul-le (rest / (2 * t) + 2) (2 * t) n (2 * t) (omega (arith, from)) (omega arith) in
    omega (arith, next, more, wide)

inside_upper : (z r t n : ℕ) → 0 < t → root_sum z r t ≤ 2 * t → n + 2 ≤ (count_bounds z r t).upper → 2 * (n * t) + root_sum z r t ≤ middle z r t + reach z r t
inside_upper z r t n low wide to =
    omega (arith, wide, (upper_fits z r t low).1, mul-le (n + 2) (2 * t) (count_bounds z r t).upper (2 * t) to (omega arith))

pub inside_near : (z r t n : ℕ) → 0 < t → root_sum z r t ≤ 2 * t → (count_bounds z r t).lower + 2 ≤ n → n + 2 ≤ (count_bounds z r t).upper → IsNear z r t n
inside_near z r t n low wide from to =
    let x : ℕ = abs_diff (2 * (n * t)) (middle z r t) in
    let inside : x + root_sum z r t ≤ reach z r t = omega (arith, inside_lower z r t n low wide from, inside_upper z r t n low wide to) in
    let near = middle_near (spread z t) (n * t) (r * MAX_THETA) x (omega arith) (inside_root x (spread z t) (spread z t + 4 * (r * MAX_THETA)) inside) in
    omega (arith, near)
