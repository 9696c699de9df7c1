-- Near totals and the bounds that cover them.
use Rattle.std.proofs.Common.{ℕ, ◌+◌, ◌-◌, ◌*◌, ◌/◌, ◌%◌, ◌≤◌, ◌<◌, ◌≡◌, ◌^◌, List, [], ◌∷◌, length, Bool, true, false, inl, inr, ap, refl, sym, subst, arith}
use Rattle.std.specs.Prelude.{max, min, nat_lt, if◌then◌else◌}
use Rattle.std.specs.Int.{abs_diff, div_ceil}
use Rattle.std.proofs.Math.Nat.{div-mul-le_self, le_of_mul-le-mul_right, mul-div_cancel, mul-zero, mul-mod_left}
use Rattle.std.proofs.lemmas.Nat.{mul-le, le-div, div_below}
use Rattle.std.proofs.lemmas.Bool.{cases_lt}
use Rattle.std.proofs.lemmas.Bool.Decides.{nat_tests}
use Rattle.std.proofs.lemmas.Grind.{div_ceil_times}
use Rattle.core_compact.specs.CompactState.{Compact, IsCompact}
use Rattle.core_slots.specs.Entry.{tuple_key}
use Rattle.core_laws.specs.declared.TheConstants.{MAX_THETA}
use Rattle.core_slots.specs.declared.entry.TupleEntry.{TupleEntry}
use Rattle.estimates.specs.Bounds.{ceil_sqrt}
use Rattle.estimates.specs.Fraction.{nearest}
use Rattle.estimates.proofs.Roots.{ceil_sqrt_enough, ceil_sqrt_least}
use Rattle.totals.specs.Bounds.{GREATEST, squares_of, greatest_in, wide_root, root_of, deviation_of, IsNearTotal, total_bounds}
use Rattle.totals.specs.Totals.{sum_of, total_of}
use Rattle.totals.proofs.Scaled.{at_least, few_below}

at_most_root : (x w : ℕ) → x * x ≤ w * w → x ≤ w
at_most_root x w h =
    elim (cases_lt w x) [ inl lt ↦ absurd (omega (arith, h, mul-le (w + 1) (w + 1) x x (omega (arith, lt)) (omega (arith, lt)))) | inr le ↦ le ]

-- the squares of numbers are at most the square of their sum
pub squares_small : (es : List (TupleEntry ℕ)) → squares_of es ≤ sum_of es * sum_of es
squares_small [] = omega arith
squares_small (e ∷ es) = omega (arith, squares_small es)

-- .. and at most their sum times the greatest
squares_wide : (es : List (TupleEntry ℕ)) → squares_of es ≤ sum_of es * greatest_in es
squares_wide [] = omega arith
squares_wide (e ∷ es) =
    let own : e.summary * e.summary ≤ e.summary * max e.summary (greatest_in es) = mul-le e.summary e.summary e.summary _ (omega arith) (omega arith) in
    let rest : sum_of es * greatest_in es ≤ sum_of es * max e.summary (greatest_in es) = mul-le (sum_of es) (greatest_in es) (sum_of es) _ (omega arith) (omega arith) in
    omega (arith, squares_wide es, own, rest)

-- the wide root is at most the sum, and its square at least the squares
wide_by : (Q S r : ℕ) → Q ≤ S * S → Q ≤ r * r → (b : ℕ) → b ≡ min r S → Q ≤ b * b
wide_by Q S r own other b is = elim (cases_lt r S) [
  | inl lt ↦ let same : b ≡ r = omega (arith, is, lt) in subst (λ (x : ℕ). Q ≤ x * x) (sym same) other
  | inr le ↦ let same : b ≡ S = omega (arith, is, le) in subst (λ (x : ℕ). Q ≤ x * x) (sym same) own
]

wide_enough : (es : List (TupleEntry ℕ)) → squares_of es ≤ wide_root (sum_of es) (greatest_in es) * wide_root (sum_of es) (greatest_in es)
wide_enough es =
    let S : ℕ = sum_of es in
    let g : ℕ = greatest_in es in
    let product : S * g ≤ ceil_sqrt S * ceil_sqrt S * (ceil_sqrt g * ceil_sqrt g) = mul-le S g _ _ (ceil_sqrt_enough S) (ceil_sqrt_enough g) in
    wide_by (squares_of es) S (ceil_sqrt S * ceil_sqrt g) (squares_small es) (omega (arith, squares_wide es, product)) _ refl

-- the root is at most the sum, and its square at least the squares
root_small_by : (es : List (TupleEntry ℕ)) → (b : Bool) → (if b then ceil_sqrt (squares_of es) else wide_root (sum_of es) (greatest_in es)) ≤ sum_of es
root_small_by es true = ceil_sqrt_least (squares_of es) (sum_of es) (squares_small es)
root_small_by es false = omega arith

pub root_small : (es : List (TupleEntry ℕ)) → root_of es ≤ sum_of es
unfolding root_of
root_small es = root_small_by es (nat_lt (squares_of es) GREATEST)

root_enough_by : (es : List (TupleEntry ℕ)) → (b : Bool)
    → squares_of es
    ≤ (if b then ceil_sqrt (squares_of es) else wide_root (sum_of es) (greatest_in es))
    * (if b then ceil_sqrt (squares_of es) else wide_root (sum_of es) (greatest_in es))
root_enough_by es true = ceil_sqrt_enough (squares_of es)
root_enough_by es false = wide_enough es

root_enough : (es : List (TupleEntry ℕ)) → squares_of es ≤ root_of es * root_of es
unfolding root_of
root_enough es = root_enough_by es (nat_lt (squares_of es) GREATEST)

-- the root by the squares, up to the greatest number
pub root_of_few : (es : List (TupleEntry ℕ)) → (q : ℕ) → q ≡ min (squares_of es) GREATEST → q < GREATEST → ceil_sqrt q ≡ root_of es
unfolding root_of
root_of_few es q is few =
    let same : q ≡ squares_of es = omega (arith, is, few) in
    let small : nat_lt (squares_of es) GREATEST ≡ true = grind (arith, nat_tests) in
    rw (small) (ap ceil_sqrt same)

pub root_of_many : (es : List (TupleEntry ℕ)) → (q : ℕ) → q ≡ min (squares_of es) GREATEST → GREATEST ≤ q
    → wide_root (sum_of es) (greatest_in es) ≡ root_of es
unfolding root_of
root_of_many es q is many =
    let more : GREATEST ≤ squares_of es = omega (arith, is, many) in
    let great : nat_lt (squares_of es) GREATEST ≡ false = grind (arith, nat_tests) in
    rw (great) refl

-- the sum of what a sketch retains, from entries that are listed, is below 2^64 times theta
pub sum_limited : (s : Compact (TupleEntry ℕ)) → IsCompact tuple_key s → (es : List (TupleEntry ℕ)) → es ≡ s.entries
    → sum_of es ≤ (2 ^ 64 - 1) * length es → sum_of s.entries < 2 ^ 64 * s.theta
sum_limited s sound es is limited =
    let few : length s.entries ≤ s.theta = few_below s.theta s.entries sound.shown.distinct sound.shown.below_theta in
    let all : sum_of s.entries ≤ (2 ^ 64 - 1) * length s.entries = subst (λ (x : List (TupleEntry ℕ)). sum_of x ≤ (2 ^ 64 - 1) * length x) is limited in
    omega (arith, few, all, sound.shown.theta_low)

-- the root of (MAX_THETA - t) MAX_THETA is at most MAX_THETA
pub spread_small : (t : ℕ) → ceil_sqrt ((MAX_THETA - t) * MAX_THETA) ≤ MAX_THETA
spread_small t = ceil_sqrt_least _ MAX_THETA (mul-le (MAX_THETA - t) MAX_THETA MAX_THETA MAX_THETA (omega arith) (omega arith))

-- if D² is at most z² Q W, and Q and W at most the squares of r and c, D is at most z r c
reaches : (z Q W r c D : ℕ) → Q ≤ r * r → W ≤ c * c → D * D ≤ z * z * (Q * W) → D ≤ z * (r * c)
reaches z Q W r c D q w h =
    let inside : Q * W ≤ r * r * (c * c) = mul-le Q W (r * r) (c * c) q w in
    let all : z * z * (Q * W) ≤ z * z * (r * r * (c * c)) = mul-le (z * z) (Q * W) (z * z) (r * r * (c * c)) (omega arith) inside in
    at_most_root D (z * (r * c)) (omega (arith, h, all))

-- how far n t is from the sum times MAX_THETA, if n is near: at most z times the deviation, times t
near_far : (z : ℕ) → (es : List (TupleEntry ℕ)) → (t n : ℕ) → 0 < t → IsNearTotal z es t n
    → abs_diff (n * t) (sum_of es * MAX_THETA) ≤ z * deviation_of es t * t
near_far z es t n low near =
    let c = ceil_sqrt ((MAX_THETA - t) * MAX_THETA) in
    let D = abs_diff (n * t) (sum_of es * MAX_THETA) in
    let far : D ≤ z * (root_of es * c) = reaches z (squares_of es) ((MAX_THETA - t) * MAX_THETA) (root_of es) c D (root_enough es) (ceil_sqrt_enough _) near in
    let up : root_of es * c ≤ deviation_of es t * t = (div_ceil_times (root_of es * c) t low).0 in
    let more : z * (root_of es * c) ≤ z * (deviation_of es t * t) = mul-le z _ z _ (omega arith) up in
    omega (arith, far, more)

pub near_total_from_lower : (z : ℕ) → (s : Compact (TupleEntry ℕ)) → (n : ℕ) → 0 < s.theta → sum_of s.entries ≤ n
    → IsNearTotal z s.entries s.theta n → (total_bounds z s).lower ≤ n
unfolding total_bounds
near_total_from_lower z s n low seen near =
    let t = s.theta in
    let N : ℕ = sum_of s.entries * MAX_THETA in
    let R : ℕ = z * deviation_of s.entries t in
    let far : abs_diff (n * t) N ≤ R * t = near_far z s.entries t n low near in
    let within : N ≤ (n + R) * t = omega (arith, far) in
    let down : N / t * t ≤ N = div-mul-le_self N t in
    let least : N / t ≤ n + R = le_of_mul-le-mul_right (omega (arith, within, down)) low in
    omega (arith, least, seen)

pub near_total_to_upper : (z : ℕ) → (s : Compact (TupleEntry ℕ)) → (n : ℕ) → 0 < s.theta → n ≤ GREATEST
    → IsNearTotal z s.entries s.theta n → n ≤ (total_bounds z s).upper
unfolding total_bounds
near_total_to_upper z s n low fits near =
    let t = s.theta in
    let N : ℕ = sum_of s.entries * MAX_THETA in
    let R : ℕ = z * deviation_of s.entries t in
    let far : abs_diff (n * t) N ≤ R * t = near_far z s.entries t n low near in
    let up : N ≤ div_ceil N t * t = (div_ceil_times N t low).0 in
    let within : n * t ≤ (div_ceil N t + R) * t = omega (arith, far, up) in
    let most : n ≤ div_ceil N t + R = le_of_mul-le-mul_right within low in
    omega (arith, most, fits)

-- a number of at most 128 bits less, and plus, another that has more
pub lower_saturated : (d x : ℕ) → d ≤ GREATEST → d - min x GREATEST ≡ d - x
lower_saturated d x le = omega (arith, le)

pub upper_saturated : (u x : ℕ) → min (u + min x GREATEST) GREATEST ≡ min (u + x) GREATEST
upper_saturated u x = omega arith

-- ---- the estimated total and its bounds

pub total_from_lower : (z : ℕ) → (s : Compact (TupleEntry ℕ)) → 0 < s.theta → s.theta ≤ MAX_THETA → (total_bounds z s).lower ≤ (total_of s).total
unfolding total_bounds total_of
total_from_lower z s low high =
    let t = s.theta in
    let N : ℕ = sum_of s.entries * MAX_THETA in
    let down : N / t * t ≤ N = div-mul-le_self N t in
    let near : N / t ≤ nearest N t = le-div (N / t) (2 * N + t) (2 * t) (omega (arith, low)) (omega (arith, down)) in
    omega (arith, near, at_least (sum_of s.entries) t low high)

pub total_to_upper : (z : ℕ) → (s : Compact (TupleEntry ℕ)) → 0 < s.theta → (total_of s).total ≤ GREATEST → (total_of s).total ≤ (total_bounds z s).upper
unfolding total_bounds total_of
total_to_upper z s low fits =
    let t = s.theta in
    let N : ℕ = sum_of s.entries * MAX_THETA in
    let up : N ≤ div_ceil N t * t = (div_ceil_times N t low).0 in
    let near : nearest N t < div_ceil N t + 1 = div_below (2 * N + t) (2 * t) (div_ceil N t + 1) (omega (arith, low)) (omega (arith, up, low)) in
    omega (arith, near, fits)

-- at the greatest theta nothing deviates
no_deviation : (es : List (TupleEntry ℕ)) → deviation_of es MAX_THETA ≡ 0
no_deviation es =
    let none : ceil_sqrt 0 ≤ 0 = ceil_sqrt_least 0 0 (omega arith) in
    let zero : ceil_sqrt 0 ≡ 0 = omega (arith, none) in
    rw (zero) (ap (λ (x : ℕ). div_ceil x MAX_THETA) (mul-zero (root_of es)))

pub exact_lower : (z : ℕ) → (s : Compact (TupleEntry ℕ)) → s.theta ≡ MAX_THETA → (total_bounds z s).lower ≡ sum_of s.entries
unfolding total_bounds
exact_lower z s greatest =
    let S : ℕ = sum_of s.entries in
    let whole : S * MAX_THETA / MAX_THETA ≡ S = mul-div_cancel S (omega arith) in
    rw (greatest, no_deviation s.entries, whole) (omega arith)

pub exact_upper : (z : ℕ) → (s : Compact (TupleEntry ℕ)) → s.theta ≡ MAX_THETA → sum_of s.entries ≤ GREATEST → (total_bounds z s).upper ≡ sum_of s.entries
unfolding total_bounds
exact_upper z s greatest fits =
    let S : ℕ = sum_of s.entries in
    let whole : S * MAX_THETA / MAX_THETA ≡ S = mul-div_cancel S (omega arith) in
    let rest : S * MAX_THETA % MAX_THETA ≡ 0 = mul-mod_left S MAX_THETA in
    rw (greatest, no_deviation s.entries, whole, rest) (omega (arith, fits))

-- a product that is cut to 128 bits, at most a number of 128 bits
pub wide_saturated : (x s : ℕ) → s ≤ GREATEST → min (min x GREATEST) s ≡ min x s
wide_saturated x s le = omega (arith, le)
