-- Roots rounded up.
use Rattle.std.proofs.Common.{ℕ, zero, suc, ◌+◌, ◌*◌, ◌≤◌, ◌<◌, ◌≡◌, ◌⊎◌, Bool, true, false, refl, sym, subst, inl, inr, arith}
use Rattle.std.specs.Prelude.{nat_lt, if◌then◌else◌}
use Rattle.std.proofs.lemmas.Nat.{mul-le}
use Rattle.std.proofs.lemmas.Bool.{cases_lt}
use Rattle.std.proofs.lemmas.Bool.Decides.{nat_tests}
use Rattle.estimates.specs.Bounds.{squares_below, ceil_sqrt}

-- a number whose square is larger is larger
pub root_above : (k m : ℕ) → k * k < m * m → k < m
root_above k m h = elim (cases_lt k m) [ inl lt ↦ lt | inr le ↦ absurd (omega (arith, h, mul-le m m k k le le)) ]

-- of the numbers below k, c have a square below n: c is k, or its square is at least n; no smaller number has such a square
record IsCounted (n k c : ℕ) : Type 0 where
  limited : c ≤ k
  enough : (n ≤ c * c) ⊎ (c ≡ k)
  least : (m : ℕ) → n ≤ m * m → c ≤ m

step : (n k c : ℕ) → IsCounted n k c → (b : Bool) → nat_lt (k * k) n ≡ b → IsCounted n (suc k) (c + (if b then 1 else 0))
step n k c h true e =
    let small : k * k < n = grind (arith, nat_tests) in
    record {
      limited = omega (arith, h.limited);
      enough = elim h.enough [ inl big ↦ absurd (omega (arith, small, big, mul-le c c k k h.limited h.limited)) | inr same ↦ inr (omega (arith, same)) ];
      least = λ m big. omega (arith, h.limited, root_above k m (omega (arith, small, big)));
    }
step n k c h false e =
    let big : n ≤ k * k = grind (arith, nat_tests) in
    record {
      limited = omega (arith, h.limited);
      enough = elim h.enough [ inl enough ↦ inl (omega (arith, enough)) | inr same ↦ inl (subst (λ (x : ℕ). n ≤ (x + 0) * (x + 0)) (sym same) (omega (arith, big))) ];
      least = λ m more. omega (arith, h.least m more);
    }

counted : (n k : ℕ) → IsCounted n k (squares_below n k)
counted n zero = record { limited = omega arith; enough = inr refl; least = λ m more. omega arith }
counted n (suc k) = step n k (squares_below n k) (counted n k) (nat_lt (k * k) n) refl

own_square : (n : ℕ) → n ≤ n * n
own_square zero = omega arith
own_square (suc n) = omega (arith)

-- the square of the root is at least the number
pub ceil_sqrt_enough : (n : ℕ) → n ≤ ceil_sqrt n * ceil_sqrt n
unfolding ceil_sqrt
ceil_sqrt_enough n =
    elim (counted n n).enough [ inl enough ↦ enough | inr same ↦ subst (λ (x : ℕ). n ≤ x * x) (sym same) (own_square n) ]

-- no smaller number has such a square
pub ceil_sqrt_least : (n m : ℕ) → n ≤ m * m → ceil_sqrt n ≤ m
unfolding ceil_sqrt
ceil_sqrt_least n m h = (counted n n).least m h

-- two numbers with both properties are equal
ceil_sqrt_is : (n r : ℕ) → n ≤ r * r → ((m : ℕ) → n ≤ m * m → r ≤ m) → r ≡ ceil_sqrt n
ceil_sqrt_is n r enough least = omega (arith, least (ceil_sqrt n) (ceil_sqrt_enough n), ceil_sqrt_least n r enough)

-- a root that is exact
pub exact_root : (n r : ℕ) → r * r ≤ n → n ≤ r * r → r ≡ ceil_sqrt n
exact_root n r low high =
    ceil_sqrt_is n r high (λ m enough. elim (cases_lt m r) [
      | inl lt ↦ absurd (omega (arith, low, enough, mul-le (m + 1) (m + 1) r r (omega (arith, lt)) (omega (arith, lt))))
      | inr le ↦ le
    ])

-- the number above a root that is too small
pub next_root : (n r : ℕ) → r * r < n → n < (r + 1) * (r + 1) → r + 1 ≡ ceil_sqrt n
next_root n r low high =
    ceil_sqrt_is n (r + 1) (omega (arith, high)) (λ m enough. omega (arith, root_above r m (omega (arith, low, enough))))
