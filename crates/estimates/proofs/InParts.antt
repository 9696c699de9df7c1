-- A product that is divided, by the quotient and the rest of one factor: then no product of the whole factor is needed.
use Rattle.std.proofs.Common.{◌≡◌, ◌+◌, ◌*◌, ◌/◌, ◌%◌, ◌<◌, ℕ, sym, ap, ◌∙◌, arith}
use Rattle.std.proofs.Math.Nat.{add-mul, mul_right_comm, mul-add-div_right, mul-add-mod_self_right}
use Rattle.std.proofs.lemmas.Nat.{div-add-mod'}
use Rattle.estimates.specs.Fraction.{nearest}

-- n * m by the multiples of t in n, and the rest
in_parts : (n m t : ℕ) → n * m ≡ n / t * m * t + n % t * m
in_parts n m t =
    ap (λ (x : ℕ). x * m) (sym (div-add-mod' n t)) ∙ add-mul (n / t * t) (n % t) m ∙ ap (λ (x : ℕ). x + n % t * m) (mul_right_comm (n / t) t m)

doubled : (q r t : ℕ) → 2 * (q * t + r) + t ≡ q * (2 * t) + (2 * r + t)
doubled q r t = omega arith

pub nearest_in_parts : (n m t : ℕ) → 0 < t → n / t * m + (2 * (n % t * m) + t) / (2 * t) ≡ nearest (n * m) t
nearest_in_parts n m t low =
    let some : 0 < 2 * t = omega (arith, low) in
    sym (ap (λ (x : ℕ). (2 * x + t) / (2 * t)) (in_parts n m t) ∙ ap (λ (x : ℕ). x / (2 * t)) (doubled (n / t * m) (n % t * m) t) ∙ mul-add-div_right some (n / t * m) (2 * (n % t * m) + t))

pub quotient_in_parts : (n m t : ℕ) → 0 < t → n / t * m + n % t * m / t ≡ n * m / t
quotient_in_parts n m t low = sym (ap (λ (x : ℕ). x / t) (in_parts n m t) ∙ mul-add-div_right low (n / t * m) (n % t * m))

pub rest_in_parts : (n m t : ℕ) → n % t * m % t ≡ n * m % t
rest_in_parts n m t = sym (ap (λ (x : ℕ). x % t) (in_parts n m t) ∙ mul-add-mod_self_right (n / t * m) t (n % t * m))
