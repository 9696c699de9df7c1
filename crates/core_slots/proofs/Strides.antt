-- A path meets each slot once.
use Rattle.std.proofs.Common.{◌≡◌, ℕ, zero, suc, ◌+◌, ◌-◌, ◌*◌, ◌/◌, ◌%◌, ◌^◌, ◌<◌, inl, inr, sym, ap, ◌∙◌, subst, arith}
use Rattle.std.proofs.lemmas.Bool.{cases_lt}
use Rattle.std.proofs.lemmas.Nat.{pow_pos, div-add-mod'}
use Rattle.std.proofs.Math.Nat.{two-pow-succ}
use Rattle.core_slots.specs.Probe.{probe}

pub odd_apart : (e r q p : ℕ) → (2 * e + 1) * (2 * r + 1) ≡ q * (p + p) → e ≡ e + 1
odd_apart e r q p same = omega (arith, same)

pub halved : (e r q p : ℕ) → (2 * e) * (2 * r + 1) ≡ q * (p + p) → e * (2 * r + 1) ≡ q * p
halved e r q p same = omega (arith, same)

doubled : (d e f p : ℕ) → d ≡ 2 * e → e ≡ f * p → d ≡ f * (p + p)
doubled d e f p two is = omega (arith, two, is)

-- a divisor of the product with an odd number divides the other factor
pub cancel_odd : (k r d q : ℕ) → d * (2 * r + 1) ≡ q * 2 ^ k → (e : ℕ) × (d ≡ e * 2 ^ k)
cancel_odd zero r d q same = (d, omega arith)
cancel_odd (suc k) r d q same =
    let e : ℕ = d / 2 in
    let whole : d * (2 * r + 1) ≡ q * (2 ^ k + 2 ^ k) = same ∙ ap (λ (n : ℕ). q * n) (two-pow-succ k) in
    elim (cases_lt (d % 2) 1) [
      | inl lt ↦
          let even : d ≡ 2 * e = omega (arith, lt) in
          let rest = cancel_odd k r e q (halved e r q (2 ^ k) (subst (λ (n : ℕ). n * (2 * r + 1) ≡ q * (2 ^ k + 2 ^ k)) even whole)) in
          (rest.0, doubled d e rest.0 (2 ^ k) even rest.1 ∙ ap (λ (n : ℕ). rest.0 * n) (sym (two-pow-succ k)))
      | inr le ↦
          let is_odd : d ≡ 2 * e + 1 = omega (arith, le) in
          absurd (omega (arith, odd_apart e r q (2 ^ k) (subst (λ (n : ℕ). n * (2 * r + 1) ≡ q * (2 ^ k + 2 ^ k)) is_odd whole)))
    ]

more : (n m u v a x : ℕ) → (u + v) * n + m ≡ a + x → u * n + m ≡ a → x ≡ v * n
more n m u v a x above present = omega (arith, above, present)

less : (n m u v a x : ℕ) → 0 < n → u * n + m ≡ a + x → (u + 1 + v) * n + m ≡ a → u ≡ u + 1
less n m u v a x some above present = omega (arith, some, above, present)

-- a difference that keeps the remainder is a multiple
pub same_remainder : (n a x : ℕ) → 0 < n → a % n ≡ (a + x) % n → (q : ℕ) × (x ≡ q * n)
same_remainder n a x some same =
    let u : ℕ = a / n in
    let w : ℕ = (a + x) / n in
    let present : u * n + a % n ≡ a = div-add-mod' a n in
    let there : w * n + a % n ≡ a + x = subst (λ (m : ℕ). w * n + m ≡ a + x) (sym same) (div-add-mod' (a + x) n) in
    elim (cases_lt w u) [
      | inl lt ↦
          let up : u ≡ w + 1 + (u - w - 1) = omega (arith, lt) in
          absurd (omega (arith, less n (a % n) w (u - w - 1) a x some there (subst (λ (m : ℕ). m * n + a % n ≡ a) up present)))
      | inr le ↦
          let up : w ≡ u + (w - u) = omega (arith, le) in
          (w - u, more n (a % n) u (w - u) a x (subst (λ (m : ℕ). m * n + a % n ≡ a + x) up there) present)
    ]

none_below : (d e n : ℕ) → d < n → d ≡ e * n → d ≡ 0
none_below d zero n small is = omega (arith, is)
none_below d (suc e) n small is = absurd (let m : d ≡ e * n + n = omega (arith, is) in omega (arith, m, small))

further : (h i d s : ℕ) → h + (i + d) * s ≡ (h + i * s) + d * s
further h i d s = omega arith

apart : (lg h r i d : ℕ) → d < 2 ^ lg → (h + i * (2 * r + 1)) % 2 ^ lg ≡ (h + (i + d) * (2 * r + 1)) % 2 ^ lg → d ≡ 0
apart lg h r i d small same =
    let multiple = same_remainder (2 ^ lg) (h + i * (2 * r + 1)) (d * (2 * r + 1)) (pow_pos lg) (same ∙ ap (λ (n : ℕ). n % 2 ^ lg) (further h i d (2 * r + 1))) in
    let factor = cancel_odd lg r d multiple.0 multiple.1 in
    none_below d factor.0 (2 ^ lg) small factor.1

-- different steps are at different slots
pub probe_once : (h lg i j : ℕ) → i < 2 ^ lg → j < 2 ^ lg → probe h lg i ≡ probe h lg j → i ≡ j
unfolding probe
probe_once h lg i j i_low j_low same =
    let r : ℕ = h / 2 ^ lg % 128 in
    elim (cases_lt i j) [
      | inl lt ↦
          let up : j ≡ i + (j - i) = omega (arith, lt) in
          let d0 : j - i ≡ 0 = apart lg h r i (j - i) (omega (arith, j_low)) (same ∙ ap (λ (m : ℕ). (h + m * (2 * r + 1)) % 2 ^ lg) up) in
          omega (arith, lt, d0)
      | inr le ↦
          let up : i ≡ j + (i - j) = omega (arith, le) in
          let d0 : i - j ≡ 0 = apart lg h r j (i - j) (omega (arith, i_low)) (sym same ∙ ap (λ (m : ℕ). (h + m * (2 * r + 1)) % 2 ^ lg) up) in
          omega (arith, le, d0)
    ]
