use Rattle.std.proofs.Common.{ℕ, ◌+◌, ◌*◌, ◌≤◌, ◌%◌, ◌^◌, ap, ◌∙◌, arith}
use Rattle.std.proofs.Math.Nat.{mod-add-mod, mul-le-mul}
use Rattle.std.proofs.Math.Pow.{pow_mono}
use Rattle.core_slots.specs.Probe.{probe, stride}
use Rattle.core_slots.proofs.slots.slot_after.Goals as goal

far : (a b m n : ℕ) → a ≤ m → b ≤ n → a * b ≤ m * n
far a b m n one two = mul-le-mul one two

pub overflow_mul-on : goal.overflow_mul-on
overflow_mul-on c =
    let product = far c.args.steps c.stride_of.result (2 ^ 40) 256 (omega (arith, c.requires.limited)) (omega (arith, c.stride_of.ensures.small)) in
    omega (arith, product)

pub overflow_add-on : goal.overflow_add-on
overflow_add-on c =
    let most : 2 ^ c.args.lg ≤ 2 ^ 40 = pow_mono {i = c.args.lg} {j = 40} (omega (arith, c.requires.small)) in
    let product = far c.args.steps c.stride_of.result (2 ^ 40) 256 (omega (arith, c.requires.limited)) (omega (arith, c.stride_of.ensures.small)) in
    omega (arith, product, c.slot_of.ensures.below, most)

pub returns-clause-value : goal.returns-clause-value
unfolding probe
returns-clause-value c =
    let stride_is = c.stride_of.ensures.value in
    let h : ℕ = c.args.hash in
    let s : ℕ = c.args.steps in
    c.slot_of-2.ensures.value ∙ ap (λ (n : ℕ). (n + s * c.stride_of.result) % 2 ^ c.args.lg) c.slot_of.ensures.value ∙ ap (λ (n : ℕ). (h % 2 ^ c.args.lg + s * n) % 2 ^ c.args.lg) stride_is ∙ mod-add-mod h (2 ^ c.args.lg) (s * stride h c.args.lg)
