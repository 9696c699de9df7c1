use Rattle.std.proofs.Common.{◌≡◌, ℕ, ◌+◌, ◌≤◌, ◌^◌, sym, ◌∙◌, arith}
use Rattle.std.proofs.Math.Pow.{pow_mono}
use Rattle.core_slots.specs.Probe.{probe, stride}
use Rattle.core_slots.proofs.SlotLayouts.{probe_start}
use Rattle.core_slots.proofs.SharedPaths.{meets}
use Rattle.core_slots.proofs.paths.steps_known.Goals as goal

pub slot_after-requires-clause-limited : goal.slot_after-requires-clause-limited
slot_after-requires-clause-limited c =
    let most : 2 ^ c.args.lg ≤ 2 ^ 40 = pow_mono {i = c.args.lg} {j = 40} (omega (arith, c.requires.small)) in
    omega (arith, most, c.steps_between-passed.ensures)

pub returns-clause-known : goal.returns-clause-known
returns-clause-known c =
    let passed : ℕ = c.steps_between-passed.result in
    let same : stride c.args.hash c.args.lg ≡ stride c.args.other c.args.lg = sym c.stride_of-stride.ensures.value ∙ c.if-stride-stride_of.false ∙ c.stride_of.ensures.value in
    let start : probe c.args.other c.args.lg passed ≡ probe c.args.hash c.args.lg 0 = sym c.slot_after.ensures.value ∙ c.if-slot_after-start.false ∙ c.slot_of-start.ensures.value ∙ sym (probe_start c.args.hash c.args.lg) in
    λ i lt. (passed + i, omega (arith, lt), meets c.args.hash c.args.other c.args.lg passed i same start)
