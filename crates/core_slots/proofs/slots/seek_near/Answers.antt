use Rattle.std.proofs.Common.{◌≡◌, ℕ, ◌+◌, ◌≤◌, ◌^◌, ◌%◌, ◌==◌, not, true, Some, map, refl, sym, ap, ◌∙◌, arith}
use Rattle.std.proofs.Math.Pow.{pow_mono}
use Rattle.std.proofs.lemmas.Bool.Decides.{nat_tests}
use Rattle.core_slots.specs.SlotLayout.{slot, is_other}
use Rattle.core_slots.specs.Probe.{probe}
use Rattle.core_slots.proofs.Searches.{passed, ends_on_path}
use Rattle.core_slots.proofs.SlotLayouts.{probe_start, probe_next, probe_low, others_none, others_more, few_others}
use Rattle.core_slots.proofs.slots.seek_near.Goals as goal

pub loop-step-init : goal.loop-step-init
loop-step-init g c = (0, omega arith, c.slot_among-at.ensures.value ∙ sym (probe_start c.args.hash c.args.lg), omega arith, others_none g.E.SketchEntry.key c.args.lg (map g.E.PathEntry.content c.args.slots.now) c.args.hash, refl)

pub look_at-requires : goal.look_at-requires
look_at-requires g c = omega (arith, c.loop-step.invariant.2, c.requires.size, probe_low c.args.hash c.args.lg c.loop-step.invariant.0)

pub returns-in-None-clause-inside : goal.returns-in-None-clause-inside
returns-in-None-clause-inside g c = omega (arith, c.loop-step.invariant.2, c.requires.size, probe_low c.args.hash c.args.lg c.loop-step.invariant.0)

pub returns-in-None-clause-on_path : goal.returns-in-None-clause-on_path
returns-in-None-clause-on_path g c = ends_on_path g.E.SketchEntry.key c.args.lg c.args.hash c.loop-step.invariant.0 (map g.E.PathEntry.content c.args.slots.now) c.loop-step.at c.loop-step.invariant.2 c.loop-step.invariant.3 c.loop-step.invariant.4 c.requires.room

pub returns-in-None-clause-looks : goal.returns-in-None-clause-looks
returns-in-None-clause-looks g c = omega (arith, c.look_at.ensures.looks, c.loop-step.invariant.1, passed g.E.SketchEntry.key c.args.lg c.args.hash c.loop-step.invariant.0 (map g.E.PathEntry.content c.args.slots.now) c.loop-step.invariant.3 c.loop-step.invariant.4)

pub returns-then-hash-clause-on_path : goal.returns-then-hash-clause-on_path
returns-then-hash-clause-on_path g c = ends_on_path g.E.SketchEntry.key c.args.lg c.args.hash c.loop-step.invariant.0 (map g.E.PathEntry.content c.args.slots.now) c.loop-step.at c.loop-step.invariant.2 c.loop-step.invariant.3 c.loop-step.invariant.4 c.requires.room

pub returns-then-hash-clause-looks : goal.returns-then-hash-clause-looks
returns-then-hash-clause-looks g c = omega (arith, c.look_at.ensures.looks, c.loop-step.invariant.1, passed g.E.SketchEntry.key c.args.lg c.args.hash c.loop-step.invariant.0 (map g.E.PathEntry.content c.args.slots.now) c.loop-step.invariant.3 c.loop-step.invariant.4)

pub overflow_add-at : goal.overflow_add-at
overflow_add-at g c =
    let i = c.loop-step.invariant in
    let low = probe_low c.args.hash c.args.lg i.0 in
    let most : 2 ^ c.args.lg ≤ 2 ^ 40 = pow_mono {i = c.args.lg} {j = 40} (omega (arith, c.requires.small)) in
    omega (arith, low, most, i.2, c.stride_of-stride.ensures.small)

pub loop-step-preserved : goal.loop-step-preserved
loop-step-preserved g c =
    let i = c.loop-step.invariant in
    let key = g.E.SketchEntry.key in
    let slots = map g.E.PathEntry.content c.args.slots.now in
    let holds : slot slots c.loop-step.at ≡ Some c.in-Some.entry.now = sym c.in-Some.ensures.holds in
    let another : not (key c.in-Some.entry.now == c.args.hash) ≡ true = grind (arith, nat_tests, c.hash.ensures, c.if-hash.false) in
    let there = ap (λ (n : ℕ). is_other key c.args.hash (slot slots n)) (sym i.2) ∙ ap (is_other key c.args.hash) holds ∙ another in (
      i.0 + 1,
      omega (arith, c.look_at.ensures.looks, i.1),
      c.slot_among-at-in-loop-step.ensures.value ∙ ap (λ (n : ℕ). (n + c.stride_of-stride.result) % 2 ^ c.args.lg) i.2 ∙ ap (λ (n : ℕ). (probe c.args.hash c.args.lg i.0 + n) % 2 ^ c.args.lg) c.stride_of-stride.ensures.value ∙ probe_next c.args.hash c.args.lg i.0,
      omega (arith, few_others key c.args.lg c.args.hash i.0 slots i.3 i.4, c.requires.room),
      others_more key c.args.lg slots c.args.hash i.0 i.4 there,
      omega (arith, i.5),
    )

pub returns-clause-looks : goal.returns-clause-looks
returns-clause-looks g c = omega (arith, c.loop-step.invariant.1, passed g.E.SketchEntry.key c.args.lg c.args.hash c.loop-step.invariant.0 (map g.E.PathEntry.content c.args.slots.now) c.loop-step.invariant.3 c.loop-step.invariant.4)
