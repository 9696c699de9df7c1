use Rattle.std.proofs.Common.{◌≡◌, ℕ, ◌≤◌, ◌^◌, is_none, true, false, map, sym, ap, ◌∙◌, arith}
use Rattle.std.proofs.Math.Pow.{pow_mono}
use Rattle.core_slots.specs.SlotLayout.{slot, is_other}
use Rattle.core_slots.proofs.SlotLayouts.{few_others, others_more}
use Rattle.core_slots.proofs.SharedPaths.{copied_taken, taken_other}
use Rattle.core_slots.proofs.paths.steps_to_free.Goals as goal

pub slot_after-at-requires-clause-limited : goal.slot_after-at-requires-clause-limited
slot_after-at-requires-clause-limited g c =
    let i = c.loop-lg.invariant in
    let most : 2 ^ c.args.lg ≤ 2 ^ 40 = pow_mono {i = c.args.lg} {j = 40} (omega (arith, c.requires.small)) in
    let passed = few_others g.E.SketchEntry.key c.args.lg c.args.hash c.loop-lg.steps (map g.E.PathEntry.content c.args.slots.now) i.2 i.3 in
    omega (arith, most, passed, c.requires.room)

pub returns-then-is_none-clause-low : goal.returns-then-is_none-clause-low
returns-then-is_none-clause-low g c =
    let i = c.loop-lg.invariant in
    omega (arith, few_others g.E.SketchEntry.key c.args.lg c.args.hash c.loop-lg.steps (map g.E.PathEntry.content c.args.slots.now) i.2 i.3, c.requires.room)

pub returns-then-is_none-clause-looks : goal.returns-then-is_none-clause-looks
returns-then-is_none-clause-looks g c =
    let i = c.loop-lg.invariant in
    omega (arith, few_others g.E.SketchEntry.key c.args.lg c.args.hash c.loop-lg.steps (map g.E.PathEntry.content c.args.slots.now) i.2 i.3, i.0, c.look_at.ensures.looks)

pub loop-lg-smaller : goal.loop-lg-smaller
loop-lg-smaller g c =
    let i = c.loop-lg.invariant in
    omega (arith, few_others g.E.SketchEntry.key c.args.lg c.args.hash c.loop-lg.steps (map g.E.PathEntry.content c.args.slots.now) i.2 i.3, c.requires.room)

pub loop-lg-preserved : goal.loop-lg-preserved
loop-lg-preserved g c =
    let i = c.loop-lg.invariant in
    let key = g.E.SketchEntry.key in
    let slots = map g.E.PathEntry.content c.args.slots.now in
    let passed = few_others key c.args.lg c.args.hash c.loop-lg.steps slots i.2 i.3 in
    let taken : is_none (slot slots c.slot_after-at.result) ≡ false = copied_taken c.look_at.result (slot slots c.slot_after-at.result) c.if-is_none.ensures c.look_at.ensures.holds in
    let other : is_other key c.args.hash (slot slots c.slot_after-at.result) ≡ true = taken_other key slots c.args.hash c.slot_after-at.result c.requires.absent taken in
    let there = ap (λ (n : ℕ). is_other key c.args.hash (slot slots n)) (sym c.slot_after-at.ensures.value) ∙ other in (
      omega (arith, i.0, c.look_at.ensures.looks),
      omega (arith, i.1),
      omega (arith, passed, c.requires.room),
      others_more key c.args.lg slots c.args.hash c.loop-lg.steps i.3 there,
    )
