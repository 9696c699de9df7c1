use Rattle.std.proofs.Common.{ℕ, ◌+◌, ◌<◌, length, map, set, ◌∙◌, ap, length-set, arith}
use Rattle.std.proofs.lemmas.Grind.{drop_more_same}
use Rattle.std.proofs.lemmas.List.{take-set-le, drop-set-lt}
use Rattle.core_slots.specs.SlotLayout.{filled}
use Rattle.core_slots.proofs.Gathers.{get_or-left, gathered-next}
use Rattle.core_slots.proofs.gathering.pack_below.Goals as goal

pub loop-at-preserved : goal.loop-at-preserved
loop-at-preserved g c =
    let key = g.E.SketchEntry.key in
    let content = g.E.PathEntry.content in
    let was = c.loop-at.invariant in
    let slots = c.loop-at.slots in
    let first = c.args.slots.now in
    let at : ℕ = c.loop-at.at in
    let count : ℕ = c.loop-at.count in
    let s = c.replace-slot.result in
    let d = c.index-slots-at.result in
    let free = c.replace-slot.new.dest in
    let opened = set slots at free in
    let more = c.number_below-more.ensures in
    let is = c.replace-slot.ensures.value ∙ get_or-left slots first at d was.left in
    let inside : count < length opened = omega (arith, was.limited, was.size, c.loop-at-test.true, length-set slots at free) in
    let taken = ap (λ xs. filled (map content xs)) (take-set-le count slots at free was.limited) ∙ was.taken in
    let behind : count < at + 1 = omega (arith, was.limited) in
    let own : at < at + 1 = omega arith in
    record {
      size = length-set opened count s ∙ length-set slots at free ∙ was.size;
      limited = omega (arith, was.limited, more.small);
      left = drop-set-lt (at + 1) opened count s behind ∙ drop-set-lt (at + 1) slots at free own ∙ drop_more_same slots first at was.left;
      taken = gathered-next key content first opened at count c.args.theta c.number_below-more.result s d c.loop-at-test.true inside is more.below taken;
    }
