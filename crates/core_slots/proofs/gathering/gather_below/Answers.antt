use Rattle.std.proofs.Common.{rules, ℕ, ◌<◌, length, map, ◌∙◌, ap, length-set, arith}
use Rattle.std.proofs.lemmas.Grind.{drop_more_same}
use Rattle.std.proofs.lemmas.List.{take_all}
use Rattle.core_laws.specs.Maps.{below}
use Rattle.core_slots.specs.SlotLayout.{filled}
use Rattle.core_slots.proofs.Held.{freed}
use Rattle.core_slots.proofs.Gathers.{drop-set, get_or-left, gathered-next, number_next, part_few}
use Rattle.core_slots.proofs.gathering.gather_below.Goals as goal

pub loop-at-preserved : goal.loop-at-preserved
loop-at-preserved g c =
    let key = g.E.SketchEntry.key in
    let content = g.E.PathEntry.content in
    let was = c.loop-at.invariant in
    let slots = c.loop-at.slots in
    let others = c.loop-at.others in
    let first = c.args.slots.now in
    let at : ℕ = c.loop-at.at in
    let count : ℕ = c.loop-at.count in
    let s = c.replace-slot.result in
    let d = c.index-slots-at.result in
    let free = c.replace-slot.new.dest in
    let more = c.number_below-more.ensures in
    let is = c.replace-slot.ensures.value ∙ get_or-left slots first at d was.left in
    let inside : count < length others = omega (arith, was.number, was.long, c.requires.room, part_few key content first at c.args.theta) in
    record {
      size = length-set slots at free ∙ was.size;
      long = length-set others count s ∙ was.long;
      limited = omega (arith, was.limited, more.small);
      number = omega (arith, was.number, number_next key content first at c.args.theta c.number_below-more.result s d c.loop-at-test.true is more.below);
      left = drop-set slots at free ∙ drop_more_same slots first at was.left;
      free = freed content slots at free (omega (arith, was.size, c.loop-at-test.true)) (ap content c.replace-slot.ensures.after ∙ c.free_slot.ensures) was.free;
      taken = gathered-next key content first others at count c.args.theta c.number_below-more.result s d c.loop-at-test.true inside
          is more.below was.taken;
    }

pub offset_bounds-others-count : goal.offset_bounds-others-count
offset_bounds-others-count g c =
    let was = c.loop-at.invariant in
    let inside : c.loop-at.count < length c.loop-at.others = omega (arith, was.number, was.long, c.requires.room, part_few g.E.SketchEntry.key g.E.PathEntry.content c.args.slots.now c.loop-at.at c.args.theta) in
    search (rules, inside)

pub bounds-others-count : goal.bounds-others-count
bounds-others-count g c =
    let was = c.loop-at.invariant in
    omega (arith, was.number, was.long, c.requires.room, part_few g.E.SketchEntry.key g.E.PathEntry.content c.args.slots.now c.loop-at.at c.args.theta)

pub returns-clause-number : goal.returns-clause-number
returns-clause-number g c =
    let key = g.E.SketchEntry.key in
    let content = g.E.PathEntry.content in
    let was = c.loop-at.invariant in
    was.number ∙ ap (λ xs. length (below key (filled (map content xs)) c.args.theta)) (take_all c.loop-at.at c.args.slots.now (omega (arith, was.size, c.loop-at-test.false)))
