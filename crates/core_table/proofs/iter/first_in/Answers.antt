use Rattle.std.proofs.Common.{rules, arith, sym, ◌∙◌}
use Rattle.core_table.proofs.Marks.{near, inside, parts, behind, held_first, first_held, never_none}
use Rattle.core_table.proofs.iter.first_in.Goals as goal

pub offset_bounds-rest-at : goal.offset_bounds-rest-at
offset_bounds-rest-at g c = omega (arith, inside _ _ _ _ c.marked_ahead-rest.ensures.marked (omega (arith, c.if-rest-eq0.false)))

pub slice_bounds-behind-count : goal.slice_bounds-behind-count
slice_bounds-behind-count g c = omega (arith, inside _ _ _ _ c.marked_ahead-rest.ensures.marked (omega (arith, c.if-rest-eq0.false)))

pub slice_bounds-behind-start : goal.slice_bounds-behind-start
slice_bounds-behind-start g c = search (rules, inside _ _ _ _ c.marked_ahead-rest.ensures.marked (omega (arith, c.if-rest-eq0.false)))

pub overflow_sub-behind : goal.overflow_sub-behind
overflow_sub-behind g c = omega (arith, near _ _ _ _ c.marked_ahead-rest.ensures.marked (omega (arith, c.if-rest-eq0.false)))

pub offset_bounds-rest-at-2 : goal.offset_bounds-rest-at-2
offset_bounds-rest-at-2 g c = search (rules, inside _ _ _ _ c.marked_ahead-rest.ensures.marked (omega (arith, c.if-rest-eq0.false)))

pub bounds-rest-at : goal.bounds-rest-at
bounds-rest-at g c = inside _ _ _ _ c.marked_ahead-rest.ensures.marked (omega (arith, c.if-rest-eq0.false))

pub returns-clause-marked : goal.returns-clause-marked
returns-clause-marked g c = behind _ _ _ _ c.marked_ahead-rest.ensures.marked (omega (arith, c.if-rest-eq0.false))

pub returns-clause-first : goal.returns-clause-first
returns-clause-first g c =
    let present = first_held g.E.SketchEntry.key g.E.PathEntry.content c.args.bound _ _ _ c.marked_ahead-rest.ensures.marked (omega (arith, c.if-rest-eq0.false)) c.index-rest-at.result in
    let marked = held_first _ _ _ _ c.marked_ahead-rest.ensures.marked (omega (arith, c.if-rest-eq0.false)) c.index-rest-at.result in
    rw (← c.marked_ahead-rest.ensures.same, c.in_slot.ensures, present ∙ sym marked) (parts _ _ _ _ c.marked_ahead-rest.ensures.marked (omega (arith, c.if-rest-eq0.false)) c.index-rest-at.result)

pub returns-clause-none : goal.returns-clause-none
returns-clause-none g c = λ none. absurd (never_none none (c.in_slot.ensures ∙ first_held g.E.SketchEntry.key g.E.PathEntry.content c.args.bound _ _ _ c.marked_ahead-rest.ensures.marked (omega (arith, c.if-rest-eq0.false)) c.index-rest-at.result))
