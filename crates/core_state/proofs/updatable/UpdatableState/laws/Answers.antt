use Rattle.std.proofs.Common.{arith}
use Rattle.std.proofs.lemmas.List.{length-map}
use Rattle.std.proofs.lemmas.List.Sorted.{length_permutation}
use Rattle.core_state.proofs.UpdatableValue.{shown-sketch, shown-sketch_value}
use Rattle.core_state.proofs.updatable.UpdatableState.laws.Goals as goal

pub returns-clause-limited : goal.returns-clause-limited
returns-clause-limited g c =
    let key = g.E.SketchEntry.key in
    let each = c.num_retained.ensures.each_once in
    let shown = shown-sketch key _ c.self.invariant c.num_retained.ensures.sound each in
    rw (← c.self.view_is) (omega (arith, shown.limited, length-map c.self.inside.table.sequence key, length_permutation _ _ each.each_once))

pub returns-clause-value : goal.returns-clause-value
returns-clause-value g c = shown-sketch_value g.E.SketchEntry.key c.args.self.now (rw (← c.self.view_is) c.num_retained.ensures.each_once)
