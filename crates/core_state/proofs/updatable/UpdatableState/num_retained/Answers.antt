use Rattle.std.proofs.Common.{◌∙◌, sym}
use Rattle.std.proofs.lemmas.List.Sorted.{length_permutation}
use Rattle.core_state.proofs.UpdatableValue.{shown-sketch, count-sketch}
use Rattle.core_state.proofs.updatable.UpdatableState.num_retained.Goals as goal

pub returns-clause-count : goal.returns-clause-count
returns-clause-count g c = rw (← c.self.view_is) (c.num_retained.ensures.count ∙ count-sketch g.E.SketchEntry.key _ c.self.invariant)

pub returns-clause-listed : goal.returns-clause-listed
returns-clause-listed g c = rw (← c.self.view_is) (c.num_retained.ensures.count ∙ sym (length_permutation _ _ c.num_retained.ensures.each_once.each_once))

pub returns-clause-sound : goal.returns-clause-sound
returns-clause-sound g c = rw (← c.self.view_is) (shown-sketch g.E.SketchEntry.key _ c.self.invariant c.num_retained.ensures.sound c.num_retained.ensures.each_once)
