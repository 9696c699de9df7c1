use Rattle.core_operators.specs.declared.lists.Lists.{Lists}
use Rattle.core_operators.proofs.ListedMerge.{either_sound}
use Rattle.core_operators.proofs.union_table.UnionTable.retention_theta.Goals as goal

pub returns-clause-sound : goal.returns-clause-sound
returns-clause-sound g c =
    rw (← c.self.view_is) (either_sound g.E.SketchEntry.key (λ (l : Lists _ _). l.held.items) (λ (l : Lists _ _). l.added.items) c.self.inside.slots.map c.self.inside.lists c.self.invariant c.retention_theta.ensures.sound)
