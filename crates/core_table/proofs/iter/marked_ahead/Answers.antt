use Rattle.std.proofs.Common.{arith, ◌∙◌}
use Rattle.core_table.specs.Marks.{under}
use Rattle.core_table.proofs.Marks.{passed_over}
use Rattle.core_table.proofs.iter.marked_ahead.Goals as goal

pub returns-clause-same : goal.returns-clause-same
returns-clause-same g c =
    c.marked_from.ensures.same ∙ passed_over (under g.E.SketchEntry.key c.args.bound g.E.PathEntry.content) c.args.rest.slots.now c.args.rest.ahead c.args.rest.marks c.requires.marked (omega (arith, c.if-rest-ne0.false))
