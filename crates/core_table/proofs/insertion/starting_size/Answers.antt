use Rattle.std.proofs.Common.{arith}
use Rattle.core_table.proofs.Tables.{starts}
use Rattle.core_table.proofs.insertion.starting_size.Goals as goal

pub returns-clause-sized : goal.returns-clause-sized
returns-clause-sized c = rw c.starting_sub_multiple.ensures (starts c.args.lg_nom c.args.grow c.requires.low c.requires.high c.requires.grow)

pub returns-clause-small : goal.returns-clause-small
returns-clause-small c = let sized = starts c.args.lg_nom c.args.grow c.requires.low c.requires.high c.requires.grow in rw c.starting_sub_multiple.ensures (omega (arith, sized.within, c.requires.high))
