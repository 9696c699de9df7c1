use Rattle.std.proofs.Common.{◌<◌, ◌≤◌, arith}
use Rattle.core_table.specs.HashTable.{threshold}
use Rattle.core_table.proofs.GrownSizes.{wider, enough}
use Rattle.core_table.proofs.insertion.size_for.Goals as goal

pub loop-lg-init : goal.loop-lg-init
loop-lg-init c = c.requires.sized

pub threshold_of-requires : goal.threshold_of-requires
threshold_of-requires c = omega (arith, c.loop-lg.invariant.within, c.loop-lg.invariant.nom_high)

pub overflow_add-lg : goal.overflow_add-lg
overflow_add-lg c = omega (arith, c.loop-lg.invariant.within, c.loop-lg.invariant.nom_high, c.loop-lg.invariant.grow_high)

pub loop-lg-smaller : goal.loop-lg-smaller
loop-lg-smaller c =
    let few : threshold c.loop-lg.lg c.args.lg_nom < c.args.count = omega (arith, c.loop-lg-test.true, c.threshold_of.ensures) in
    let w = wider c.loop-lg.lg c.min-lg.result c.args.lg_nom c.args.grow c.args.count c.loop-lg.invariant c.requires.large few c.requires.limited c.min-lg.ensures in
    omega (arith, w.0, w.1)

pub loop-lg-preserved : goal.loop-lg-preserved
loop-lg-preserved c =
    let few : threshold c.loop-lg.lg c.args.lg_nom < c.args.count = omega (arith, c.loop-lg-test.true, c.threshold_of.ensures) in
    (wider c.loop-lg.lg c.min-lg.result c.args.lg_nom c.args.grow c.args.count c.loop-lg.invariant c.requires.large few c.requires.limited c.min-lg.ensures).2

pub returns-clause-sized : goal.returns-clause-sized
returns-clause-sized c =
    let limited : c.args.count ≤ threshold c.loop-lg.lg c.args.lg_nom = omega (arith, c.loop-lg-test.false, c.threshold_of.ensures) in
    enough c.loop-lg.lg c.args.lg_nom c.args.grow c.args.count c.loop-lg.invariant c.requires.large limited

pub returns-clause-small : goal.returns-clause-small
returns-clause-small c = omega (arith, c.loop-lg.invariant.within, c.loop-lg.invariant.nom_high)
