use Rattle.std.proofs.Common.{◌≤◌, arith}
use Rattle.std.proofs.lemmas.Bool.Decides.{nat_tests}
use Rattle.calls_tables.proofs.Fills.{fills_itself}
use Rattle.calls_tables.proofs.tables.refill.Goals as goal

pub refill-requires-clause-fill : goal.refill-requires-clause-fill
refill-requires-clause-fill g c =
    let large : 3 ≤ c.args.table.now.map.lg_nom = grind (arith, nat_tests, c.if-lg_nom_size-lt3.false, c.lg_nom_size.ensures) in
    rw (c.in_ok-entries.ensures.listed) (fills_itself g.E.SketchEntry.key _ c.retention_theta.ensures.sound large)
