use Rattle.std.proofs.Common.{◌≤◌, ◌^◌, arith}
use Rattle.std.proofs.Math.Pow.{pow_mono}
use Rattle.core_table.proofs.Tables.{eights}
use Rattle.core_operators.proofs.lists.most_entries.Goals as goal

pub returns : goal.returns
returns c =
    let most : 2 ^ c.args.lg_nom ≤ 2 ^ 32 = pow_mono {i = c.args.lg_nom} {j = 32} c.requires.high in
    let e = eights c.args.lg_nom (omega (arith, c.requires.low)) in
    omega (arith, most, e.1)
