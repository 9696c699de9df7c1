use Rattle.std.proofs.Common.{◌≤◌, ◌^◌, arith}
use Rattle.std.proofs.Math.Pow.{pow_mono}
use Rattle.core_table.proofs.insertion.nominal_size.Goals as goal

pub returns-clause-small : goal.returns-clause-small
returns-clause-small c = let most : 2 ^ c.args.lg_nom_size ≤ 2 ^ 33 = pow_mono {i = c.args.lg_nom_size} {j = 33} c.requires in omega (arith, most)
