use Rattle.std.proofs.Common.{rules, ◌≤◌, ◌^◌}
use Rattle.std.proofs.Math.Pow.{pow_mono}
use Rattle.distinct_inputs.proofs.images.Images.coarser.Goals as goal
use Rattle.distinct_inputs.proofs.images.Images.coarser.Goals.{else-lg_k-lt64-via-then-lg_k-lt64+else-lg_k-most, else-lg_k-lt64-via-else-lg_k-lt64}

pub returns-else-lg_k-lt64-clause-none : goal.returns-else-lg_k-lt64-clause-none
returns-else-lg_k-lt64-clause-none g c =
    elim c.else-lg_k-lt64.branch [
      | else-lg_k-lt64-via-then-lg_k-lt64+else-lg_k-most w ↦ search rules
      | else-lg_k-lt64-via-else-lg_k-lt64 w ↦
          let power : 2 ^ 64 ≤ 2 ^ c.args.lg_k = pow_mono {i = 64} {j = c.args.lg_k} (search rules) in
          search rules
    ]
