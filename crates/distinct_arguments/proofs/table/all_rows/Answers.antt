use Rattle.std.proofs.Common.{refl}
use Rattle.distinct_arguments.specs.Table.{rows}
use Rattle.distinct_arguments.proofs.table.all_rows.Goals as goal

pub returns : goal.returns
unfolding rows
returns c = refl
