use Rattle.core_streams.proofs.Folds.{unmarked-insertion}
use Rattle.core_streams.proofs.laws.insertions_in_folds.Goals as goal

pub returns : goal.returns
returns g c = unmarked-insertion
