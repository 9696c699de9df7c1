use Rattle.core_laws.proofs.insertions.Unmarked.{unmarked-upsert}
use Rattle.core_laws.proofs.laws.allowed_merge.Goals as goal

pub returns : goal.returns
returns g c = λ key merges refuses. unmarked-upsert key merges refuses
