use Rattle.core_laws.proofs.cuts.WithinWholeMaps.{within-upsert}
use Rattle.core_laws.proofs.laws.upsert_stays_within.Goals as goal

pub returns : goal.returns
returns g c = λ key. within-upsert key
