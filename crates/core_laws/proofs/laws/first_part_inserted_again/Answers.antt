use Rattle.core_laws.proofs.insertions.DroppedHashes.{inserted_again}
use Rattle.core_laws.proofs.laws.first_part_inserted_again.Goals as goal

pub returns : goal.returns
returns c = λ k v front rest is. inserted_again k front rest v is
