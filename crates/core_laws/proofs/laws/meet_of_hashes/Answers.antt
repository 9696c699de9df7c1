use Rattle.core_laws.proofs.operators.FoldsOfHashes.{met-hashes}
use Rattle.core_laws.proofs.laws.meet_of_hashes.Goals as goal

pub returns : goal.returns
returns c = λ refuses new old more met. met-hashes refuses new old more met
