use Rattle.core_laws.proofs.operators.FoldsOfHashes.{united-hashes}
use Rattle.core_laws.proofs.laws.union_of_hashes.Goals as goal

pub returns : goal.returns
returns c = united-hashes
