use Rattle.core_laws.proofs.insertions.DroppedHashes.{redundant_left_out}
use Rattle.core_laws.proofs.laws.redundant_hashes_dropped.Goals as goal

pub returns : goal.returns
returns c = λ k v hashes left is leaves. redundant_left_out k hashes left v v is (λ h redundant. redundant) leaves
