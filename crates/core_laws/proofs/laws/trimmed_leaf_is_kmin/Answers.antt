use Rattle.core_laws.specs.Entries.{hash_key}
use Rattle.core_laws.specs.Leaf.{hash_step_of}
use Rattle.core_laws.proofs.insertions.Leaves.{trimmed, hash_keeps}
use Rattle.core_laws.proofs.laws.trimmed_leaf_is_kmin.Goals as goal

pub returns : goal.returns
returns g c = trimmed hash_key hash_step_of hash_keeps
