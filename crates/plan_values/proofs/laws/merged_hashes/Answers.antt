use Rattle.plan_values.proofs.MergedSums.{hash_added, added_hash, no_hash}
use Rattle.plan_values.proofs.laws.merged_hashes.Goals as goal

pub returns-clause-only_if : goal.returns-clause-only_if
returns-clause-only_if g c = hash_added

pub returns-clause-if_so : goal.returns-clause-if_so
returns-clause-if_so g c = added_hash

pub returns-clause-uncarried : goal.returns-clause-uncarried
returns-clause-uncarried g c = no_hash
