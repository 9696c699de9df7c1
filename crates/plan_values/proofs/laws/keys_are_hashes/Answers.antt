use Rattle.plan_values.proofs.AddedKeys.{tuple_keys, tuple_leaf_keys}
use Rattle.plan_values.proofs.laws.keys_are_hashes.Goals as goal

pub returns-clause-merge : goal.returns-clause-merge
returns-clause-merge g c = λ creates updates combines p unites. tuple_keys creates updates combines p unites

pub returns-clause-leaf : goal.returns-clause-leaf
returns-clause-leaf g c = λ creates updates combines steps. tuple_leaf_keys creates updates combines (Unit {0}) steps
