use Rattle.std.proofs.Common.{◌++◌, ◌∷◌, []}
use Rattle.keys_sums.proofs.Pieces.{past_policy}
use Rattle.keys_sums.proofs.summing.add_number.Goals as goal

pub returns-in-Ok-clause-added : goal.returns-in-Ok-clause-added
returns-in-Ok-clause-added g c = λ hashing amount line hash value mode lg_k lines has. c.in-Ok.ensures.added hashing amount mode lg_k lines line hash value has

pub returns-in-Err-clause-refused : goal.returns-in-Err-clause-refused
returns-in-Err-clause-refused g c = λ amount. c.add_error.ensures.sum_error amount

pub returns-in-Err-clause-number : goal.returns-in-Err-clause-number
returns-in-Err-clause-number g c = λ amount line. c.add_error.ensures.number amount line

pub returns-in-Err-clause-past : goal.returns-in-Err-clause-past
returns-in-Err-clause-past g c = λ hashing amount line hash value mode lg_k lines has.
    past_policy mode hashing amount (lines ++ line ∷ []) c.in-Err.error c.add_error.result c.add_error.ensures.policy
    (c.in-Err.ensures.past hashing amount mode lg_k lines line hash value has)
