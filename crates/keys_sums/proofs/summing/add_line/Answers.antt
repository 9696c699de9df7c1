use Rattle.std.proofs.Common.{◌∙◌, sym}
use Rattle.keys_sums.proofs.summing.add_line.Goals as goal

pub returns-in_default-clause-number : goal.returns-in_default-clause-number
returns-in_default-clause-number g c = λ hashing line front is. (sym (c.value.ensures.value hashing line front c.args.end.now is) ∙ c.in_default.is, c.saturating_add.ensures, (c.value_start-start.ensures hashing line front is).same)

pub returns-clause-added : goal.returns-clause-added
returns-clause-added g c = λ hashing line front is.
    c.add_number.ensures.added hashing c.args.amount line (c.hash.ensures hashing c.args.amount line front c.args.end.now is) (sym (c.value.ensures.value hashing line front c.args.end.now is) ∙ c.in-Some.is)

pub returns-clause-number : goal.returns-clause-number
returns-clause-number g c = λ hashing line front is. c.add_number.ensures.number c.args.amount line

pub returns-clause-past : goal.returns-clause-past
returns-clause-past g c = λ hashing line front is.
    c.add_number.ensures.past hashing c.args.amount line (c.hash.ensures hashing c.args.amount line front c.args.end.now is) (sym (c.value.ensures.value hashing line front c.args.end.now is) ∙ c.in-Some.is)

pub returns-clause-refused : goal.returns-clause-refused
returns-clause-refused g c = c.add_number.ensures.refused c.args.amount
