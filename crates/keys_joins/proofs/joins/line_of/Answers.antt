use Rattle.std.proofs.Common.{◌≡◌, sym, subst}
use Rattle.std.specs.Prelude.{IfOk}
use Rattle.keys_joins.specs.Joins.{joined_line}
use Rattle.keys_joins.specs.declared.joins.Join.{Join}
use Rattle.keys_joins.proofs.joins.line_of.Goals as goal

pub returns-in-Meet-clause-line : goal.returns-in-Meet-clause-line
returns-in-Meet-clause-line c = λ first files are is seeded.
    subst (λ (join : Join). IfOk c.meet_line.result (λ v. v.items ≡ joined_line join c.args.seed first files c.args.group.name.items)) (sym c.in-Meet.is) (c.meet_line.ensures.line first files are is)

pub returns-in-Minus-clause-line : goal.returns-in-Minus-clause-line
returns-in-Minus-clause-line c = λ first files are is seeded.
    subst (λ (join : Join). IfOk c.minus_line.result (λ v. v.items ≡ joined_line join c.args.seed first files c.args.group.name.items)) (sym c.in-Minus.is) (c.minus_line.ensures.line first files are is seeded)
