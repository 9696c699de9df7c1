use Rattle.std.proofs.Common.{◌++◌, ◌+◌, ◌∙◌, ap, drop, arith}
use Rattle.keys_fields.proofs.Giving.{given_more, copied}
use Rattle.keys_fields.proofs.mapped.give.Goals as goal

pub returns-clause-gives : goal.returns-clause-gives
returns-clause-gives c =
    given_more c.args.waiting.now c.args.given.now c.min-start.result c.min-count.result c.min-start.ensures
    ∙ ap (λ bytes. bytes ++ drop (c.min-start.result + c.min-count.result) c.args.waiting.now)
    (copied c.args.waiting.now c.min-start.result c.min-count.result c.copy_from_slice.new.self _ (omega (arith, c.min-count.ensures)) c.copy_from_slice.ensures.after)
