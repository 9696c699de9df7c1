use Rattle.std.proofs.Common.{sym, ◌∙◌}
use Rattle.distinct_arguments.proofs.Digits.{without_plus, number_some, number_none}
use Rattle.distinct_arguments.proofs.words.number_of.Goals as goal

pub returns-then-number-greatest : goal.returns-then-number-greatest
returns-then-number-greatest c =
    let parsed = c.in-Ok.ensures.value in
    let same = without_plus c.args.word.now (sym c.begins_with_plus.ensures ∙ c.if-begins_with_plus.false) in
    number_some c.args.least c.args.greatest c.in-Ok.number _ c.args.word.now same parsed.0.0.0 parsed.0.1 c.if-least-number.true c.if-number-greatest.true

pub returns-in-Err : goal.returns-in-Err
returns-in-Err c =
    let same = without_plus c.args.word.now (sym c.begins_with_plus.ensures ∙ c.if-begins_with_plus.false) in
    number_none c.args.least c.args.greatest _ c.args.word.now same c.ranges.greatest.fits c.in-Err.ensures.value.0
