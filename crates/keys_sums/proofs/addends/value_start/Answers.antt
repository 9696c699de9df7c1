use Rattle.std.proofs.Common.{[], sym, subst}
use Rattle.keys_sums.specs.Amounts.{value_in}
use Rattle.keys_sums.specs.Parts.{IsStart}
use Rattle.keys_sums.specs.declared.addends.Amount.{Amount}
use Rattle.keys_sums.proofs.addends.value_start.Goals as goal

pub returns-in-Number : goal.returns-in-Number
returns-in-Number c =
    let start = c.with_bytes.result.collected in
    subst (λ (amount : Amount). IsStart (value_in amount c.args.line.now) start) (sym c.in-Number.is) (c.with_bytes.ensures [] (c.new-start.ensures c.in-Number.key)).collected
