use Rattle.std.proofs.Common.{◌∙◌, sym, ap, subst}
use Rattle.std.proofs.lemmas.Option.{none-some}
use Rattle.keys_sums.specs.Amounts.{amount_in}
use Rattle.keys_sums.specs.declared.addends.Amount.{Amount}
use Rattle.keys_totals.specs.Totals.{AddsTotal}
use Rattle.keys_totals.proofs.OwnTotals.{totalled_more}
use Rattle.keys_totals.proofs.reading.add_line.Goals as goal

pub returns-in_default-clause-lacking : goal.returns-in_default-clause-lacking
returns-in_default-clause-lacking c = (sym c.in_default.ensures, c.saturating_add.ensures, c.value_start-start.ensures.same)

pub returns-in_default-clause-refused : goal.returns-in_default-clause-refused
returns-in_default-clause-refused c = λ one. none-some 1 (c.in_default.ensures ∙ ap (λ (a : Amount). amount_in a c.args.line.now) one)

pub returns-in-Ok-clause-added : goal.returns-in-Ok-clause-added
returns-in-Ok-clause-added c = λ lines has.
    totalled_more c.args.by c.args.amount lines c.args.line.now c.in-Some.number c.args.totals.now.map c.add.new.self.map (sym c.in-Some.ensures) has
    (subst (λ name. AddsTotal name c.in-Some.number c.args.totals.now.map c.add.new.self.map) c.key_in.ensures c.in-Ok.ensures)
