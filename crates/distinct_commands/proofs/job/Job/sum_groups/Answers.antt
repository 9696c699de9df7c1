use Rattle.std.proofs.Common.{sym, subst, ◌∙◌}
use Rattle.std.specs.Prelude.{IfErr}
use Rattle.std.proofs.lemmas.Result.{err_from_is_err_and}
use Rattle.distinct_arguments.specs.Faults.{options_of}
use Rattle.distinct_arguments.specs.Settings.{chosen_value}
use Rattle.distinct_inputs.specs.Failures.{IsOfGroupTotals}
use Rattle.distinct_commands.proofs.Answered.{lacks_value_by, not_totalled, totalled}
use Rattle.distinct_commands.proofs.job.Job.sum_groups.Goals as goal

pub returns-clause-printed : goal.returns-clause-printed
returns-clause-printed g c =
    let options = options_of c.args.self.options.now in
    totalled (g.S.Sources.texts c.args.self.inputs.sources) c.args.by c.in-Some.field (chosen_value options) options c.in_ok-totals.totals c.in_ok-text.text.items (sym c.value.ensures ∙ c.in-Some.is)
    c.in_ok-totals.ensures.totals c.in_ok-totals.ensures.numbers c.in_ok-text.ensures

pub returns-in_default-clause-failed : goal.returns-in_default-clause-failed
returns-in_default-clause-failed g c =
    lacks_value_by (options_of c.args.self.options.now) (g.S.Sources.texts c.args.self.inputs.sources) c.value.result c.value.ensures c.in_default.not-Some

pub returns-in_err-totals-clause-failed : goal.returns-in_err-totals-clause-failed
returns-in_err-totals-clause-failed g c =
    let of_totals = IsOfGroupTotals (options_of c.args.self.options.now) (g.S.Sources.texts c.args.self.inputs.sources) in
    let p = err_from_is_err_and c.from_residual.result c.from_residual.ensures.1 in
    subst (λ r. IfErr r of_totals) (sym p.1) (subst of_totals (sym p.2)
    (not_totalled (options_of c.args.self.options.now) (g.S.Sources.texts c.args.self.inputs.sources) c.in-Some.field c.in_err-totals.field-0.0 (sym c.value.ensures ∙ c.in-Some.is) c.in_err-totals.ensures.failed))

pub returns-in_err-text-clause-failed : goal.returns-in_err-text-clause-failed
returns-in_err-text-clause-failed g c =
    let of_totals = IsOfGroupTotals (options_of c.args.self.options.now) (g.S.Sources.texts c.args.self.inputs.sources) in
    let p = err_from_is_err_and c.from_residual-in_err-text.result c.from_residual-in_err-text.ensures.1 in
    subst (λ r. IfErr r of_totals) (sym p.1) (subst of_totals (sym p.2)
    (not_totalled (options_of c.args.self.options.now) (g.S.Sources.texts c.args.self.inputs.sources) c.in-Some.field _ (sym c.value.ensures ∙ c.in-Some.is) tt))
