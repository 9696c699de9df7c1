use Rattle.std.proofs.Common.{sym, subst, ◌∙◌}
use Rattle.std.specs.Prelude.{IfErr}
use Rattle.std.proofs.lemmas.Result.{err_from_is_err_and}
use Rattle.distinct_arguments.specs.Faults.{options_of}
use Rattle.distinct_inputs.specs.Failures.{IsOfTotal}
use Rattle.distinct_commands.proofs.Answered.{lacks_value, not_summed}
use Rattle.distinct_commands.proofs.job.Job.sum_inputs.Goals as goal

pub returns-in_default-clause-failed : goal.returns-in_default-clause-failed
returns-in_default-clause-failed g c =
    lacks_value (options_of c.args.self.options.now) c.args.self.seed (g.S.Sources.texts c.args.self.inputs.sources) c.value.result c.value.ensures c.in_default.not-Some

pub returns-in_err-sums-clause-failed : goal.returns-in_err-sums-clause-failed
returns-in_err-sums-clause-failed g c =
    let of_total = IsOfTotal (options_of c.args.self.options.now) c.args.self.seed (g.S.Sources.texts c.args.self.inputs.sources) in
    let p = err_from_is_err_and c.from_residual.result c.from_residual.ensures.1 in
    subst (λ r. IfErr r of_total) (sym p.1) (subst of_total (sym p.2)
    (not_summed (options_of c.args.self.options.now) c.args.self.seed (g.S.Sources.texts c.args.self.inputs.sources) c.in-Some.field c.in_err-sums.field-0.0 (sym c.value.ensures ∙ c.in-Some.is) c.in_err-sums.ensures.failed))

pub returns-in_err-text-clause-failed : goal.returns-in_err-text-clause-failed
returns-in_err-text-clause-failed g c =
    let of_total = IsOfTotal (options_of c.args.self.options.now) c.args.self.seed (g.S.Sources.texts c.args.self.inputs.sources) in
    let p = err_from_is_err_and c.from_residual-in_err-text.result c.from_residual-in_err-text.ensures.1 in
    subst (λ r. IfErr r of_total) (sym p.1) (subst of_total (sym p.2)
    (not_summed (options_of c.args.self.options.now) c.args.self.seed (g.S.Sources.texts c.args.self.inputs.sources) c.in-Some.field _ (sym c.value.ensures ∙ c.in-Some.is) tt))
