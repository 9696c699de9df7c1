use Rattle.std.proofs.Common.{◌≡◌, sym, subst}
use Rattle.std.specs.Prelude.{IfErr, IfSome}
use Rattle.std.proofs.lemmas.Result.{err_from_is_err_and}
use Rattle.tuple_sketches.specs.declared.numbers.SummaryMode.{SummaryMode}
use Rattle.distinct_arguments.specs.Faults.{options_of}
use Rattle.distinct_inputs.specs.Failures.{chosen_summary, IsOfSums}
use Rattle.distinct_commands.specs.Sums.{sums_of}
use Rattle.distinct_commands.proofs.Answered.{summed}
use Rattle.distinct_commands.proofs.job.Job.write_sums.Goals as goal

pub returns-clause-written : goal.returns-clause-written
returns-clause-written g c =
    let options = options_of c.args.self.options.now in
    let known = g.S.Sources.texts c.args.self.inputs.sources in
    let sums = c.in_ok-sums.sums.sketch in
    summed c.in_form.result (λ v. v.items) known c.args.amount options c.args.self.seed sums c.in_ok-image.image.items
    (subst (λ (m : SummaryMode). IfSome known (λ texts. sums ≡ sums_of m options c.args.amount c.args.self.seed texts)) c.chosen_summary-mode.ensures c.in_ok-sums.ensures.sums)
    c.in_ok-sums.ensures.numbers c.in_ok-image.ensures.image c.in_ok-image.ensures.reads c.in_form.ensures.form

pub returns-in_err-sums-clause-failed : goal.returns-in_err-sums-clause-failed
returns-in_err-sums-clause-failed g c =
    let options = options_of c.args.self.options.now in
    let failed : SummaryMode → _ → Type 0 = λ m f. IsOfSums m options c.args.self.seed c.args.amount (g.S.Sources.texts c.args.self.inputs.sources) f in
    let of_sums = failed (chosen_summary options) in
    let p = err_from_is_err_and c.from_residual.result c.from_residual.ensures.1 in
    subst (λ r. IfErr r of_sums) (sym p.1) (subst of_sums (sym p.2) (subst (λ (m : SummaryMode). failed m c.in_err-sums.field-0.0) c.chosen_summary-mode.ensures c.in_err-sums.ensures.failed))
