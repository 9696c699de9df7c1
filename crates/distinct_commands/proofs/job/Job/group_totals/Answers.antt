use Rattle.std.proofs.Common.{subst}
use Rattle.std.specs.Prelude.{IfSome}
use Rattle.keys_totals.specs.Refusals.{IsTotalError, LacksNumberOf}
use Rattle.keys_totals.specs.declared.reading.TotalError.{TotalError}
use Rattle.distinct_commands.proofs.job.Job.group_totals.Goals as goal

pub returns-in-Err-NotANumber-clause-failed : goal.returns-in-Err-NotANumber-clause-failed
returns-in-Err-NotANumber-clause-failed g c =
    let amount = c.args.amount in
    let texts = g.S.Sources.texts c.args.self.inputs.sources in
    let is = subst (λ (reason : TotalError). IsTotalError amount reason) c.in-Err-NotANumber.field-0-is c.in-Err-NotANumber.ensures.refused in
    let lacking = subst (λ (reason : TotalError). IfSome texts (λ all. LacksNumberOf amount all reason)) c.in-Err-NotANumber.field-0-is c.in-Err-NotANumber.ensures.numbered in
    c.number_failure.ensures.of_numbers texts is lacking

pub returns-in-Err-NotANumber-clause-fallible : goal.returns-in-Err-NotANumber-clause-fallible
returns-in-Err-NotANumber-clause-fallible g c = c.number_failure.ensures.fallible g.S.Sources.may_fail
