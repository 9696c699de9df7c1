use Rattle.std.proofs.Common.{◌≡◌, ap, subst, ◌∙◌}
use Rattle.std.specs.Prelude.{IfSome}
use Rattle.keys_lines.specs.Lines.{lines_of_all}
use Rattle.keys_lines.specs.declared.key.Key.{Key}
use Rattle.keys_sketches.proofs.Turns.{if_some}
use Rattle.keys_sums.specs.Amounts.{added_by}
use Rattle.core_laws.specs.Settings.{settings_refusal}
use Rattle.core_laws.specs.declared.TheConstants.{MAX_THETA}
use Rattle.keys_sums.specs.Refusals.{IsSumError, LacksNumberOf, IsPast, IsPastIn}
use Rattle.keys_sums.specs.Sums.{sketch_of_sums}
use Rattle.keys_sums.specs.declared.summing.SumError.{SumError}
use Rattle.distinct_arguments.specs.Faults.{options_of}
use Rattle.distinct_commands.specs.Sums.{sums_of}
use Rattle.distinct_commands.proofs.job.Job.sums_of.Goals as goal

pub returns-in-Ok-clause-sums : goal.returns-in-Ok-clause-sums
returns-in-Ok-clause-sums g c =
    if_some (g.S.Sources.texts c.args.self.inputs.sources) (λ texts. c.in-Ok.sums.sketch ≡ sketch_of_sums c.args.mode (record { key = c.key.result; seed = c.args.self.seed }) (added_by c.args.amount) c.args.self.options.now.lg_k (lines_of_all texts)) (λ texts. c.in-Ok.sums.sketch ≡ sums_of c.args.mode (options_of c.args.self.options.now) c.args.amount c.args.self.seed texts)
    (λ texts is. is ∙ ap (λ (k : Key). sketch_of_sums c.args.mode (record { key = k; seed = c.args.self.seed }) (added_by c.args.amount) c.args.self.options.now.lg_k (lines_of_all texts)) c.key.ensures) c.in-Ok.ensures.sketch

pub returns-in-Err-PastGreatest-clause-failed : goal.returns-in-Err-PastGreatest-clause-failed
returns-in-Err-PastGreatest-clause-failed g c =
    let options = options_of c.args.self.options.now in
    let seed = c.args.self.seed in
    let amount = c.args.amount in
    let texts = g.S.Sources.texts c.args.self.inputs.sources in
    let past = subst (λ (u : SumError). IfSome texts (λ all. IsPastIn c.args.mode (record { key = c.key.result; seed = seed }) amount (lines_of_all all) u)) c.in-Err-PastGreatest.field-0-is c.in-Err-PastGreatest.ensures.past in
    c.overflow_failure.ensures.of_sums c.args.mode options seed amount texts (subst (λ (k : Key). IfSome texts (λ all. IsPast c.args.mode (record { key = k; seed = seed }) (added_by amount) (lines_of_all all))) c.key.ensures past)

pub returns-in-Err-NotANumber-clause-failed : goal.returns-in-Err-NotANumber-clause-failed
returns-in-Err-NotANumber-clause-failed g c =
    let refusal = settings_refusal c.args.self.options.now.lg_k MAX_THETA c.args.self.seed in
    let amount = c.args.amount in
    let texts = g.S.Sources.texts c.args.self.inputs.sources in
    let is = subst (λ (u : SumError). IsSumError amount refusal u) c.in-Err-NotANumber.field-0-is c.in-Err-NotANumber.ensures.refused in
    let lacking = subst (λ (u : SumError). IfSome texts (λ all. LacksNumberOf amount all u)) c.in-Err-NotANumber.field-0-is c.in-Err-NotANumber.ensures.numbered in
    c.number_failure.ensures.of_sums c.args.mode (options_of c.args.self.options.now) c.args.self.seed texts is.1 lacking

pub returns-in-Err-PastGreatest-clause-fallible : goal.returns-in-Err-PastGreatest-clause-fallible
returns-in-Err-PastGreatest-clause-fallible g c = c.overflow_failure.ensures.fallible g.S.Sources.may_fail

pub returns-in-Err-NotANumber-clause-fallible : goal.returns-in-Err-NotANumber-clause-fallible
returns-in-Err-NotANumber-clause-fallible g c = c.number_failure.ensures.fallible g.S.Sources.may_fail
