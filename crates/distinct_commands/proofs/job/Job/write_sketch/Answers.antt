use Rattle.std.proofs.Common.{Option, sym, subst, ◌∙◌}
use Rattle.std.specs.Prelude.{IfErr, IfOk, IfSome}
use Rattle.keys_sums.specs.declared.addends.Amount.{Amount}
use Rattle.distinct_arguments.specs.Faults.{options_of}
use Rattle.distinct_arguments.specs.Settings.{chosen_group}
use Rattle.distinct_commands.specs.Answers.{IsSketchText}
use Rattle.distinct_inputs.specs.Failures.{IsOfChosen}
use Rattle.distinct_commands.proofs.job.Job.write_sketch.Goals as goal

pub returns-in-Some-clause-sketched : goal.returns-in-Some-clause-sketched
returns-in-Some-clause-sketched g c =
    let options = options_of c.args.self.options.now in
    subst (λ (amount : Option Amount). IfSome (g.S.Sources.texts c.args.self.inputs.sources) (λ texts. IfOk c.write_sums.result (λ v. IsSketchText amount (chosen_group options) options c.args.self.seed texts v.items))) (sym (sym c.chosen_amount.ensures ∙ c.in-Some.is)) c.write_sums.ensures.written

pub returns-in-None-clause-sketched : goal.returns-in-None-clause-sketched
returns-in-None-clause-sketched g c =
    let options = options_of c.args.self.options.now in
    subst (λ (amount : Option Amount). IfSome (g.S.Sources.texts c.args.self.inputs.sources) (λ texts. IfOk c.print_lines.result (λ v. IsSketchText amount (chosen_group options) options c.args.self.seed texts v.items))) (sym (sym c.chosen_amount.ensures ∙ c.in-None.is)) c.print_lines.ensures.printed

pub returns-in-Some-clause-failed : goal.returns-in-Some-clause-failed
returns-in-Some-clause-failed g c =
    let options = options_of c.args.self.options.now in
    let texts = g.S.Sources.texts c.args.self.inputs.sources in
    subst (λ (amount : Option Amount). IfErr c.write_sums.result (IsOfChosen amount options c.args.self.seed texts)) (sym (sym c.chosen_amount.ensures ∙ c.in-Some.is)) c.write_sums.ensures.failed

pub returns-in-None-clause-failed : goal.returns-in-None-clause-failed
returns-in-None-clause-failed g c =
    let options = options_of c.args.self.options.now in
    let texts = g.S.Sources.texts c.args.self.inputs.sources in
    subst (λ (amount : Option Amount). IfErr c.print_lines.result (IsOfChosen amount options c.args.self.seed texts)) (sym (sym c.chosen_amount.ensures ∙ c.in-None.is)) c.print_lines.ensures.failed
