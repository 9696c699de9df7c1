use Rattle.std.proofs.Common.{◌≡◌, None, Some, Option, sym, subst, ◌∙◌}
use Rattle.std.specs.Prelude.{IfErr, IfOk, IfSome}
use Rattle.keys_lines.specs.declared.key.Key.{Key}
use Rattle.distinct_arguments.specs.Faults.{options_of}
use Rattle.distinct_arguments.specs.Settings.{chosen_group}
use Rattle.distinct_inputs.specs.Failures.{IsOfSum}
use Rattle.distinct_commands.specs.SumGroups.{IsSumText}
use Rattle.distinct_commands.proofs.job.Job.sum_lines.Goals as goal

pub returns-in-Some-clause-printed : goal.returns-in-Some-clause-printed
returns-in-Some-clause-printed g c =
    let options = options_of c.args.self.options.now in
    let is : chosen_group options ≡ Some c.in-Some.by = sym c.group.ensures ∙ c.in-Some.is in
    subst (λ (by : Option Key). IfSome (g.S.Sources.texts c.args.self.inputs.sources) (λ texts. IfOk c.sum_groups.result (λ v. IsSumText by options c.args.self.seed texts v.items))) (sym is) c.sum_groups.ensures.printed

pub returns-in-Some-clause-failed : goal.returns-in-Some-clause-failed
returns-in-Some-clause-failed g c =
    let options = options_of c.args.self.options.now in
    let is : chosen_group options ≡ Some c.in-Some.by = sym c.group.ensures ∙ c.in-Some.is in
    subst (λ (by : Option Key). IfErr c.sum_groups.result (IsOfSum by options c.args.self.seed (g.S.Sources.texts c.args.self.inputs.sources))) (sym is) c.sum_groups.ensures.failed

pub returns-in-None-clause-printed : goal.returns-in-None-clause-printed
returns-in-None-clause-printed g c =
    let options = options_of c.args.self.options.now in
    let is : chosen_group options ≡ None = sym c.group.ensures ∙ c.in-None.is in
    subst (λ (by : Option Key). IfSome (g.S.Sources.texts c.args.self.inputs.sources) (λ texts. IfOk c.sum_inputs.result (λ v. IsSumText by options c.args.self.seed texts v.items))) (sym is) c.sum_inputs.ensures.printed

pub returns-in-None-clause-failed : goal.returns-in-None-clause-failed
returns-in-None-clause-failed g c =
    let options = options_of c.args.self.options.now in
    let is : chosen_group options ≡ None = sym c.group.ensures ∙ c.in-None.is in
    subst (λ (by : Option Key). IfErr c.sum_inputs.result (IsOfSum by options c.args.self.seed (g.S.Sources.texts c.args.self.inputs.sources))) (sym is) c.sum_inputs.ensures.failed
