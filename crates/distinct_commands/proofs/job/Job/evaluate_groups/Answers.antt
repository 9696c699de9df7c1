use Rattle.std.proofs.Common.{ℕ, List, length, arith, ◌≡◌, Bor, subst}
use Rattle.std.specs.Prelude.{IfSome, IfOk}
use Rattle.expression_text.specs.declared.operator.Step.{Step}
use Rattle.keys_joins.specs.Evaluated.{HasEvaluated}
use Rattle.distinct_arguments.specs.Faults.{options_of}
use Rattle.distinct_commands.specs.declared.groups.Listing.{Listing}
use Rattle.distinct_commands.specs.Groups.{IsGroupsText}
use Rattle.distinct_commands.proofs.Failing.{groups_of_join}
use Rattle.distinct_commands.proofs.GroupResults.{groups_evaluated, output_listing}
use Rattle.distinct_commands.proofs.job.Job.evaluate_groups.Goals as goal

pub returns-in-Ok-clause-evaluated : goal.returns-in-Ok-clause-evaluated
returns-in-Ok-clause-evaluated g c =
    let options = options_of c.args.self.options.now in
    let seed = c.args.self.seed in
    let groups = c.in-Ok.groups in
    let expression = c.args.expression.now in
    let texts = g.S.Sources.texts c.args.self.inputs.sources in
    let counted : length expression.names.items ≡ length groups.tables.items =
    omega (arith, c.if-found-wanted.false, c.files-found.ensures, c.len-wanted.ensures, groups.tables.ok.0, expression.names.ok.0) in
    groups_evaluated c.table.result (λ v. v.items) options seed expression.text.now expression.names.items expression.steps.items groups c.requires.read counted
    (λ sketch own listed.
    subst (λ (listing : Listing). IfOk c.table.result (λ v. IsGroupsText listing options sketch own v.items))
    (output_listing (λ (name : Bor (List ℕ)). name.now) c.args.self.options.now.output c.listing_of.result c.is_some.result c.listing_of.ensures c.is_some.ensures)
    (c.table.ensures.printed sketch own listed))
    texts
    (subst (λ (steps : List Step). IfSome texts (λ ts. HasEvaluated seed options.lg_k steps ts groups)) c.as_slice-steps.ensures.value c.in-Ok.ensures.evaluated)

pub returns-clause-failed : goal.returns-clause-failed
returns-clause-failed g c =
    let texts = g.S.Sources.texts c.args.self.inputs.sources in
    groups_of_join c.args.self.seed texts c.join_failure.result (c.join_failure.ensures.failed c.args.self.seed texts c.in-Err.ensures.failed)
