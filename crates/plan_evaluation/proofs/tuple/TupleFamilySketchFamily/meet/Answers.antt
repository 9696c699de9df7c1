use Rattle.std.proofs.Common.{◌≡◌, Some, sym, subst, ◌∙◌, rules}
use Rattle.std.proofs.lemmas.Result.{err_from_is_err_and}
use Rattle.std.specs.Option.{option_map}
use Rattle.core_state.specs.View.{shows, sequence}
use Rattle.core_laws.specs.Folds.{fold_key, fold_merges, unmarked_value}
use Rattle.core_laws.specs.Operators.{meet_next}
use Rattle.core_policies.specs.Summaries.{combined, combine_refused, combined-keeps}
use Rattle.core_slots.specs.Entry.{tuple_key}
use Rattle.plan_values.specs.Family.{tuples}
use Rattle.plan_evaluation.proofs.families.Refusals.{refused_meet}
use Rattle.plan_evaluation.proofs.tuple.TupleFamilySketchFamily.meet.Goals as goal

pub returns-in_err-update-clause-refused : goal.returns-in_err-update-clause-refused
returns-in_err-update-clause-refused g c =
    let p = err_from_is_err_and c.from_residual.result c.from_residual.ensures.1 in
    let f = c.args.self.now in
    let combines = g.Q.SummaryCombinePolicy.combines f.combines in
    let view = c.view-shown.result in
    let refused = rw c.requires.own at c.in_err-update.ensures.refused.1 in
    rw (p.1, p.2) (refused_meet (tuples (g.P.SummaryPolicy.creates f.updates) (g.P.SummaryUpdatePolicy.updates f.updates) combines) (combine_refused combines) (combined-keeps combines) c.args.intersection.now.state (shows tuple_key view) (sequence view)
    (c.requires.same_seed ∙ sym c.view-shown.ensures.seed) _ c.view-shown.ensures.value c.in_err-update.field-0.0 refused)

pub returns-clause-meets : goal.returns-clause-meets
returns-clause-meets g c =
    let combines = g.Q.SummaryCombinePolicy.combines c.args.self.now.combines in
    let old = c.args.intersection.now.state.result in
    let new = c.update.new.self.state.result in
    let met = rw c.requires.own at c.in_ok-update.ensures.met in
    record {
      value = subst (λ v. option_map unmarked_value new ≡ Some (meet_next (fold_key tuple_key) (fold_merges tuple_key (combined combines) (combine_refused combines)) (option_map unmarked_value old) v)) c.view-shown.ensures.value met;
      made_with = search (rules);
    }
