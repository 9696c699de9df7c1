use Rattle.std.proofs.Common.{◌≡◌, sym, subst, ◌∙◌, rules}
use Rattle.std.specs.Prelude.{MatchOption}
use Rattle.std.proofs.lemmas.Result.{err_from_is_err_and}
use Rattle.core_state.specs.View.{shows, sequence}
use Rattle.core_operators.specs.Union.{IsBroken, update_refusal}
use Rattle.core_policies.specs.Summaries.{combine_refused, combined-keeps}
use Rattle.core_slots.specs.Entry.{tuple_key}
use Rattle.plan_values.specs.Family.{tuples}
use Rattle.plan_evaluation.proofs.families.Held.{holds_more}
use Rattle.plan_evaluation.proofs.families.Joining.{joins_plain, joined_under}
use Rattle.plan_evaluation.proofs.families.Refusals.{refused_join}
use Rattle.plan_evaluation.proofs.families.Shown.{apart_lent}
use Rattle.plan_evaluation.proofs.tuple.TupleFamilySketchFamily.join.Goals as goal

pub returns-in_err-update-clause-refused : goal.returns-in_err-update-clause-refused
returns-in_err-update-clause-refused g c =
    let p = err_from_is_err_and c.from_residual.result c.from_residual.ensures.1 in
    let f = c.args.self.now in
    let combines = g.Q.SummaryCombinePolicy.combines f.combines in
    let view = c.view-shown.result in
    let old = c.args.union.now.state in
    let new = c.update.new.self.state in
    let e = c.in_err-update.field-0.0 in
    let refused = subst (λ q. MatchOption (update_refusal old (shows tuple_key view)) (IsBroken tuple_key (combine_refused (g.Q.SummaryCombinePolicy.combines q)) old new (shows tuple_key view) (sequence view) e) (λ kind. (e ≡ kind) × (new ≡ old))) c.requires.own c.in_err-update.ensures.refused in
    rw (p.1, p.2) (refused_join (tuples (g.P.SummaryPolicy.creates f.updates) (g.P.SummaryUpdatePolicy.updates f.updates) combines) (combine_refused combines) (combined-keeps combines) old new (shows tuple_key view) (sequence view)
    c.requires.at_work (c.requires.same_seed ∙ sym c.view-shown.ensures.seed) _ c.view-shown.ensures.value e refused)

pub returns-clause-joins : goal.returns-clause-joins
returns-clause-joins g c =
    let f = c.args.self.now in
    let combines = g.Q.SummaryCombinePolicy.combines f.combines in
    let view = c.view-shown.result in
    let rules_of = tuples (g.P.SummaryPolicy.creates f.updates) (g.P.SummaryUpdatePolicy.updates f.updates) combines in
    let is = c.in_ok-update.ensures in
    let apart = apart_lent tuple_key view.sketch is.shown in
    let joined = joined_under g.Q.SummaryCombinePolicy.combines _ _ _ _ (shows tuple_key view) _ c.requires.own is.joined in
    record {
      value = joins_plain rules_of _ (combined-keeps combines) _ _ (shows tuple_key view) (sequence view) c.update.ensures.sound c.requires.at_work c.update.ensures.content.ascending apart is.skipped joined _ c.view-shown.ensures.value;
      made_with = search (rules);
      holds = holds_more rules_of _ (combined-keeps combines) _ _ (shows tuple_key view) (sequence view) apart is.skipped joined _ c.view-shown.ensures.value;
    }
