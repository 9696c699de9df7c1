use Rattle.core_policies.specs.Summaries.{combined, combine_refused}
use Rattle.core_slots.specs.Entry.{tuple_key}
use Rattle.core_state.specs.View.{shows, sequence}
use Rattle.core_streams.proofs.Calls.{on_three, on_each_err}
use Rattle.core_streams.proofs.WholeMaps.{update_all-settings}
use Rattle.tuple_sketches.proofs.Streams.{union-given-all}
use Rattle.tuple_sketches.proofs.union.TupleUnion.update_all.Goals as goal

pub returns-clause-given : goal.returns-clause-given
returns-clause-given g c = on_three c.join_views.result (λ skipped united joined lg_k k start given others is parts.
    union-given-all (g.P.SummaryCombinePolicy.combines c.args.self.now.state.policy) lg_k k start c.args.self.now.state c.join_views.new.union (λ v. shows tuple_key v) (λ v. sequence v) c.args.sketches.now given others skipped united (λ nonempty. (joined nonempty).made_with) is parts)
    c.join_views.ensures.skipped c.join_views.ensures.united c.join_views.ensures.joined

pub returns-clause-err_settings : goal.returns-clause-err_settings
returns-clause-err_settings g c = on_each_err c.join_views.result _ (λ e refused.
    update_all-settings tuple_key (combined (g.P.SummaryCombinePolicy.combines c.args.self.now.state.policy)) (combine_refused (g.P.SummaryCombinePolicy.combines c.args.self.now.state.policy)) c.args.self.now.state c.join_views.new.union (λ v. shows tuple_key v) (λ v. sequence v) c.args.sketches.now e refused) c.join_views.ensures.refused
