use Rattle.core_policies.specs.Summaries.{combine_refused}
use Rattle.core_slots.specs.Entry.{tuple_key}
use Rattle.core_state.specs.View.{shows, sequence}
use Rattle.core_streams.proofs.Calls.{on_three, if_err, on_each_err}
use Rattle.core_streams.proofs.WholeMaps.{update-settings}
use Rattle.tuple_sketches.proofs.Streams.{union-given, samples-given, unchanged-union}
use Rattle.tuple_sketches.proofs.union.TupleUnion.update.Goals as goal

pub returns-clause-given : goal.returns-clause-given
returns-clause-given g c = on_three c.join_view.result (λ skipped united joined lg_k k start given more is part.
    union-given (g.P.SummaryCombinePolicy.combines c.args.self.now.state.policy) lg_k k start c.args.self.now.state c.join_view.new.union (shows tuple_key c.args.sketch) (sequence c.args.sketch) given more skipped united (λ nonempty. (joined nonempty).made_with) is part)
    c.join_view.ensures.skipped c.join_view.ensures.united c.join_view.ensures.joined

pub returns-clause-sampled : goal.returns-clause-sampled
returns-clause-sampled g c = on_three c.join_view.result (λ skipped united joined given more is sample.
    samples-given (g.P.SummaryCombinePolicy.combines c.args.self.now.state.policy) c.args.self.now.state c.join_view.new.union (shows tuple_key c.args.sketch) (sequence c.args.sketch) given more skipped united is sample)
    c.join_view.ensures.skipped c.join_view.ensures.united c.join_view.ensures.joined

pub returns-clause-err_given : goal.returns-clause-err_given
returns-clause-err_given g c = if_err c.join_view.result _ _ (λ e refused memory policy.
    unchanged-union (combine_refused (g.P.SummaryCombinePolicy.combines c.args.self.now.state.policy)) c.args.self.now.state c.join_view.new.union (shows tuple_key c.args.sketch) (sequence c.args.sketch) e memory policy refused) c.join_view.ensures.refused

pub returns-clause-err_settings : goal.returns-clause-err_settings
returns-clause-err_settings g c = on_each_err c.join_view.result _ (λ e refused.
    update-settings tuple_key (combine_refused (g.P.SummaryCombinePolicy.combines c.args.self.now.state.policy)) c.args.self.now.state c.join_view.new.union (shows tuple_key c.args.sketch) (sequence c.args.sketch) e refused) c.join_view.ensures.refused
