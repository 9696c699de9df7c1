use Rattle.core_slots.specs.Entry.{tuple_key}
use Rattle.core_state.specs.View.{shows, sequence}
use Rattle.core_streams.proofs.Calls.{on_ok}
use Rattle.tuple_sketches.proofs.Streams.{intersection-given}
use Rattle.tuple_sketches.proofs.intersection.TupleIntersection.update.Goals as goal

pub returns-clause-given : goal.returns-clause-given
returns-clause-given g c = on_ok c.meet_view.result (λ met givens more is sample.
    intersection-given (g.P.SummaryCombinePolicy.combines c.args.self.now.state.policy) c.args.self.now.state c.meet_view.new.intersection (shows tuple_key c.args.sketch) (sequence c.args.sketch) givens more met is sample) c.meet_view.ensures.met
