use Rattle.core_streams.proofs.Calls.{on_ok, on_both}
use Rattle.tuple_sketches.proofs.Streams.{union-lowered, samples-lowered}
use Rattle.tuple_sketches.proofs.union.TupleUnion.lower_lg_k.Goals as goal

pub returns-clause-given : goal.returns-clause-given
returns-clause-given g c = on_both c.lower_lg_k.result (λ after value nominal k less start given is fewer enough.
    union-lowered nominal k start c.args.lg_k less c.args.self.now.state c.lower_lg_k.new.self given after value fewer enough is) c.lower_lg_k.ensures.after c.lower_lg_k.ensures.value

pub returns-clause-sampled : goal.returns-clause-sampled
returns-clause-sampled g c = on_ok c.lower_lg_k.result (λ value given is. samples-lowered c.args.lg_k c.args.self.now.state c.lower_lg_k.new.self given value is) c.lower_lg_k.ensures.value
