use Rattle.core_streams.proofs.Calls.{on_ok, on_both}
use Rattle.theta_sketches.proofs.Streams.{union-lowered, samples-lowered}
use Rattle.theta_sketches.proofs.union.ThetaUnion.lower_lg_k.Goals as goal

pub returns-clause-given : goal.returns-clause-given
returns-clause-given g c = rw (← c.self.view_is) (on_both c.lower_lg_k.result (λ after value nominal k less start hashes is fewer enough.
    union-lowered nominal k start c.args.lg_k less c.self.inside.state c.lower_lg_k.new.self hashes after value fewer enough is) c.lower_lg_k.ensures.after c.lower_lg_k.ensures.value)

pub returns-clause-sampled : goal.returns-clause-sampled
returns-clause-sampled g c = rw (← c.self.view_is) (on_ok c.lower_lg_k.result (λ value hashes is. samples-lowered c.args.lg_k c.self.inside.state c.lower_lg_k.new.self hashes value is) c.lower_lg_k.ensures.value)
