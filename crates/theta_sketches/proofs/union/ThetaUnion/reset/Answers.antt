use Rattle.theta_sketches.proofs.Streams.{union-made, samples-made}
use Rattle.theta_sketches.proofs.union.ThetaUnion.reset.Goals as goal

pub returns-clause-given : goal.returns-clause-given
returns-clause-given g c = rw (← c.self.view_is) (λ k start enough starts.
    union-made c.self.inside.state.lg_k k start c.self.inside.state.start c.self.inside.state.seed_hash c.self.inside.state.policy c.reset.new.self enough starts c.reset.ensures)

pub returns-clause-sampled : goal.returns-clause-sampled
returns-clause-sampled g c = samples-made c.self.inside.state.lg_k c.self.inside.state.start c.self.inside.state.seed_hash c.self.inside.state.policy c.reset.new.self c.reset.ensures
