use Rattle.tuple_sketches.proofs.Streams.{union-made, samples-made}
use Rattle.tuple_sketches.proofs.union.TupleUnion.reset.Goals as goal

pub returns-clause-given : goal.returns-clause-given
returns-clause-given g c = λ k start enough starts.
    union-made c.args.self.now.state.lg_k k start c.args.self.now.state.start c.args.self.now.state.seed_hash c.args.self.now.state.policy c.reset.new.self enough starts c.reset.ensures

pub returns-clause-sampled : goal.returns-clause-sampled
returns-clause-sampled g c = samples-made c.args.self.now.state.lg_k c.args.self.now.state.start c.args.self.now.state.seed_hash c.args.self.now.state.policy c.reset.new.self c.reset.ensures
