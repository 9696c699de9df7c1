use Rattle.std.proofs.Common.{◌^◌}
use Rattle.core_operators.specs.Union.{union_value}
use Rattle.core_slots.specs.Entry.{tuple_key}
use Rattle.tuple_sketches.specs.Streams.{MAX_THETA}
use Rattle.tuple_sketches.proofs.Streams.{union-part, union-no_more, answer-part, answer-least, answer-kmin, answer-sample, answer-below}
use Rattle.tuple_sketches.proofs.union.TupleUnion.to_sketch.Goals as goal

pub returns-clause-part : goal.returns-clause-part
returns-clause-part g c = rw c.of_state.ensures (λ lg_k k start given is.
    answer-part k start c.args.self.now.state.seed_hash c.args.ordered (union_value tuple_key c.args.self.now.state) c.in_ok-state.state given c.in_ok-state.ensures.ok (union-part lg_k k start c.args.self.now.state given is))

pub returns-clause-least : goal.returns-clause-least
returns-clause-least g c = rw c.of_state.ensures (λ lg_k start given is some.
    answer-least (2 ^ lg_k) start c.args.self.now.state.seed_hash c.args.ordered (union_value tuple_key c.args.self.now.state) c.in_ok-state.state given c.in_ok-state.ensures.ok (union-no_more lg_k (2 ^ lg_k) start c.args.self.now.state given is) (union-part lg_k (2 ^ lg_k) start c.args.self.now.state given is) some)

pub returns-clause-kmin : goal.returns-clause-kmin
returns-clause-kmin g c = rw c.of_state.ensures (λ lg_k given is ordered.
    answer-kmin (2 ^ lg_k) c.args.self.now.state.seed_hash c.args.ordered (union_value tuple_key c.args.self.now.state) c.in_ok-state.state given c.in_ok-state.ensures.ok ordered (union-no_more lg_k (2 ^ lg_k) MAX_THETA c.args.self.now.state given is) (union-part lg_k (2 ^ lg_k) MAX_THETA c.args.self.now.state given is))

pub returns-clause-sample : goal.returns-clause-sample
returns-clause-sample g c = rw c.of_state.ensures (λ given is.
    answer-sample c.args.self.now.state.seed_hash c.args.ordered (union_value tuple_key c.args.self.now.state) c.in_ok-state.state given c.in_ok-state.ensures.ok is.sampled)

pub returns-clause-below : goal.returns-clause-below
returns-clause-below g c = rw c.of_state.ensures (λ given is ordered.
    answer-below c.args.self.now.state.seed_hash c.args.ordered (union_value tuple_key c.args.self.now.state) c.in_ok-state.state given c.in_ok-state.ensures.ok ordered is.sampled)
