use Rattle.std.proofs.Common.{◌^◌}
use Rattle.core_laws.specs.Entries.{hash_key}
use Rattle.core_operators.specs.Union.{union_value}
use Rattle.theta_sketches.specs.Streams.{MAX_THETA}
use Rattle.theta_sketches.proofs.Streams.{union-part, answer-part, answer-least, answer-kmin, answer-sample, answer-below}
use Rattle.theta_sketches.proofs.union.ThetaUnion.to_sketch.Goals as goal

pub returns-clause-part : goal.returns-clause-part
returns-clause-part g c = rw (← c.self.view_is, c.of_state.ensures) (λ lg_k k start hashes is.
    answer-part k start c.self.inside.state.seed_hash c.args.ordered (union_value hash_key c.self.inside.state) c.in_ok-state.state hashes c.in_ok-state.ensures.ok (union-part lg_k k start c.self.inside.state hashes is))

pub returns-clause-least : goal.returns-clause-least
returns-clause-least g c = rw (← c.self.view_is, c.of_state.ensures) (λ lg_k start hashes is some.
    answer-least (2 ^ lg_k) start c.self.inside.state.seed_hash c.args.ordered (union_value hash_key c.self.inside.state) c.in_ok-state.state hashes c.in_ok-state.ensures.ok is.of_map.no_more (union-part lg_k (2 ^ lg_k) start c.self.inside.state hashes is) some)

pub returns-clause-kmin : goal.returns-clause-kmin
returns-clause-kmin g c = rw (← c.self.view_is, c.of_state.ensures) (λ lg_k hashes is ordered.
    answer-kmin (2 ^ lg_k) c.self.inside.state.seed_hash c.args.ordered (union_value hash_key c.self.inside.state) c.in_ok-state.state hashes c.in_ok-state.ensures.ok ordered is.of_map.no_more (union-part lg_k (2 ^ lg_k) MAX_THETA c.self.inside.state hashes is))

pub returns-clause-sample : goal.returns-clause-sample
returns-clause-sample g c = rw (← c.self.view_is, c.of_state.ensures) (λ hashes is.
    answer-sample c.self.inside.state.seed_hash c.args.ordered (union_value hash_key c.self.inside.state) c.in_ok-state.state hashes c.in_ok-state.ensures.ok is.sampled)

pub returns-clause-below : goal.returns-clause-below
returns-clause-below g c = rw (← c.self.view_is, c.of_state.ensures) (λ hashes is ordered.
    answer-below c.self.inside.state.seed_hash c.args.ordered (union_value hash_key c.self.inside.state) c.in_ok-state.state hashes c.in_ok-state.ensures.ok ordered is.sampled)
