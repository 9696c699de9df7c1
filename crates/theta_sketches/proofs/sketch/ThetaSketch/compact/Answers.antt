use Rattle.std.proofs.Common.{◌^◌}
use Rattle.core_state.specs.Updatable.{sketch_value}
use Rattle.theta_sketches.specs.Streams.{MAX_THETA}
use Rattle.theta_sketches.proofs.Streams.{sketch-part, seeded, answer-part, answer-least, answer-kmin}
use Rattle.theta_sketches.proofs.sketch.ThetaSketch.compact.Goals as goal

pub returns-clause-part : goal.returns-clause-part
returns-clause-part g c = rw (← c.self.view_is, c.of_state.ensures) (λ lg_k start seed hashes is.
    answer-part (2 ^ lg_k) start c.self.inside.state.map.seed_hash c.args.ordered (sketch_value c.self.inside.state) c.in_ok-state.state hashes c.in_ok-state.ensures.ok (sketch-part lg_k start seed c.self.inside.state hashes is))

pub returns-clause-seeded : goal.returns-clause-seeded
returns-clause-seeded g c = rw (← c.self.view_is, c.of_state.ensures) (λ lg_k start seed hashes is. seeded lg_k start seed c.self.inside.state hashes c.args.ordered c.in_ok-state.state c.in_ok-state.ensures.ok is)

pub returns-clause-least : goal.returns-clause-least
returns-clause-least g c = rw (← c.self.view_is, c.of_state.ensures) (λ lg_k start seed hashes is some.
    answer-least (2 ^ lg_k) start c.self.inside.state.map.seed_hash c.args.ordered (sketch_value c.self.inside.state) c.in_ok-state.state hashes c.in_ok-state.ensures.ok is.no_more (sketch-part lg_k start seed c.self.inside.state hashes is.sketch) some)

pub returns-clause-kmin : goal.returns-clause-kmin
returns-clause-kmin g c = rw (← c.self.view_is, c.of_state.ensures) (λ lg_k seed hashes is ordered.
    answer-kmin (2 ^ lg_k) c.self.inside.state.map.seed_hash c.args.ordered (sketch_value c.self.inside.state) c.in_ok-state.state hashes c.in_ok-state.ensures.ok ordered is.no_more (sketch-part lg_k MAX_THETA seed c.self.inside.state hashes is.sketch))
