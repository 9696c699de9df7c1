use Rattle.std.proofs.Common.{◌^◌}
use Rattle.core_state.specs.Updatable.{sketch_value}
use Rattle.tuple_sketches.specs.Streams.{MAX_THETA}
use Rattle.tuple_sketches.proofs.Streams.{sketch-part, seeded, answer-part, answer-least, answer-kmin}
use Rattle.tuple_sketches.proofs.sketch.TupleSketch.compact.Goals as goal

pub returns-clause-part : goal.returns-clause-part
returns-clause-part g c = rw c.of_state.ensures (λ lg_k start seed given is.
    answer-part (2 ^ lg_k) start c.args.self.now.state.map.seed_hash c.args.ordered (sketch_value c.args.self.now.state) c.in_ok-state.state given c.in_ok-state.ensures.ok (sketch-part lg_k start seed c.args.self.now.state given is))

pub returns-clause-seeded : goal.returns-clause-seeded
returns-clause-seeded g c = rw c.of_state.ensures (λ lg_k start seed given is. seeded lg_k start seed c.args.self.now.state given c.args.ordered c.in_ok-state.state c.in_ok-state.ensures.ok is)

pub returns-clause-least : goal.returns-clause-least
returns-clause-least g c = rw c.of_state.ensures (λ lg_k start seed given is some.
    answer-least (2 ^ lg_k) start c.args.self.now.state.map.seed_hash c.args.ordered (sketch_value c.args.self.now.state) c.in_ok-state.state given c.in_ok-state.ensures.ok is.no_more (sketch-part lg_k start seed c.args.self.now.state given is.sketch) some)

pub returns-clause-kmin : goal.returns-clause-kmin
returns-clause-kmin g c = rw c.of_state.ensures (λ lg_k seed given is ordered.
    answer-kmin (2 ^ lg_k) c.args.self.now.state.map.seed_hash c.args.ordered (sketch_value c.args.self.now.state) c.in_ok-state.state given c.in_ok-state.ensures.ok ordered is.no_more (sketch-part lg_k MAX_THETA seed c.args.self.now.state given is.sketch))
