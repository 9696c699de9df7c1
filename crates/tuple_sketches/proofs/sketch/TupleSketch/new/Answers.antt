use Rattle.core_streams.proofs.WholeMaps.{start_fits}
use Rattle.tuple_sketches.proofs.Streams.{sketch-made}
use Rattle.tuple_sketches.proofs.sketch.TupleSketch.new.Goals as goal

pub returns-clause-given : goal.returns-clause-given
returns-clause-given g c = sketch-made c.args.settings.lg_k c.args.settings.starting_theta c.args.settings.seed c.in_ok-state.state (start_fits c.args.settings.lg_k c.args.settings.starting_theta c.args.settings.seed c.in_ok-state.ensures.refused) c.in_ok-state.ensures.made
