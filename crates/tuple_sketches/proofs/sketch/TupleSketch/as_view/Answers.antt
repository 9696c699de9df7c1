use Rattle.std.proofs.Common.{◌^◌, sym, subst}
use Rattle.core_state.specs.Updatable.{sketch_value}
use Rattle.tuple_sketches.specs.Streams.{IsPartOf, IsSampleOf}
use Rattle.tuple_sketches.proofs.Streams.{sketch-part, sample-of}
use Rattle.tuple_sketches.proofs.sketch.TupleSketch.as_view.Goals as goal

pub returns-clause-part : goal.returns-clause-part
returns-clause-part g c lg_k start seed given is = subst (λ value. IsPartOf (2 ^ lg_k) start value given) (sym c.of_state.ensures.value) (sketch-part lg_k start seed c.args.self.now.state given is)

pub returns-clause-sample : goal.returns-clause-sample
returns-clause-sample g c lg_k start seed given is = subst (λ value. IsSampleOf value given) (sym c.of_state.ensures.value) (sample-of (2 ^ lg_k) start (sketch_value c.args.self.now.state) given (sketch-part lg_k start seed c.args.self.now.state given is))
