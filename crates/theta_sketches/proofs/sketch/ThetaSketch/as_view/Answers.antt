use Rattle.std.proofs.Common.{◌^◌, sym, ap, ◌∙◌, subst}
use Rattle.core_state.specs.Updatable.{sketch_value}
use Rattle.theta_sketches.specs.Streams.{IsPartOf, IsSampleOf}
use Rattle.theta_sketches.proofs.Streams.{sketch-part, sample-of}
use Rattle.theta_sketches.proofs.sketch.ThetaSketch.as_view.Goals as goal

pub returns-clause-part : goal.returns-clause-part
returns-clause-part g c lg_k start seed hashes is = subst (λ value. IsPartOf (2 ^ lg_k) start value hashes) (sym (c.of_state.ensures.value ∙ ap sketch_value c.self.view_is)) (sketch-part lg_k start seed c.args.self.now hashes is)

pub returns-clause-sample : goal.returns-clause-sample
returns-clause-sample g c lg_k start seed hashes is = subst (λ value. IsSampleOf value hashes) (sym (c.of_state.ensures.value ∙ ap sketch_value c.self.view_is)) (sample-of (2 ^ lg_k) start (sketch_value c.args.self.now) hashes (sketch-part lg_k start seed c.args.self.now hashes is))
