use Rattle.std.proofs.Common.{sym, subst}
use Rattle.theta_sketches.specs.Streams.{IsPartOf, IsSampleOf}
use Rattle.core_laws.specs.Entries.{hash_key}
use Rattle.core_streams.proofs.WholeMaps.{viewed}
use Rattle.theta_sketches.proofs.compact_sketch.CompactThetaSketch.as_view.Goals as goal

pub returns-clause-part : goal.returns-clause-part
returns-clause-part g c = rw (← c.self.view_is) (λ k start hashes is.
    subst (λ value. IsPartOf k start value hashes) (sym (viewed hash_key c.of_compact.result c.self.inside.state c.of_compact.ensures.shows c.of_compact.ensures.sequence)) is)

pub returns-clause-sample : goal.returns-clause-sample
returns-clause-sample g c = rw (← c.self.view_is) (λ hashes is.
    subst (λ value. IsSampleOf value hashes) (sym (viewed hash_key c.of_compact.result c.self.inside.state c.of_compact.ensures.shows c.of_compact.ensures.sequence)) is)
