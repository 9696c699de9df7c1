use Rattle.std.proofs.Common.{sym, subst}
use Rattle.core_slots.specs.Entry.{tuple_key}
use Rattle.core_streams.proofs.WholeMaps.{viewed}
use Rattle.tuple_sketches.specs.Streams.{IsPartOf, IsSampleOf}
use Rattle.tuple_sketches.proofs.compact_sketch.CompactTupleSketch.as_view.Goals as goal

pub returns-clause-part : goal.returns-clause-part
returns-clause-part g c = rw (← c.self.view_is) (λ k start given is.
    subst (λ value. IsPartOf k start value given) (sym (viewed tuple_key c.of_compact.result c.self.inside.state c.of_compact.ensures.shows c.of_compact.ensures.sequence)) is)

pub returns-clause-sample : goal.returns-clause-sample
returns-clause-sample g c = rw (← c.self.view_is) (λ given is.
    subst (λ value. IsSampleOf value given) (sym (viewed tuple_key c.of_compact.result c.self.inside.state c.of_compact.ensures.shows c.of_compact.ensures.sequence)) is)
