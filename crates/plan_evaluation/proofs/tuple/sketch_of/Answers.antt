use Rattle.std.proofs.Common.{◌∙◌}
use Rattle.core_compact.specs.CompactState.{IsCompact}
use Rattle.core_slots.specs.Entry.{tuple_key}
use Rattle.tuple_sketches.specs.Image.{Reads, HasValues, written}
use Rattle.plan_evaluation.proofs.families.WrittenAndRead.{same_read, memory_alone}
use Rattle.plan_evaluation.proofs.tuple.sketch_of.Goals as goal

pub returns-clause-same : goal.returns-clause-same
returns-clause-same g c = λ s compact values same image.
    same_read (λ t. IsCompact tuple_key t × HasValues g.S.TupleSummaryValue.is_value t) (written g.S.TupleSummaryValue.text) (Reads g.S.TupleSummaryValue.spells) (λ t rest sound low small. c.read_again.ensures t rest sound.0 sound.1 low small) c.one_reading.ensures
    s c.args.seed c.as_slice.result.now (compact, values) same c.requires.seeded (c.as_slice.ensures.value ∙ image) c.deserialize_with_seed.result c.deserialize_with_seed.ensures.ok

pub returns-clause-refused : goal.returns-clause-refused
returns-clause-refused g c = λ s compact values same image.
    memory_alone (λ t. IsCompact tuple_key t × HasValues g.S.TupleSummaryValue.is_value t) (written g.S.TupleSummaryValue.text) (Reads g.S.TupleSummaryValue.spells) (λ t rest sound low small. c.read_again.ensures t rest sound.0 sound.1 low small) c.one_reading.ensures
    s c.args.seed c.as_slice.result.now (compact, values) same c.requires.seeded (c.as_slice.ensures.value ∙ image) c.deserialize_with_seed.result c.deserialize_with_seed.ensures.refused
