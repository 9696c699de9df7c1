use Rattle.std.proofs.Common.{◌∙◌}
use Rattle.core_laws.specs.Entries.{hash_key}
use Rattle.core_compact.specs.CompactState.{IsCompact}
use Rattle.theta_sketches.specs.Image.{Reads, written}
use Rattle.plan_evaluation.proofs.families.WrittenAndRead.{same_read, memory_alone}
use Rattle.plan_evaluation.proofs.theta.sketch_of.Goals as goal

pub returns-clause-same : goal.returns-clause-same
returns-clause-same g c = λ s compact same image. same_read (IsCompact hash_key) written Reads c.read_again.ensures c.one_reading.ensures s c.args.seed c.as_slice.result.now compact same c.requires.seeded (c.as_slice.ensures.value ∙ image)
    c.deserialize_with_seed.result c.deserialize_with_seed.ensures.ok

pub returns-clause-refused : goal.returns-clause-refused
returns-clause-refused g c = λ s compact same image. memory_alone (IsCompact hash_key) written Reads c.read_again.ensures c.one_reading.ensures s c.args.seed c.as_slice.result.now compact same c.requires.seeded (c.as_slice.ensures.value ∙ image)
    c.deserialize_with_seed.result c.deserialize_with_seed.ensures.refused
