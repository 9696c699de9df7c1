use Rattle.std.proofs.Common.{◌+◌}
use Rattle.sketch_base.specs.Seed.{seed_hash}
use Rattle.tuple_sketches.proofs.ImageLayouts.{sized_entry, begins_at, ok_both}
use Rattle.tuple_sketches.proofs.compact_sketch.CompactTupleSketch.read_with_seed.Goals as goal

pub returns-clause-begins : goal.returns-clause-begins
returns-clause-begins g c =
    let spells = g.S.TupleSummaryValue.spells in
    let sized = sized_entry spells c.args.size c.requires.sized in
    ok_both c.read_sized.result (λ r reads length. begins_at spells (8 + c.args.size) sized c.args.bytes.now (seed_hash c.args.seed) r.0 r.1 reads length) c.read_sized.ensures.ok c.read_sized.ensures.length
