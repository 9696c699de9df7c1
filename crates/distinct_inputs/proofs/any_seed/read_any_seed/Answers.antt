use Rattle.std.proofs.Common.{◌<◌, arith}
use Rattle.sketch_base.specs.Seed.{seed_hash}
use Rattle.core_images.specs.Head.{theta_head}
use Rattle.distinct_inputs.specs.AnySeed.{asked_hash}
use Rattle.distinct_inputs.proofs.AnySeeds.{read_as_asked, unread_refused}
use Rattle.theta_sketches.proofs.ImageLayouts.{whole_layout, layout_from, layout_to}
use Rattle.distinct_inputs.proofs.any_seed.read_any_seed.Goals as goal

pub read_after_preamble-requires : goal.read_after_preamble-requires
read_after_preamble-requires c =
    let layout = rw (c.asked_hash-hash.ensures, c.reader_seed_hash.ensures, c.theta_head-head.ensures) at c.layout_of-layout.ensures in
    rw layout (whole_layout c.args.image.now (asked_hash (seed_hash c.args.seed) (theta_head c.args.image.now)))

pub returns-in-Ok-clause-reads : goal.returns-in-Ok-clause-reads
returns-in-Ok-clause-reads c =
    let hash = asked_hash (seed_hash c.args.seed) (theta_head c.args.image.now) in
    let layout = rw (c.asked_hash-hash.ensures, c.reader_seed_hash.ensures, c.theta_head-head.ensures) at c.layout_of-layout.ensures in
    let found = rw (layout, c.asked_hash-hash.ensures, c.reader_seed_hash.ensures, c.theta_head-head.ensures) at c.in-Ok.ensures in
    rw c.of_state.ensures (hash, layout_to c.args.image.now hash c.in-Ok.state found)

pub returns-in-Err-clause-refused : goal.returns-in-Err-clause-refused
returns-in-Err-clause-refused c =
    let hash = asked_hash (seed_hash c.args.seed) (theta_head c.args.image.now) in
    let layout = rw (c.asked_hash-hash.ensures, c.reader_seed_hash.ensures, c.theta_head-head.ensures) at c.layout_of-layout.ensures in
    let found = rw (layout, c.asked_hash-hash.ensures, c.reader_seed_hash.ensures, c.theta_head-head.ensures) at c.in-Err.ensures in
    let nonzero : 0 < seed_hash c.args.seed = omega (arith, c.requires.seeded) in
    rw c.from.ensures (unread_refused _ c.in-Err.error (λ some.
    let read = read_as_asked c.args.image.now (seed_hash c.args.seed) nonzero some in
    (read.0, layout_from c.args.image.now hash read.0 read.1)) found)
