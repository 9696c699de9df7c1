use Rattle.std.proofs.Common.{◌≡◌, ℕ, ap, ◌∙◌, subst, sym, Option}
use Rattle.std.specs.Prelude.{unwrap_or}
use Rattle.std.proofs.lemmas.Result.{err_from_is_err_and}
use Rattle.sketch_base.specs.Seed.{seed_hash}
use Rattle.core_images.specs.Head.{length_of}
use Rattle.core_images.proofs.ReadEntries.{unread_weaker}
use Rattle.theta_sketches.specs.Image.{BeginsWith}
use Rattle.theta_sketches.proofs.ImageLayouts.{whole_layout, layout_from, layout_to, told}
use Rattle.theta_sketches.proofs.compact_sketch.CompactThetaSketch.read_with_seed.Goals as goal

pub read_after_preamble-requires : goal.read_after_preamble-requires
read_after_preamble-requires g c =
    let layout = rw (c.reader_seed_hash-seed_hash.ensures, c.theta_head-head.ensures) at c.layout_of-layout.ensures in
    rw layout (whole_layout c.args.bytes.now (seed_hash c.args.seed))

pub returns-in_err-state-clause-flawed : goal.returns-in_err-state-clause-flawed
returns-in_err-state-clause-flawed g c =
    let p = err_from_is_err_and c.from_residual.result c.from_residual.ensures.1 in
    let layout = rw (c.reader_seed_hash-seed_hash.ensures, c.theta_head-head.ensures) at c.layout_of-layout.ensures in
    let found = rw (layout, c.reader_seed_hash-seed_hash.ensures) at c.in_err-state.ensures in
    rw (p.1, p.2) (unread_weaker _ c.in_err-state.field-0.0 (λ read. (read.0, layout_from c.args.bytes.now (seed_hash c.args.seed) read.0 read.1)) found)

pub returns-clause-ok : goal.returns-clause-ok
returns-clause-ok g c =
    let layout = rw (c.reader_seed_hash-seed_hash.ensures, c.theta_head-head.ensures) at c.layout_of-layout.ensures in
    let found = rw (layout, c.reader_seed_hash-seed_hash.ensures) at c.in_ok-state.ensures in
    rw c.of_state.ensures (layout_to c.args.bytes.now (seed_hash c.args.seed) c.in_ok-state.state found)

pub returns-clause-begins : goal.returns-clause-begins
returns-clause-begins g c =
    let layout = rw (c.reader_seed_hash-seed_hash.ensures, c.theta_head-head.ensures) at c.layout_of-layout.ensures in
    let found = rw (layout, c.reader_seed_hash-seed_hash.ensures) at c.in_ok-state.ensures in
    let it = told c.args.bytes.now (seed_hash c.args.seed) c.in_ok-state.state (layout_to c.args.bytes.now (seed_hash c.args.seed) c.in_ok-state.state found) in
    let length : c.length_of.result ≡ length_of c.theta_head-head.result = c.length_of.ensures in
    let known = length ∙ ap length_of c.theta_head-head.ensures ∙ it.begins.size_is in
    let same : c.unwrap_or-length.result ≡ it.head.length = c.unwrap_or-length.ensures ∙ ap (λ (o : Option ℕ). unwrap_or o 0) known in
    rw (same, c.of_state.ensures) it.begins
