use Rattle.std.proofs.Common.{◌≡◌, ◌≤◌, ℕ, List, length, ap, ◌∙◌}
use Rattle.std.specs.Prelude.{unwrap_or}
use Rattle.std.proofs.lemmas.Result.{err_from_is_err_and}
use Rattle.sketch_base.specs.Seed.{seed_hash}
use Rattle.core_images.specs.Head.{length_of}
use Rattle.core_images.proofs.ReadEntries.{unread_weaker}
use Rattle.tuple_sketches.proofs.ImageLayouts.{whole_layout, layout_from, layout_to, length_known}
use Rattle.tuple_sketches.proofs.image.read_sized.Goals as goal

pub read_after_preamble-requires : goal.read_after_preamble-requires
read_after_preamble-requires g c =
    let layout = rw (c.reader_seed_hash-seed_hash.ensures, c.tuple_head-head.ensures) at c.layout_of-layout.ensures in
    rw layout (whole_layout g.S.TupleSummaryValue.spells c.args.bytes.now (seed_hash c.args.seed) c.args.size)

pub returns-in_err-state-clause-flawed : goal.returns-in_err-state-clause-flawed
returns-in_err-state-clause-flawed g c =
    let p = err_from_is_err_and c.from_residual.result c.from_residual.ensures.1 in
    let layout = rw (c.reader_seed_hash-seed_hash.ensures, c.tuple_head-head.ensures) at c.layout_of-layout.ensures in
    let found = rw (layout, c.reader_seed_hash-seed_hash.ensures) at c.in_err-state.ensures in
    rw (p.1, p.2) (unread_weaker _ c.in_err-state.field-0.0 (λ read. (read.0, layout_from g.S.TupleSummaryValue.spells c.args.bytes.now (seed_hash c.args.seed) c.args.size c.requires.long read.0 read.1)) found)

pub returns-clause-ok : goal.returns-clause-ok
returns-clause-ok g c =
    let layout = rw (c.reader_seed_hash-seed_hash.ensures, c.tuple_head-head.ensures) at c.layout_of-layout.ensures in
    let found = rw (layout, c.reader_seed_hash-seed_hash.ensures) at c.in_ok-state.ensures in
    rw c.of_state.ensures (layout_to g.S.TupleSummaryValue.spells c.args.bytes.now (seed_hash c.args.seed) c.args.size c.in_ok-state.state found)

pub returns-clause-length : goal.returns-clause-length
returns-clause-length g c =
    let layout = rw (c.reader_seed_hash-seed_hash.ensures, c.tuple_head-head.ensures) at c.layout_of-layout.ensures in
    let found = rw (layout, c.reader_seed_hash-seed_hash.ensures) at c.in_ok-state.ensures in
    length_known g.S.TupleSummaryValue.spells c.args.bytes.now (seed_hash c.args.seed) c.args.size c.in_ok-state.state c.unwrap_or-length.result found (c.unwrap_or-length.ensures ∙ ap (λ o. unwrap_or o 0) (c.length_of.ensures ∙ ap length_of c.tuple_head-head.ensures))
