use Rattle.std.proofs.Common.{◌/◌, ◌<◌, inr, arith, length}
use Rattle.core_images.proofs.ReadEntries.{too_many}
use Rattle.core_images.proofs.blocks.counted_texts.Goals as goal

pub returns-then-texts-count-clause-refused : goal.returns-then-texts-count-clause-refused
returns-then-texts-count-clause-refused g c =
    let fixed = g.E.FixedEntry in
    let fewer : length c.args.bytes.now / g.row.N < c.args.count = omega (arith, c.if-texts-count.true, c.as_chunks.ensures.front_len) in
    inr (c.new.ensures, too_many fixed.spells g.row.N g.met.E.FixedEntry.is_long c.args.bytes.now c.args.count c.requires.some fewer)
