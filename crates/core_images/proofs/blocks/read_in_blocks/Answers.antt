use Rattle.std.proofs.Common.{◌≡◌, ◌++◌, rules, map, take, length, ◌/◌, ap, ◌∙◌}
use Rattle.std.proofs.lemmas.Iterator.{YieldsList-from_slice, YieldsList-from_map}
use Rattle.std.proofs.lemmas.Iterator.Adapters.{items_from_extend}
use Rattle.std.proofs.Math.Nat.{le-div_iff_mul-le}
use Rattle.std.specs.Slice.Iter.{iter_rest}
use Rattle.std.specs.Simd.{first_chunks}
use Rattle.core_images.proofs.Chunks.{chunks_held}
use Rattle.core_images.proofs.blocks.read_in_blocks.Goals as goal

pub returns-clause-ok : goal.returns-clause-ok
returns-clause-ok g c =
    let fixed = g.E.FixedEntry in
    let bytes = c.args.bytes.now in
    let most = length bytes / g.row.N in
    let texts = take c.args.count (first_chunks g.row.N most bytes) in
    let reported = c.in_ok-counted.ensures.ok in
    let source = YieldsList-from_slice texts (ap iter_rest c.map-found.ensures.source ∙ c.iter.ensures.rest ∙ reported) in
    let all = items_from_extend c.extend.result c.extend.ensures.ran (YieldsList-from_map _ fixed.entry_of source c.map-found.ensures.closure (λ x r q k. search rules)) in
    let made = rw c.in_ok-extend.was at all in
    let items : c.extend.new.self.items ≡ map fixed.entry_of texts = made.0 ∙ ap (λ l. l ++ map fixed.entry_of texts) c.in_ok-entries.ensures.items in
    let enough = c.in_ok-counted.ensures.enough in
    rw items (chunks_held g.row.N fixed.spells fixed.entry_of g.met.E.FixedEntry.spelled c.args.count most bytes enough ((le-div_iff_mul-le c.requires.some).0 enough))
