use Rattle.std.proofs.Common.{◌≡◌, ◌++◌, ◌/◌, ℕ, List, rules, map, length, ap, sym, ◌∙◌}
use Rattle.std.proofs.lemmas.Iterator.{YieldsList-from_slice, YieldsList-from_map}
use Rattle.std.proofs.lemmas.Iterator.Adapters.{items_from_extend}
use Rattle.std.proofs.lemmas.Simd.{map-map}
use Rattle.std.proofs.Math.Nat.{le-div_iff_mul-le}
use Rattle.std.specs.Slice.Iter.{iter_rest}
use Rattle.core_images.specs.Check.{ascends_from}
use Rattle.core_images.proofs.Chunks.{chunks_held, block_mapped, block_compared, all_mapped, all_compared}
use Rattle.core_images.proofs.blocks.read_and_compare_in_blocks.Goals as goal

pub returns-clause-ok : goal.returns-clause-ok
returns-clause-ok g c =
    let fixed = g.E.FixedEntry in
    let bytes = c.args.bytes.now in
    let most = length bytes / g.row.N in
    let none : length c.loop-rest.rest.now ≡ 0 = search rules in
    let read = all_mapped fixed.entry_of c.loop-rest.entries.items (map fixed.entry_of c.in_ok-rest.rest.now) c.loop-rest.rest.now none c.loop-rest.invariant.0 in
    let items = read ∙ ap (map fixed.entry_of) c.in_ok-rest.ensures.ok in
    let enough = c.in_ok-rest.ensures.enough in
    rw items (chunks_held g.row.N fixed.spells fixed.entry_of g.met.E.FixedEntry.spelled c.args.count most bytes enough ((le-div_iff_mul-le c.requires.some).0 enough))

pub returns-clause-ascends : goal.returns-clause-ascends
returns-clause-ascends g c =
    let fixed = g.E.FixedEntry in
    let rest = c.loop-rest.rest.now in
    let texts = c.in_ok-rest.rest.now in
    let key = λ (text : List ℕ). g.E.SketchEntry.key (fixed.entry_of text) in
    let none : length rest ≡ 0 = search rules in
    let read = all_mapped fixed.entry_of c.loop-rest.entries.items (map fixed.entry_of texts) rest none c.loop-rest.invariant.0 in
    let hashes = ap (map g.E.SketchEntry.key) read ∙ map-map g.E.SketchEntry.key fixed.entry_of texts in
    all_compared key c.loop-rest.ascends (ascends_from 0 (map key texts)) c.loop-rest.last rest none c.loop-rest.invariant.1 ∙ ap (ascends_from 0) (sym hashes)

pub loop-rest-preserved : goal.loop-rest-preserved
loop-rest-preserved g c =
    let fixed = g.E.FixedEntry in
    let rest = c.loop-rest.rest.now in
    let key = λ (text : List ℕ). g.E.SketchEntry.key (fixed.entry_of text) in
    let block = c.split_at.ensures.front in
    let others = c.split_at.ensures.back in
    let source = YieldsList-from_slice _ (ap iter_rest c.map-found.ensures.source ∙ c.iter.ensures.rest ∙ block) in
    let all = items_from_extend c.extend.result c.extend.ensures.ran (YieldsList-from_map _ fixed.entry_of source c.map-found.ensures.closure (λ x r q k. search rules)) in
    let appended = rw c.in_ok-extend.was at all in
    let compared = rw block at c.compare_block-above.ensures in (
      ap (λ l. c.extend.new.self.items ++ map fixed.entry_of l) others ∙ block_mapped fixed.entry_of _ c.loop-rest.entries.items c.extend.new.self.items rest appended.0 ∙ c.loop-rest.invariant.0,
      rw others (block_compared key _ c.loop-rest.ascends c.compare_block-above.result.0 c.loop-rest.last c.compare_block-above.result.1 rest compared ∙ c.loop-rest.invariant.1),
    )
