use Rattle.std.proofs.Common.{map, sym, ap, ◌∙◌, arith}
use Rattle.std.proofs.lemmas.List.{length-map}
use Rattle.core_laws.specs.Maps.{map_of}
use Rattle.core_laws.specs.Cuts.{retained}
use Rattle.core_slots.specs.SlotLayout.{filled}
use Rattle.core_slots.proofs.Ranks.{apart-hashes, cut_least, cut_of_few, ranked_low}
use Rattle.core_table.proofs.answering.cut_theta.Goals as goal

pub returns-then-count-nominal-clause-cut : goal.returns-then-count-nominal-clause-cut
returns-then-count-nominal-clause-cut g c =
    cut_of_few g.E.SketchEntry.key c.args.nominal c.args.theta (filled (map g.E.PathEntry.content c.args.slots.now)) c.requires.apart (omega (arith, c.if-count-nominal.true, c.requires.counted))

pub hash_of_rank-requires-clause-apart : goal.hash_of_rank-requires-clause-apart
hash_of_rank-requires-clause-apart g c = apart-hashes g.E.SketchEntry.key (filled (map g.E.PathEntry.content c.args.slots.now)) c.requires.apart

pub hash_of_rank-requires-clause-counted : goal.hash_of_rank-requires-clause-counted
hash_of_rank-requires-clause-counted g c = omega (arith, length-map (filled (map g.E.PathEntry.content c.args.slots.now)) g.E.SketchEntry.key, c.requires.counted)

pub returns-clause-cut : goal.returns-clause-cut
returns-clause-cut g c =
    let key = g.E.SketchEntry.key in
    let content = filled (map g.E.PathEntry.content c.args.slots.now) in
    cut_least key c.args.nominal c.args.theta c.in_ok-hash.hash content c.requires.apart c.in_ok-hash.ensures.ranked ∙ ap (retained key (map_of key content)) (sym c.min.ensures)

pub returns-clause-low : goal.returns-clause-low
returns-clause-low g c =
    let key = g.E.SketchEntry.key in
    let content = filled (map g.E.PathEntry.content c.args.slots.now) in
    omega (arith, c.min.ensures, c.requires.low, ranked_low key c.args.nominal c.in_ok-hash.hash content c.in_ok-hash.ensures.ranked c.requires.nonzero)
