use Rattle.std.proofs.Common.{refl, arith}
use Rattle.core_laws.proofs.cuts.Cuts.{cut_few, cut_more, below_all, rank_all}
use Rattle.core_operators.proofs.lists.cut_entries.Goals as goal

pub returns : goal.returns
returns g c =
    let all = rank_all g.E.SketchEntry.key c.args.entries.now.items c.args.theta c.requires.below_theta in
    let cut = cut_more g.E.SketchEntry.key c.args.nominal c.args.entries.now.items c.args.theta c.index.result.now c.requires.ascending (omega (arith, all, c.len.ensures)) in
    rw (cut, c.truncate.ensures.items, c.hash-cut_theta.ensures, ← c.index.ensures) refl

pub returns-then-len-nominal : goal.returns-then-len-nominal
returns-then-len-nominal g c =
    let all = rank_all g.E.SketchEntry.key c.args.entries.now.items c.args.theta c.requires.below_theta in
    rw (cut_few g.E.SketchEntry.key c.args.nominal c.args.entries.now.items c.args.theta c.requires.ascending (omega (arith, all, c.len.ensures)), below_all g.E.SketchEntry.key c.args.entries.now.items c.args.theta c.requires.below_theta) refl
