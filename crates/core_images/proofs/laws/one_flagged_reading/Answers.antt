use Rattle.core_images.specs.Head.{flagged_head}
use Rattle.core_images.proofs.ImageLayouts.{flagged_from, heads_one}
use Rattle.core_images.proofs.laws.one_flagged_reading.Goals as goal

pub returns : goal.returns
returns g c bytes longs h r s p q =
    let key = g.X.SketchEntry.key in
    let spells = g.X.ImageEntry.spells in
    heads_one key spells bytes h g.met.X.ImageEntry.one_spelling (flagged_head 8 bytes longs) r s (flagged_from key spells bytes h 8 longs p) (flagged_from key spells bytes h 8 longs q)
