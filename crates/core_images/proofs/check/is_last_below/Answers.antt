use Rattle.std.proofs.Common.{ltb, ◌∙◌, ap}
use Rattle.core_images.proofs.AscendingTests.{last_decides}
use Rattle.core_images.proofs.check.is_last_below.Goals as goal

pub returns-in-Some : goal.returns-in-Some
returns-in-Some g c =
    ap (λ n. ltb n c.args.theta) c.hash.ensures ∙ last_decides g.E.SketchEntry.key c.args.theta c.args.entries.now c.in-Some.entry.now (c.in-Some.ensures).value c.requires
