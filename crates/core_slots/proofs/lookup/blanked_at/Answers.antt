use Rattle.core_slots.proofs.Lookups.{blanked}
use Rattle.core_slots.proofs.lookup.blanked_at.Goals as goal

pub returns : goal.returns
returns g c =
    blanked g.E.SketchEntry.key g.E.PathEntry.content c.args.slots.now c.args.at c.args.hash c.hash_or_zero-content.result c.unless_same.result c.index-slots-at.result c.requires.inside c.index-slots-at.is c.hash_or_zero-content.ensures c.unless_same.ensures
