use Rattle.std.proofs.Common.{◌≡◌, ◌&&◌, drop, map}
use Rattle.core_images.specs.Check.{ascends_from}
use Rattle.core_images.proofs.check.ascends_from_zero.Given as goal

-- the rest ascends from the last hash, and all before it ascended, exactly if all ascend from 0
abbrev pub invariant-loop-entry : goal.invariant-loop-entry
invariant-loop-entry g l = (l.ascends && ascends_from l.last (map g.E.SketchEntry.key (drop l.entry-index l.entries))) ≡ ascends_from 0 (map g.E.SketchEntry.key l.entries)
