use Rattle.std.proofs.Common.{◌≡◌, drop, map}
use Rattle.core_images.specs.Check.{are_below}
use Rattle.core_images.proofs.check.are_below.Given as goal

-- the remaining hashes are below theta exactly if all are
abbrev pub invariant-loop-entry : goal.invariant-loop-entry
invariant-loop-entry g l = are_below l.theta (map g.E.SketchEntry.key (drop l.entry-index l.entries)) ≡ are_below l.theta (map g.E.SketchEntry.key l.entries)
