use Rattle.std.proofs.Common.{◌≡◌, take, map}
use Rattle.core_images.proofs.check.hashes_of.Given as goal

-- the hashes so far
abbrev pub invariant-loop-entry : goal.invariant-loop-entry
invariant-loop-entry g l = l.hashes.items ≡ map g.E.SketchEntry.key (take l.entry-index l.entries)
