use Rattle.std.proofs.Common.{◌≡◌, ◌≤◌, ◌-◌, map, drop, length}
use Rattle.core_table.specs.Marks.{under}
use Rattle.core_table.proofs.Marks.{marks_in}
use Rattle.core_table.proofs.iter.marks_of.Given as goal

-- the marks of the slots behind, from the last on
abbrev pub invariant-loop-i : goal.invariant-loop-i
invariant-loop-i g l = record {
  within : l.i ≤ length l.slots;
  reported : l.marks ≡ marks_in (drop (length l.slots - l.i) (map (under g.E.SketchEntry.key l.bound g.E.PathEntry.content) l.slots));
}
