use Rattle.std.proofs.Common.{ℕ, ◌≡◌, List, ◌++◌}
use Rattle.keys_joins.specs.Tables.{FileGroups, AreTablesOf}
use Rattle.keys_joins.specs.Joins.{joined_text, IsOfSeed}
use Rattle.keys_joins.proofs.joins.joined_text.Given as goal

-- the lines so far, followed by those of the groups that are left, are all lines
abbrev pub invariant-loop : goal.invariant-loop
invariant-loop g l = record {
  sound : g.G.SketchedGroups.is_sound l.first;
  written : (file : FileGroups) (files : List FileGroups) → g.G.SketchedGroups.lists file.sketch file.names l.fn.first → IsOfSeed l.seed file → AreTablesOf files l.others →
      (left : List (List ℕ)) × g.G.SketchedGroups.lists file.sketch left l.first
      × (joined_text l.join l.seed file files file.names ≡ l.text.items ++ joined_text l.join l.seed file files left);
}
