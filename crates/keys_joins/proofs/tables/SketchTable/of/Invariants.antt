use Rattle.std.proofs.Common.{ℕ, ◌≡◌, List, ◌++◌}
use Rattle.keys_joins.specs.Tables.{FileGroups, HasSketchesOf}
use Rattle.keys_joins.proofs.tables.SketchTable.of.Given as goal

-- the map has the sketches of the groups that were taken, and the other groups are left
abbrev pub invariant-loop : goal.invariant-loop
invariant-loop g l = record {
  sound : g.G.SketchedGroups.is_sound l.groups;
  table : (file : FileGroups) → g.G.SketchedGroups.lists file.sketch file.names l.fn.groups →
      (done left : List (List ℕ)) × g.G.SketchedGroups.lists file.sketch left l.groups × (file.names ≡ done ++ left) × HasSketchesOf done file.sketch l.map;
}
