use Rattle.std.proofs.Common.{ℕ, ◌≡◌, List, ◌++◌}
use Rattle.core_compact.specs.CompactState.{Compact}
use Rattle.keys_groups.specs.United.{sketched_text}
use Rattle.keys_groups.proofs.sketched.sketched_text.Given as goal

-- the lines so far, followed by those of the groups that are left, are all lines
abbrev pub invariant-loop : goal.invariant-loop
invariant-loop g l = record {
  sound : g.G.SketchedGroups.is_sound l.groups;
  written : (sketch : List ℕ → Compact ℕ) (names : List (List ℕ)) → g.G.SketchedGroups.lists sketch names l.fn.groups →
      (left : List (List ℕ)) × g.G.SketchedGroups.lists sketch left l.groups × (sketched_text sketch names ≡ l.text.items ++ sketched_text sketch left);
}
