use Rattle.std.proofs.Common.{ℕ, ◌≡◌, List, ◌++◌}
use Rattle.core_compact.specs.CompactState.{Compact}
use Rattle.distinct_arguments.specs.Faults.{options_of}
use Rattle.distinct_commands.specs.Groups.{counted_names, groups_text}
use Rattle.distinct_commands.specs.Ranked.{first_items}
use Rattle.distinct_commands.proofs.groups.GroupPrinter.groups_text.Given as goal

-- the lines so far, followed by those of the groups that are left and for which there is room, are all lines
abbrev pub invariant-loop : goal.invariant-loop
invariant-loop g l = record {
  sound : g.G.SketchedGroups.is_sound l.groups;
  printed : (sketch : List ℕ → Compact ℕ) (names : List (List ℕ)) → g.G.SketchedGroups.lists sketch names l.fn.groups →
      (left : List (List ℕ)) × g.G.SketchedGroups.lists sketch left l.groups
      × (groups_text l.self.listing (options_of l.self.options.now) sketch (first_items (options_of l.self.options.now).most (counted_names (options_of l.self.options.now) sketch names))
      ≡ l.printed.items ++ groups_text l.self.listing (options_of l.self.options.now) sketch (first_items l.room (counted_names (options_of l.self.options.now) sketch left)));
}
