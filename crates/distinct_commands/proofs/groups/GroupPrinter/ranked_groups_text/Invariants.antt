use Rattle.std.proofs.Common.{ℕ, ◌≡◌, List, ◌++◌}
use Rattle.core_compact.specs.CompactState.{Compact}
use Rattle.distinct_arguments.specs.Faults.{options_of}
use Rattle.distinct_commands.specs.Groups.{counted_names, group_estimate, group_line}
use Rattle.distinct_commands.specs.Ranked.{HasTexts}
use Rattle.distinct_commands.proofs.groups.GroupPrinter.ranked_groups_text.Given as goal

-- the groups so far have their lines, and the others that are counted are left
abbrev pub invariant-loop : goal.invariant-loop
invariant-loop g l = record {
  sound : g.G.SketchedGroups.is_sound l.groups;
  printed : (sketch : List ℕ → Compact ℕ) (names : List (List ℕ)) → g.G.SketchedGroups.lists sketch names l.fn.groups →
      (done left : List (List ℕ)) × g.G.SketchedGroups.lists sketch left l.groups
      × (counted_names (options_of l.self.options.now) sketch names ≡ done ++ counted_names (options_of l.self.options.now) sketch left)
      × HasTexts (group_estimate (options_of l.self.options.now) sketch) (λ name. group_line l.self.listing (options_of l.self.options.now) name (sketch name)) done l.ranked.items;
}
