use Rattle.std.proofs.Common.{ℕ, ◌≡◌, List}
use Rattle.core_compact.specs.CompactState.{Compact}
use Rattle.distinct_arguments.specs.Faults.{options_of}
use Rattle.distinct_commands.specs.Groups.{counted_names}
use Rattle.distinct_commands.proofs.groups.GroupPrinter.next_counted.Given as goal

-- those that are counted are left
abbrev pub invariant-loop : goal.invariant-loop
invariant-loop g l = record {
  sound : g.G.SketchedGroups.is_sound l.groups;
  next : (sketch : List ℕ → Compact ℕ) (names : List (List ℕ)) → g.G.SketchedGroups.lists sketch names l.fn.groups →
      (left : List (List ℕ)) × g.G.SketchedGroups.lists sketch left l.groups
      × (counted_names (options_of l.self.options.now) sketch names ≡ counted_names (options_of l.self.options.now) sketch left);
}
