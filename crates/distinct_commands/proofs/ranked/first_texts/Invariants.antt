use Rattle.std.proofs.Common.{◌≡◌, ◌++◌, length}
use Rattle.std.specs.Prelude.{flat_map}
use Rattle.distinct_commands.specs.Ranked.{first_items}
use Rattle.distinct_commands.proofs.ranked.first_texts.Given as goal

-- the texts so far, followed by those of the groups that are left and for which there is room, are all texts
abbrev pub invariant-loop-group : goal.invariant-loop-group
invariant-loop-group l =
    flat_map (λ group. group.text.items) (first_items l.fn.most l.fn.groups) ≡ l.text.items ++ flat_map (λ group. group.text.items) (first_items l.room l.left)

abbrev pub decreases-loop-group : goal.decreases-loop-group
decreases-loop-group l = length l.left
