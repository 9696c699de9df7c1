use Rattle.std.proofs.Common.{◌≡◌, ◌+◌, ◌-◌, ◌≤◌, ◌^◌, map}
use Rattle.core_slots.specs.SlotLayout.{HasOthers}
use Rattle.core_slots.proofs.paths.steps_to_free.Given as goal

-- the slots before this step have other hashes
abbrev pub invariant-loop-lg : goal.invariant-loop-lg
invariant-loop-lg g l =
    (l.looks + l.known ≡ l.initial.looks + l.steps) × (l.known ≤ l.steps) × (l.steps ≤ 2 ^ l.lg) × HasOthers g.E.SketchEntry.key l.lg (map g.E.PathEntry.content l.slots) l.hash l.steps

-- the slots not looked at
abbrev pub decreases-loop-lg : goal.decreases-loop-lg
decreases-loop-lg g l = 2 ^ l.lg - l.steps
