use Rattle.std.proofs.Common.{◌≡◌, ℕ, ◌+◌, ◌-◌, ◌≤◌, ◌^◌, map}
use Rattle.core_slots.specs.SlotLayout.{HasOthers}
use Rattle.core_slots.specs.Probe.{probe}
use Rattle.core_slots.proofs.slots.seek.Given as goal

-- the slots looked at have other hashes
abbrev pub invariant-loop-entry : goal.invariant-loop-entry
invariant-loop-entry g l =
    (n : ℕ) × (l.looks ≡ l.initial.looks + n) × (l.at ≡ probe l.hash l.lg n) × (n ≤ 2 ^ l.lg) × HasOthers g.E.SketchEntry.key l.lg (map g.E.PathEntry.content l.slots) l.hash n

-- the slots not looked at
abbrev pub decreases-loop-entry : goal.decreases-loop-entry
decreases-loop-entry g l = 2 ^ l.lg - (l.looks - l.initial.looks)
