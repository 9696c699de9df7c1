use Rattle.std.proofs.Common.{◌≡◌, ℕ, ◌+◌, ◌≤◌, ◌^◌, map}
use Rattle.core_slots.specs.SlotLayout.{HasOthers}
use Rattle.core_slots.specs.Probe.{probe}
use Rattle.core_slots.proofs.slots.seek_near.Given as goal

-- the slots looked at have other hashes
abbrev pub invariant-loop-step : goal.invariant-loop-step
invariant-loop-step g l =
    (n : ℕ) × (l.looks ≡ l.initial.looks + n) × (l.at ≡ probe l.hash l.lg n) × (n ≤ 2 ^ l.lg) × HasOthers g.E.SketchEntry.key l.lg (map g.E.PathEntry.content l.slots) l.hash n × (n ≡ l._step)
