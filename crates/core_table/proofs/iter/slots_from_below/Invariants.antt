use Rattle.std.proofs.Common.{◌≡◌, ℕ, List, Option, map, length}
use Rattle.core_slots.specs.SlotLayout.{filled}
use Rattle.core_table.specs.Gathering.{from_below}
use Rattle.core_table.proofs.iter.slots_from_below.Given as goal

-- the entries in the slots in front of those left are not below theta
abbrev pub PassesHigh : {S X : Type 0} → (key : X → ℕ) → (content : S → Option X) → (theta : ℕ) → (slots left : List S) → Type 0
PassesHigh key content theta slots left = from_below key theta (filled (map content left)) ≡ from_below key theta (filled (map content slots))

-- the entries in the passed slots are not below theta
abbrev pub invariant-pass_each : goal.invariant-pass_each
invariant-pass_each g l = PassesHigh g.E.SketchEntry.key g.E.PathEntry.content l.theta l.slots l.left

-- the remaining slots
abbrev pub decreases-pass_each : goal.decreases-pass_each
decreases-pass_each g l = length l.left

-- the entries in the blocks that were passed are not below theta
abbrev pub invariant-pass_blocks : goal.invariant-pass_blocks
invariant-pass_blocks g l = PassesHigh g.E.SketchEntry.key g.E.PathEntry.content l.theta l.slots l.left

-- the remaining slots
abbrev pub decreases-pass_blocks : goal.decreases-pass_blocks
decreases-pass_blocks g l = length l.left
