use Rattle.std.proofs.Common.{◌≡◌, ◌+◌, ◌-◌, ◌*◌, ◌<◌, ◌≤◌, ◌^◌, ◌++◌, [], ℕ, length, map}
use Rattle.core_slots.specs.SlotLayout.{filled}
use Rattle.core_slots.specs.Rounds.{IsInRound}
use Rattle.core_slots.proofs.Settled.{in_front, in_wait}
use Rattle.core_slots.proofs.placing.settle.Given as goal

-- the entries put before the round
abbrev pub invariant-rounds : goal.invariant-rounds
invariant-rounds g l =
    let key = g.E.SketchEntry.key in
    let content = g.E.PathEntry.content in
    (put : ℕ) × (looked : ℕ) × (l.placed + length (filled (map content l.initial.slots)) ≡ l.initial.placed + put) × (l.initial.looks + put ≤ l.looks + length (filled (map content l.initial.slots)))
    × (l.looks ≤ l.initial.looks + looked + l.round * (0 + length (in_front content l.count l.left)) + 0)
    × IsInRound key l.lg (filled (map content l.initial.left) ++ filled (map content l.initial.slots)) [] (in_front content l.count l.left) (map content l.slots) (length (filled (map content l.initial.slots))) l.round put looked
    × (0 < l.count → l.round < 2 ^ l.lg) × (l.count ≤ length l.left) × (length l.left ≡ length l.initial.left)

-- and those put before it reaches a place
abbrev pub invariant-look_on : goal.invariant-look_on
invariant-look_on g l =
    let key = g.E.SketchEntry.key in
    let content = g.E.PathEntry.content in
    (put : ℕ) × (looked : ℕ) × (l.placed + length (filled (map content l.fn.slots)) ≡ l.fn.placed + put) × (l.fn.looks + put ≤ l.looks + length (filled (map content l.fn.slots)))
    × (l.looks ≤ l.fn.looks + looked + l.round * (length (in_front content l.kept l.left) + length (in_wait content l.at l.count l.left)) + length (in_front content l.kept l.left))
    × IsInRound key l.lg (filled (map content l.fn.left) ++ filled (map content l.fn.slots)) (in_front content l.kept l.left) (in_wait content l.at l.count l.left) (map content l.slots) (length (filled (map content l.fn.slots))) l.round put looked
    × (length l.left ≡ length l.initial.left) × (l.kept ≤ l.at) × (length (in_front content l.kept l.left) ≡ l.kept)

-- how many rounds are left at most
abbrev pub decreases-rounds : goal.decreases-rounds
decreases-rounds g l = 2 ^ l.lg - l.round
