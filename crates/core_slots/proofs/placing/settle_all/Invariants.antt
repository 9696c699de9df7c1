use Rattle.std.proofs.Common.{◌≡◌, ◌+◌, ◌*◌, ◌≤◌, [], ℕ, length, map}
use Rattle.core_slots.specs.SlotLayout.{filled}
use Rattle.core_slots.specs.Rounds.{IsInRound}
use Rattle.core_slots.proofs.placing.settle_all.Given as goal

-- some entries are put, and the others wait
abbrev pub invariant-loop-lg : goal.invariant-loop-lg
invariant-loop-lg g l =
    let key = g.E.SketchEntry.key in
    let content = g.E.PathEntry.content in
    (put : ℕ) × (l.placed ≡ l.initial.placed + put) × (l.initial.looks + put ≤ l.looks) × (2 * l.looks ≤ 2 * l.initial.looks + put * (put + 1))
    × IsInRound key l.lg (filled (map content l.initial.left.items)) [] (filled (map content l.left.items)) (map content l.slots) 0 0 put 0

-- the waiting slots
abbrev pub decreases-loop-lg : goal.decreases-loop-lg
decreases-loop-lg g l = length l.left.items
