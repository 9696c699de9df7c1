use Rattle.std.proofs.Common.{◌≡◌, ◌+◌, ◌*◌, ◌≤◌, ◌^◌, ◌++◌, [], ℕ, length, map}
use Rattle.core_slots.specs.SlotLayout.{filled}
use Rattle.core_slots.specs.Rounds.{IsInRound}
use Rattle.core_slots.proofs.SharedPaths.{ArePassed}
use Rattle.core_slots.proofs.paths.put_along_paths.Given as goal

-- some entries are put, the others wait, and the first slots on the path of the last one put are taken
abbrev pub invariant-loop-entry : goal.invariant-loop-entry
invariant-loop-entry g l =
    let key = g.E.SketchEntry.key in
    let content = g.E.PathEntry.content in
    let begun = filled (map content l.fn.slots) in
    (put : ℕ) × (l.placed + length begun ≡ l.fn.placed + put) × (l.fn.looks + put ≤ l.looks + length begun) × (2 * l.looks + length begun * (length begun + 1) ≤ 2 * l.fn.looks + put * (put + 1))
    × IsInRound key l.lg (filled (map content l.fn.left.items) ++ begun) [] (filled (map content l.left.items)) (map content l.slots) 0 0 put 0
    × ArePassed l.lg (map content l.slots) l.last l.taken × (l.taken ≤ 2 ^ l.lg)

-- the waiting slots
abbrev pub decreases-loop-entry : goal.decreases-loop-entry
decreases-loop-entry g l = length l.left.items
