use Rattle.std.proofs.Common.{◌≡◌, ℕ, List, ◌++◌, length}
use Rattle.keys_sums.specs.Amounts.{IsOpenAddend}
use Rattle.keys_sums.specs.Reading.{HasTaken}
use Rattle.keys_sums.proofs.summing.take_block.Given as goal

-- the bytes so far, followed by the rest, are the block, and their lines are added
abbrev pub invariant-loop-piece : goal.invariant-loop-piece
invariant-loop-piece g l =
    (taken : List ℕ) × (l.fn.block ≡ taken ++ l.rest)
    × ((front : List ℕ) → IsOpenAddend l.hashing l.amount front l.fn.last → HasTaken l.hashing l.amount front taken l.fn.summation l.summation l.last l.fn.count l.count)

abbrev pub decreases-loop-piece : goal.decreases-loop-piece
decreases-loop-piece g l = length l.rest
