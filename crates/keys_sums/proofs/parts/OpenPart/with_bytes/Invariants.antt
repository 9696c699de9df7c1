use Rattle.std.proofs.Common.{◌≡◌, ℕ, List, ◌++◌, length}
use Rattle.keys_sums.specs.Parts.{IsOpenPart}
use Rattle.keys_sums.proofs.parts.OpenPart.with_bytes.Given as goal

-- the bytes so far, followed by the rest, are all bytes, and the state is that after them
abbrev pub invariant-loop-byte : goal.invariant-loop-byte
invariant-loop-byte g l = (taken : List ℕ) × (l.bytes ≡ taken ++ l.rest) × ((front : List ℕ) → IsOpenPart g.C.Collected.is_of l.key front l.fn.self → IsOpenPart g.C.Collected.is_of l.key (front ++ taken) l.state)

abbrev pub decreases-loop-byte : goal.decreases-loop-byte
decreases-loop-byte g l = length l.rest
