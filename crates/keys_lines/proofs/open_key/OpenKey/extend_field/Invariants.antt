use Rattle.std.proofs.Common.{◌≡◌, ℕ, List, ◌++◌, length}
use Rattle.keys_lines.specs.Open.{IsOpenKey}
use Rattle.keys_lines.specs.declared.key.Key.TheVariants.{Field}
use Rattle.keys_lines.proofs.open_key.OpenKey.extend_field.Given as goal

-- the bytes so far, followed by the rest, are all bytes
abbrev pub invariant-loop-piece : goal.invariant-loop-piece
invariant-loop-piece l = (taken : List ℕ) × (l.bytes ≡ taken ++ l.rest) × ((front : List ℕ) → IsOpenKey l.seed (Field l.before l.separator) front l.fn.self → IsOpenKey l.seed (Field l.before l.separator) (front ++ taken) l.self)

abbrev pub decreases-loop-piece : goal.decreases-loop-piece
decreases-loop-piece l = length l.rest
