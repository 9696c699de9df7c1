use Rattle.std.proofs.Common.{◌≡◌, ◌++◌, take}
use Rattle.core_operators.proofs.ascending.push_hashes.Given as goal

-- the first hashes were appended
abbrev pub invariant-loop-key : goal.invariant-loop-key
invariant-loop-key g l = l.keys.items ≡ l.initial.keys.items ++ take l.key-index l.found
