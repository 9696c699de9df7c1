use Rattle.std.proofs.Common.{◌≡◌, ◌++◌, map, take}
use Rattle.core_operators.proofs.scan.push_clones.Given as goal

-- clones of the first entries were appended
abbrev pub invariant-loop-entry : goal.invariant-loop-entry
invariant-loop-entry g l = l.entries.items ≡ l.initial.entries.items ++ map (λ r. r.now) (take l.entry-index l.borrowed)
