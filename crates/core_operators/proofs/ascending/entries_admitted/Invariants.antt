use Rattle.std.proofs.Common.{◌≡◌, ◌++◌, length}
use Rattle.core_operators.specs.Filter.{admitted}
use Rattle.core_operators.proofs.ascending.entries_admitted.Given as goal

-- the entries so far, then those left that are admitted, are all entries admitted
abbrev pub invariant-loop-first : goal.invariant-loop-first
invariant-loop-first g l =
    let among = admitted g.E.SketchEntry.key l.filter.words.items l.filter.shift in
    record { rest : l.entries.items ++ among l.left.rest ≡ among l.fn.items.rest }

-- the entries that are left
abbrev pub decreases-loop-first : goal.decreases-loop-first
decreases-loop-first g l = length l.left.rest
