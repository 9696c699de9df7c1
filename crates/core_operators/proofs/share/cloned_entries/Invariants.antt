use Rattle.std.proofs.Common.{◌≡◌, ◌++◌, length}
use Rattle.core_operators.proofs.share.cloned_entries.Given as goal

-- the entries so far, then those that are left, are all
abbrev pub invariant-loop-entry : goal.invariant-loop-entry
invariant-loop-entry g l = record {
  all : l.entries.items ++ l.entry-iterator.rest ≡ l.fn.items.rest;
}

-- the entries that are left
abbrev pub decreases-loop-entry : goal.decreases-loop-entry
decreases-loop-entry g l = length l.entry-iterator.rest
