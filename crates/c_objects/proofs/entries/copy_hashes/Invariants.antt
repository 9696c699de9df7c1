use Rattle.std.proofs.Common.{◌≡◌, ◌+◌, ◌++◌, length, take, drop}
use Rattle.c_objects.proofs.entries.copy_hashes.Given as goal

-- the front has the hashes so far, behind which nothing has changed, and those left follow
abbrev pub invariant-loop-entry : goal.invariant-loop-entry
invariant-loop-entry l = record {
  can_next : (goal.iterator-loop-entry).can_next l.entry-iterator;
  is_finite : (goal.iterator-loop-entry).is_finite l.entry-iterator;
  listed : take l.at l.out ++ l.entry-iterator.rest ≡ l.initial.entry-iterator.rest;
  behind : drop l.at l.out ≡ drop l.at l.initial.out;
  within : l.at + length l.entry-iterator.rest ≡ length l.initial.entry-iterator.rest;
  room : length l.out ≡ length l.initial.out;
}
