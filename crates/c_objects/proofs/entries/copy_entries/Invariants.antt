use Rattle.std.proofs.Common.{◌≡◌, ◌+◌, ◌++◌, length, map, take, drop}
use Rattle.core_slots.specs.Entry.{tuple_key}
use Rattle.c_objects.proofs.entries.copy_entries.Given as goal

-- the fronts have what was copied so far, behind which nothing has changed, and the entries left follow
abbrev pub invariant-loop-entry : goal.invariant-loop-entry
invariant-loop-entry l = record {
  can_next : (goal.iterator-loop-entry).can_next l.entry-iterator;
  is_finite : (goal.iterator-loop-entry).is_finite l.entry-iterator;
  hashes : take l.at l.hashes ++ map tuple_key l.entry-iterator.rest ≡ map tuple_key l.initial.entry-iterator.rest;
  sums : take l.at l.sums ++ map (λ e. e.summary) l.entry-iterator.rest ≡ map (λ e. e.summary) l.initial.entry-iterator.rest;
  behind_hashes : drop l.at l.hashes ≡ drop l.at l.initial.hashes;
  behind_sums : drop l.at l.sums ≡ drop l.at l.initial.sums;
  within : l.at + length l.entry-iterator.rest ≡ length l.initial.entry-iterator.rest;
  room_of_hashes : length l.hashes ≡ length l.initial.hashes;
  room_of_sums : length l.sums ≡ length l.initial.sums;
}
