use Rattle.std.proofs.Common.{◌≡◌, []}
use Rattle.core_slots.proofs.selection.hash_of_rank.Given as goal

-- before each window nothing is gathered
abbrev pub invariant-loop : goal.invariant-loop
invariant-loop g l = l.hashes.items ≡ []
