use Rattle.std.proofs.Common.{◌≡◌, true, ◌++◌}
use Rattle.core_laws.specs.Maps.{IsAscending, below}
use Rattle.core_laws.specs.Entries.{hash_key}
use Rattle.core_operators.proofs.ascending.hashes_below.Given as goal

-- the hashes so far, then those left that are below theta, are all hashes below theta
abbrev pub invariant-loop-hash : goal.invariant-loop-hash
invariant-loop-hash g l = record {
  may_go_on : (goal.iterator-loop-hash g).can_next l.hash-iterator;
  ends : (goal.iterator-loop-hash g).is_finite l.hash-iterator;
  rest : l.keys.items ++ below hash_key (g.T.KeySketch.rest l.hash-iterator) l.theta ≡ below hash_key (g.T.KeySketch.rest l.fn.hashes) l.theta;
  in_order : l.ascending ≡ true → IsAscending hash_key (g.T.KeySketch.rest l.hash-iterator);
}
