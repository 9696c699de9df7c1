use Rattle.std.proofs.Common.{◌≡◌, ◌<◌, ◌++◌, length, take}
use Rattle.core_laws.specs.Entries.{hash_key}
use Rattle.core_operators.specs.Filter.{admitted}
use Rattle.core_operators.proofs.ascending.hashes_admitted.Given as goal

-- the hashes so far, then those left that are admitted, are all hashes admitted
abbrev pub invariant-loop-hash : goal.invariant-loop-hash
invariant-loop-hash g l =
    let among = admitted hash_key l.filter.words.items l.filter.shift in
    record {
      may_go_on : (goal.iterator-loop-hash g).can_next l.hash-iterator;
      ends : (goal.iterator-loop-hash g).is_finite l.hash-iterator;
      room : l.count < 64;
      whole : length l.found ≡ 64;
      rest : (l.keys.items ++ take l.count l.found) ++ among (g.T.KeySketch.rest l.hash-iterator) ≡ among (g.T.KeySketch.rest l.fn.hashes);
    }
