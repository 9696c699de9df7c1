use Rattle.std.proofs.Common.{◌≡◌, ◌≤◌, take}
use Rattle.core_table.specs.HashTable.{after_hashes}
use Rattle.core_table.proofs.hash_table.SketchHashTable+ThetaEntry+A.insert_each.Given as goal

-- the hashes so far are inserted, and no look is forgotten
abbrev pub invariant-loop-hash : goal.invariant-loop-hash
invariant-loop-hash g l = (l.self.map ≡ after_hashes (take l.hash-index l.hashes) l.fn.self.map) × (l.fn.self.counts.looks ≤ l.self.counts.looks)
