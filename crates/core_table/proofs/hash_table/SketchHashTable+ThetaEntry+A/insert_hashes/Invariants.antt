use Rattle.std.proofs.Common.{◌≤◌, length}
use Rattle.core_table.proofs.ManyHashes.{HasInserted}
use Rattle.core_table.proofs.hash_table.SketchHashTable+ThetaEntry+A.insert_hashes.Given as goal

-- the blocks so far are inserted, and no look is forgotten
abbrev pub invariant-loop-rest : goal.invariant-loop-rest
invariant-loop-rest g l = HasInserted l.hashes l.rest l.fn.self.map l.self.map × (l.fn.self.counts.looks ≤ l.self.counts.looks)

abbrev pub decreases-loop-rest : goal.decreases-loop-rest
decreases-loop-rest g l = length l.rest
