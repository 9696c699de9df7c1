use Rattle.std.proofs.Common.{◌≡◌, ◌<◌, ◌≤◌, ◌+◌, ◌*◌, ◌^◌, ◌++◌, ℕ, true, length, drop, map}
use Rattle.core_laws.specs.Folds.{Value}
use Rattle.core_operators.proofs.SharedEntries.{IsReading, found_from}
use Rattle.core_operators.proofs.share.shared_by_halves.Given as goal

-- the entries found so far, then those to be found for the entries that are left, are those found for all
abbrev pub invariant-loop-entry : goal.invariant-loop-entry
invariant-loop-entry g l =
    let left = drop l.entry-index l.short in
    let found = found_from g.E.SketchEntry.key (g.P.IntersectionMergePolicy.merges l.policy) (g.P.IntersectionMergePolicy.refuses l.policy) (g.met.P.IntersectionMergePolicy.keeps_hash l.policy) l.arrives in
    record {
      rest : map Value l.entries.items ++ found left l.long l.theta ≡ found l.short l.long l.theta;
      reading : IsReading g.E.SketchEntry.key l.short left true;
      some : l.initial.compared + length l.entries.items ≤ l.compared;
      few : (k : ℕ) → length l.long < 2 ^ k → l.compared ≤ l.initial.compared + k * l.entry-index;
    }
