use Rattle.std.proofs.Common.{◌≡◌, ℕ, ◌<◌, ◌≤◌, ◌^◌, length}
use Rattle.core_laws.specs.Maps.{IsAscending, entry_at}
use Rattle.core_operators.proofs.Halving.{AreHalvings}
use Rattle.core_operators.proofs.search.found_by_halves.Given as goal

-- the hash has the same entry in the part that is left, which can be halved only so often
abbrev pub invariant-loop-entry : goal.invariant-loop-entry
invariant-loop-entry g l =
    let key = g.E.SketchEntry.key in
    record {
      ascending : IsAscending key l.left;
      same : entry_at key l.left l.hash ≡ entry_at key l.initial.left l.hash;
      grows : l.initial.compared ≤ l.compared;
      few : (k : ℕ) → length l.initial.left < 2 ^ k → AreHalvings (length l.left) l.initial.compared l.compared k;
    }

abbrev pub decreases-loop-entry : goal.decreases-loop-entry
decreases-loop-entry g l = length l.left
