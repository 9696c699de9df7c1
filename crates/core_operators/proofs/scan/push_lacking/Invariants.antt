use Rattle.std.proofs.Common.{◌≡◌, ◌<◌, ◌≤◌, ◌+◌, ◌*◌, ◌^◌, ◌++◌, ℕ, length, drop}
use Rattle.core_laws.specs.Maps.{IsAscending}
use Rattle.core_operators.proofs.DifferenceEntries.{to_keep}
use Rattle.core_operators.proofs.scan.push_lacking.Given as goal

-- the entries kept so far, then those to keep among the entries left, are those at first and those to keep of all
abbrev pub invariant-loop-entry : goal.invariant-loop-entry
invariant-loop-entry g l =
    let key = g.E.SketchEntry.key in
    let other = g.F.SketchEntry.key in
    record {
      rest : l.kept.items ++ to_keep key other l.theta (drop l.entry-index l.entries) l.others ≡ l.initial.kept.items ++ to_keep key other l.theta l.entries l.others;
      ascending : IsAscending key (drop l.entry-index l.entries);
      grows : l.initial.compared ≤ l.compared;
      few : (k : ℕ) → length l.others < 2 ^ k → l.compared ≤ l.initial.compared + k * l.entry-index;
    }
