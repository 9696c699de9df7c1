use Rattle.std.proofs.Common.{◌≡◌, ◌++◌, drop}
use Rattle.core_laws.specs.Maps.{IsAscending, below}
use Rattle.core_operators.proofs.scan.push_below.Given as goal

-- the entries kept so far, then those left that are below theta, are all entries to keep
abbrev pub invariant-loop-entry : goal.invariant-loop-entry
invariant-loop-entry g l =
    let key = g.E.SketchEntry.key in
    record {
      rest : l.kept.items ++ below key (drop l.entry-index l.entries) l.theta ≡ l.initial.kept.items ++ below key l.entries l.theta;
      ascending : IsAscending key (drop l.entry-index l.entries);
    }
