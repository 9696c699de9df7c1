use Rattle.std.proofs.Common.{◌<◌, drop}
use Rattle.std.specs.List.{AllByRecursion}
use Rattle.calls_tables.proofs.tables.all_below.Given as goal

-- all hashes are below theta if the remaining ones are
abbrev pub invariant-loop-entry : goal.invariant-loop-entry
invariant-loop-entry g l =
    AllByRecursion (λ x. g.E.SketchEntry.key x < l.theta) (drop l.entry-index l.entries)
    → AllByRecursion (λ x. g.E.SketchEntry.key x < l.theta) l.entries
