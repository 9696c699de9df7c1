use Rattle.std.proofs.Common.{List, subst}
use Rattle.keys_sketches.specs.Keys.{HaveSameLines}
use Rattle.keys_groups.specs.Names.{texts_of}
use Rattle.keys_joins.specs.Evaluated.{names_in}
use Rattle.keys_joins.specs.declared.evaluated.EvaluatedGroups.{EvaluatedGroups}
use Rattle.keys_joins.specs.declared.tables.SketchTable.{SketchTable}
use Rattle.keys_joins.proofs.EvaluatedTexts.{evaluated_all}
use Rattle.keys_joins.proofs.evaluated.evaluate_groups.Goals as goal

pub returns-clause-evaluated : goal.returns-clause-evaluated
returns-clause-evaluated g c =
    let groups : EvaluatedGroups = record {
      alloc = c.args.alloc;
      seed = c.args.seed;
      lg_k = c.args.lg_k;
      steps = c.args.steps;
      tables = c.in_ok-tables.tables;
      names = c.in_ok-names.names;
    } in
    evaluated_all groups (subst (λ (tables : List SketchTable). HaveSameLines (texts_of c.in_ok-names.names.entries) (names_in tables)) c.as_slice.ensures.value c.in_ok-names.ensures.names)
    c.in_ok-names.ensures.ascending (g.S.Sources.texts c.args.sources.now) c.in_ok-tables.ensures.tables
