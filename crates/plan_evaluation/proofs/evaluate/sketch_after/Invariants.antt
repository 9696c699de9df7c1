use Rattle.std.proofs.Common.{◌≡◌, ◌^◌, false, take}
use Rattle.std.specs.Prelude.{not}
use Rattle.core_laws.specs.Cuts.{none_below}
use Rattle.core_laws.specs.Folds.{unmarked}
use Rattle.core_laws.specs.Leaf.{leaf_from, is_updated}
use Rattle.core_table.specs.HashTable.{empty_table}
use Rattle.plan_values.specs.Family.{folds_of}
use Rattle.plan_values.specs.Refusals.{steps_refused}
use Rattle.plan_evaluation.proofs.evaluate.sketch_after.Given as goal

-- in folds, the sketch is a new one after the steps so far, none of which is refused
abbrev pub invariant-loop-step : goal.invariant-loop-step
invariant-loop-step g l = (let f = folds_of (g.F.SketchFamily.rules l.family) (g.F.SketchFamily.refuses l.family) in let s = g.F.SketchFamily.state l.sketch in record {
  own : g.F.SketchFamily.made_sketch l.family l.sketch;
  kept : unmarked s.map.kept ≡ leaf_from f.key f.step_of (2 ^ l.lg_k) l.start (take l.step-index l.steps) (none_below l.start);
  made : s.map ≡ record (empty_table l.lg_k l.start l.seed) { kept = s.map.kept };
  unrefused : steps_refused f (2 ^ l.lg_k) l.start (take l.step-index l.steps) ≡ false;
  empty : s.empty ≡ not (is_updated (take l.step-index l.steps) false);
})
