use Rattle.std.proofs.Common.{◌≡◌, ◌^◌, map, take}
use Rattle.std.specs.Prelude.{flat_map}
use Rattle.core_laws.specs.Step.{merge_step}
use Rattle.core_laws.specs.Maps.{below}
use Rattle.core_laws.specs.Insertion.{after_upserts}
use Rattle.core_laws.specs.Folds.{Value, fold_key, fold_merges, unmarked, never}
use Rattle.core_operators.specs.Union.{at_or_above}
use Rattle.core_operators.proofs.ranges.merge_range.Given as goal

-- the entries of the sketches that were read are merged
abbrev pub invariant-loop-sketch : goal.invariant-loop-sketch
invariant-loop-sketch g l =
    let key = g.S.Entry.SketchEntry.key in
    let k = 2 ^ l.initial.table.map.lg_nom in
    let step_of = merge_step (fold_merges key (g.P.UnionMergePolicy.merges l.policy) (g.P.UnionMergePolicy.refuses l.policy)) never in
    let read = flat_map g.S.EntrySketch.listing (take l.sketch-index l.sketches) in
    record {
      merged : unmarked l.table.map.kept ≡ after_upserts (fold_key key) k step_of (map Value (below key (at_or_above key read l.from) l.to)) (unmarked l.initial.table.map.kept);
      made_with : l.table.map ≡ record l.initial.table.map { kept = l.table.map.kept };
    }
