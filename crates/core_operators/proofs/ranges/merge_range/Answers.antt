use Rattle.std.proofs.Common.{◌≡◌, ℕ, ◌^◌, ◌+◌, List, [], ◌∷◌, ◌++◌, map, take, drop, inl, inr, refl, sym, ap, ◌∙◌}
use Rattle.std.proofs.lemmas.List.{drop_more, take-append-drop}
use Rattle.std.proofs.lemmas.Result.{err_from_is_err_and}
use Rattle.core_laws.specs.Cuts.{Retained}
use Rattle.core_laws.specs.Step.{merge_step}
use Rattle.core_laws.specs.Maps.{below}
use Rattle.core_laws.specs.Insertion.{after_upserts}
use Rattle.core_laws.specs.Folds.{Fold, Value, fold_key, fold_merges, unmarked, never}
use Rattle.core_operators.specs.Union.{at_or_above}
use Rattle.core_table.proofs.FilledTables.{made_with_next}
use Rattle.core_operators.proofs.MergedSketches.{in_range_next, range_refused}
use Rattle.core_operators.proofs.Metadata.{reported_empty}
use Rattle.core_operators.proofs.ranges.merge_range.Goals as goal
use Rattle.core_operators.proofs.ranges.merge_range.Goals.{in-Empty, in-NonEmpty+in_ok-merge_entries-in-NonEmpty}

no_entries : {X : Type 0} (key : X → ℕ) (listing : List X) → map key listing ≡ [] → listing ≡ []
no_entries key [] none = refl
no_entries key (x ∷ xs) none = absurd (cc)

pub loop-sketch-preserved : goal.loop-sketch-preserved
loop-sketch-preserved g c =
    let key = g.S.Entry.SketchEntry.key in
    let listing = g.S.EntrySketch.listing in
    let step_of = merge_step (fold_merges key (g.P.UnionMergePolicy.merges c.args.policy.now) (g.P.UnionMergePolicy.refuses c.args.policy.now)) never in
    let first = c.args.table.now.map in
    let k = 2 ^ first.lg_nom in
    let was = c.loop-sketch.invariant in
    let before = c.loop-sketch.table.map in
    let now = c.match-metadata.table.map in
    let s = c.sketch-item.result in
    let next = in_range_next key k c.args.from c.args.to step_of listing c.args.sketches.now c.loop-sketch.sketch-index s (unmarked first.kept) (unmarked before.kept) (unmarked now.kept) c.loop-sketch-test.true c.sketch-item.is was.merged in
    let folded : List g.row.S-Entry.Denot → Retained (Fold g.row.S-Entry.Denot) = λ ys. after_upserts (fold_key key) k step_of (map Value (below key (at_or_above key ys c.args.from) c.args.to)) (unmarked before.kept) in
    elim c.match-metadata.branch [
      | in-Empty w ↦
          let empty = reported_empty (g.S.KeySketch.shown s) _ w.in-Empty.ensures.metadata in
          let none : listing s ≡ [] = no_entries key (listing s) (g.met.S.EntrySketch.lists s ∙ c.metadata.ensures.is_sound.none empty) in
          let same : now ≡ before = ap (λ t. t.map) w.table-is in
          record {
            merged = next (ap (λ t. unmarked t.kept) same ∙ ap folded (sym none));
            made_with = rw same was.made_with;
          }
      | in-NonEmpty+in_ok-merge_entries-in-NonEmpty w ↦
          let lg : before.lg_nom ≡ first.lg_nom = ap (λ t. t.lg_nom) was.made_with in
          let then = w.merge_entries.new.table.map in
          let same : now ≡ then = ap (λ t. t.map) w.table-is in
          let step : unmarked then.kept ≡ folded (listing s) = rw (← lg) w.in_ok-merge_entries-in-NonEmpty.ensures.after in
          record {
            merged = next (ap (λ t. unmarked t.kept) same ∙ step);
            made_with = rw same (made_with_next first before then then.kept was.made_with w.in_ok-merge_entries-in-NonEmpty.ensures.made_with);
          }
    ]

pub returns-in_err-merge_entries-in-NonEmpty-clause-refused : goal.returns-in_err-merge_entries-in-NonEmpty-clause-refused
returns-in_err-merge_entries-in-NonEmpty-clause-refused g c =
    let p = err_from_is_err_and c.from_residual.result c.from_residual.ensures.1 in
    let key = g.S.Entry.SketchEntry.key in
    let listing = g.S.EntrySketch.listing in
    let sketches = c.args.sketches.now in
    let i : ℕ = c.loop-sketch.sketch-index in
    let s = c.sketch-item.result in
    let left : drop i sketches ≡ s ∷ drop (i + 1) sketches = drop_more sketches i s c.loop-sketch-test.true ∙ ap (λ x. x ∷ drop (i + 1) sketches) (sym c.sketch-item.is) in
    let shape : sketches ≡ take i sketches ++ s ∷ drop (i + 1) sketches = sym (take-append-drop i sketches) ∙ ap (λ ys. take i sketches ++ ys) left in
    rw (p.1, p.2) (elim c.in_err-merge_entries-in-NonEmpty.ensures.refused [
      | inl out ↦ inl out
      | inr policy ↦
          let refused = range_refused key _ _ c.args.table.now.map c.args.from c.args.to c.loop-sketch.table.map.kept _ (listing s) c.loop-sketch.invariant.merged policy.1 in
          inr (policy.0, (take i sketches, s, drop (i + 1) sketches, shape, refused))
    ])
