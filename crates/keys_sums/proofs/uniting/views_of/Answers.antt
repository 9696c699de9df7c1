use Rattle.std.proofs.Common.{map, ap, ◌∙◌}
use Rattle.std.proofs.lemmas.List.{take_all}
use Rattle.core_compact.specs.CompactState.{shown_of, compact_value}
use Rattle.core_laws.specs.Folds.{unmarked_value}
use Rattle.core_laws.specs.Shown.{shown_value}
use Rattle.core_slots.specs.Entry.{tuple_key}
use Rattle.core_state.specs.View.{shows, sequence}
use Rattle.keys_sketches.proofs.Waiting.{mapped_more}
use Rattle.keys_sums.specs.Unions.{folds_of_sketches}
use Rattle.keys_sums.proofs.uniting.views_of.Goals as goal

pub loop-sketch-preserved : goal.loop-sketch-preserved
loop-sketch-preserved g c =
    let old = c.loop-sketch.views.items in
    let new = c.push.new.self.items in
    let i = c.loop-sketch.sketch-index in
    let lt = c.loop-sketch-test.true in
    let sketches = c.args.sketches.now in
    let item = c.sketch-item.result in
    let view = c.as_view.result in record {
      shown =
          mapped_more (λ v. shows tuple_key v) (shown_of tuple_key) new old view sketches i item c.in_ok-push.ensures.items lt c.loop-sketch.invariant.shown
          (c.as_view.ensures.shows ∙ ap (shown_of tuple_key) c.sketch-item.is);
      values =
          mapped_more (λ v. unmarked_value (shown_value tuple_key (shows tuple_key v) (sequence v))) (λ s. unmarked_value (compact_value tuple_key s)) new old view sketches i item c.in_ok-push.ensures.items lt c.loop-sketch.invariant.values
          (ap (λ v. unmarked_value v) c.as_view.ensures.value ∙ ap (λ s. unmarked_value (compact_value tuple_key s)) c.sketch-item.is);
    }

pub returns-clause-shown : goal.returns-clause-shown
returns-clause-shown g c = c.loop-sketch.invariant.shown ∙ ap (map (shown_of tuple_key)) (take_all c.loop-sketch.sketch-index c.args.sketches.now c.loop-sketch-test.false)

pub returns-clause-values : goal.returns-clause-values
returns-clause-values g c = c.loop-sketch.invariant.values ∙ ap folds_of_sketches (take_all c.loop-sketch.sketch-index c.args.sketches.now c.loop-sketch-test.false)
