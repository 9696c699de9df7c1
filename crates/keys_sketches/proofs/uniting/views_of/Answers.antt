use Rattle.std.proofs.Common.{map, ap, ◌∙◌}
use Rattle.std.proofs.lemmas.List.{take_all}
use Rattle.core_compact.specs.CompactState.{shown_of, compact_value}
use Rattle.core_laws.specs.Entries.{hash_key}
use Rattle.core_laws.specs.Shown.{shown_value}
use Rattle.theta_sketches.specs.View.{view_shows, view_sequence}
use Rattle.keys_sketches.proofs.Waiting.{mapped_more}
use Rattle.keys_sketches.proofs.uniting.views_of.Goals as goal

pub loop-sketch-preserved : goal.loop-sketch-preserved
loop-sketch-preserved g c =
    let old = c.loop-sketch.views.items in
    let new = c.push.new.self.items in
    let i = c.loop-sketch.sketch-index in
    let lt = c.loop-sketch-test.true in
    let sketches = c.args.sketches.now in
    let item = c.sketch-item.result in
    let view = c.as_view.result in record {
      shown =
          mapped_more (λ v. view_shows v) (shown_of hash_key) new old view sketches i item c.in_ok-push.ensures.items lt c.loop-sketch.invariant.shown
          (c.as_view.ensures.shows ∙ ap (shown_of hash_key) c.sketch-item.is);
      listed =
          mapped_more (λ v. view_sequence v) (λ s. s.entries) new old view sketches i item c.in_ok-push.ensures.items lt c.loop-sketch.invariant.listed
          (c.as_view.ensures.sequence ∙ ap (λ s. s.entries) c.sketch-item.is);
      values =
          mapped_more (λ v. shown_value hash_key (view_shows v) (view_sequence v)) (λ s. compact_value hash_key s) new old view sketches i item c.in_ok-push.ensures.items lt c.loop-sketch.invariant.values
          (c.as_view.ensures.value ∙ ap (λ s. compact_value hash_key s) c.sketch-item.is);
    }

pub returns-clause-shown : goal.returns-clause-shown
returns-clause-shown g c = c.loop-sketch.invariant.shown ∙ ap (map (shown_of hash_key)) (take_all c.loop-sketch.sketch-index c.args.sketches.now c.loop-sketch-test.false)

pub returns-clause-listed : goal.returns-clause-listed
returns-clause-listed g c = c.loop-sketch.invariant.listed ∙ ap (map (λ s. s.entries)) (take_all c.loop-sketch.sketch-index c.args.sketches.now c.loop-sketch-test.false)

pub returns-clause-values : goal.returns-clause-values
returns-clause-values g c = c.loop-sketch.invariant.values ∙ ap (map (λ s. compact_value hash_key s)) (take_all c.loop-sketch.sketch-index c.args.sketches.now c.loop-sketch-test.false)
