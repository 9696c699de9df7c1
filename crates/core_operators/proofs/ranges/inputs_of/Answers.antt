use Rattle.std.proofs.Common.{◌≡◌, ◌+◌, ◌∷◌, min, drop, sym, ap, ◌∙◌}
use Rattle.std.proofs.lemmas.List.{drop_more}
use Rattle.core_operators.specs.Union.{IsInput}
use Rattle.core_operators.proofs.Inputs.{IsSurvey, survey-empty, survey-next}
use Rattle.core_operators.proofs.Metadata.{reported_empty, reported_nonempty}
use Rattle.core_operators.proofs.ranges.inputs_of.Goals as goal
use Rattle.core_operators.proofs.ranges.inputs_of.Goals.{in-Empty, in-NonEmpty+else-own-seed_hash}

pub loop-sketch-preserved : goal.loop-sketch-preserved
loop-sketch-preserved g c =
    let key = g.S.Entry.SketchEntry.key in
    let shown = g.S.KeySketch.shown in
    let listing = g.S.EntrySketch.listing in
    let sketches = c.args.sketches.now in
    let i = c.loop-sketch.sketch-index in
    let s = c.sketch-item.result in
    let input : IsInput key (shown s) (listing s) = record { lawful = c.metadata.ensures.is_sound; hashes = g.met.S.EntrySketch.lists s } in
    let shape : drop i sketches ≡ s ∷ drop (i + 1) sketches = drop_more sketches i s c.loop-sketch-test.true ∙ ap (λ x. x ∷ drop (i + 1) sketches) (sym c.sketch-item.is) in
    let known : IsSurvey key shown listing c.args.seed_hash sketches (s ∷ drop (i + 1) sketches) c.loop-sketch.inputs.empty c.loop-sketch.inputs.theta = rw (← shape) c.loop-sketch.invariant.known in
    record {
      known = elim c.match-metadata.branch [
        | in-Empty w ↦
            let empty = reported_empty (shown s) _ (sym w.in-Empty.is ∙ c.metadata.ensures.metadata) in
            rw w.inputs-is (survey-empty key shown listing c.args.seed_hash sketches (drop (i + 1) sketches) s _ _ known input empty)
        | in-NonEmpty+else-own-seed_hash w ↦
            let reported = reported_nonempty (shown s) _ _ _ _ (sym w.in-NonEmpty.is ∙ c.metadata.ensures.metadata) in
            let theta : w.min.result ≡ min c.loop-sketch.inputs.theta (shown s).theta = w.min.ensures ∙ ap (λ t. min c.loop-sketch.inputs.theta t) (sym reported.theta_is) in
            rw (w.inputs-is, theta) (survey-next key shown listing c.args.seed_hash sketches (drop (i + 1) sketches) s _ _ known input reported.nonempty (sym w.if-own-seed_hash.false ∙ sym reported.seed_is))
      ];
    }
