use Rattle.std.proofs.Common.{ℕ, ◌∷◌, ◌++◌, [], refl, inl, inr, ap, ◌∙◌}
use Rattle.core_compact.specs.CompactState.{Compact}
use Rattle.c_objects.proofs.Gathered.{one_more}
use Rattle.c_objects.proofs.batch.SeededBatchAcceptsCompactSketch.add.Goals.{in-Ok-push, in-Err-push}
use Rattle.c_objects.proofs.batch.SeededBatchAcceptsCompactSketch.add.Goals as goal

pub returns-after-push : goal.returns-after-push
returns-after-push c = elim c.match-push.branch [
  | in-Ok-push w ↦ rw (w.result-is) (
      let old = c.args.self.now.sketches.items in
      let items = w.in-Ok-push.ensures.items ∙ ap (λ (s : Compact ℕ). old ++ s ∷ []) c.in-Ok.ensures.ok in
      inl (refl, (refl, items, one_more old _ c.args.sketch.now.sketch items)))
  | in-Err-push w ↦ rw (w.result-is) (inr (refl, (refl, w.in-Err-push.ensures.items)))
]
