use Rattle.std.proofs.Common.{refl, inl, inr}
use Rattle.c_objects.proofs.Gathered.{one_more}
use Rattle.c_objects.proofs.batch.SeededBatchAcceptsImages.add_image.Goals.{in-Ok-push, in-Err-push}
use Rattle.c_objects.proofs.batch.SeededBatchAcceptsImages.add_image.Goals as goal

pub returns-after-push : goal.returns-after-push
returns-after-push c = elim c.match-push.branch [
  | in-Ok-push w ↦ rw (w.result-is) (
      let items = w.in-Ok-push.ensures.items in
      let read = c.in-Ok.read.sketch in
      inl (refl, (read, c.in-Ok.ensures.read, (refl, items, one_more c.args.self.now.sketches.items _ read items))))
  | in-Err-push w ↦ rw (w.result-is) (inr (inl refl, (refl, w.in-Err-push.ensures.items)))
]
