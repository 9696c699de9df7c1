use Rattle.std.proofs.Common.{refl, inl, inr}
use Rattle.c_objects.specs.Streams.{HasSketch}
use Rattle.c_objects.proofs.Gathered.{one_more, form_more}
use Rattle.c_objects.proofs.batch.SeededBatchAcceptsSeededSketch.add.Goals.{in-Ok-push, in-Err-push}
use Rattle.c_objects.proofs.batch.SeededBatchAcceptsSeededSketch.add.Goals as goal

pub returns-after-push : goal.returns-after-push
returns-after-push c = elim c.match-push.branch [
  | in-Ok-push w ↦ rw (w.result-is) (
      let has : HasSketch c.args.sketch.now.sketch c.in-Ok.compact = record {
        part = c.in-Ok.ensures.part;
        seeded = c.in-Ok.ensures.seeded;
        least = c.in-Ok.ensures.least;
        kmin = λ lg_k seed hashes is. c.in-Ok.ensures.kmin lg_k seed hashes is refl;
      } in
      let old = c.args.self.now.sketches.items in let items = w.in-Ok-push.ensures.items in
      let more = one_more old _ c.in-Ok.compact items in
      inl (refl, (record { sketch = c.in-Ok.compact }, (c.in-Ok.ensures.ok, has), (refl, items, more)), form_more old _ c.in-Ok.compact items c.args.sketch.now.sketch has))
  | in-Err-push w ↦ rw (w.result-is) (inr (refl, (refl, w.in-Err-push.ensures.items)))
]
