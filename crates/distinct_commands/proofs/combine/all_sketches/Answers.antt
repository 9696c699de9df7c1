use Rattle.std.proofs.Common.{◌≡◌, ℕ, false, List, Option, sym, subst}
use Rattle.std.specs.Prelude.{IfSome, IfErr}
use Rattle.std.proofs.lemmas.Result.{err_from_is_err_and}
use Rattle.distinct_inputs.specs.Failures.{IsOfImages}
use Rattle.sketch_base.specs.Seed.{seed_hash}
use Rattle.core_compact.specs.CompactState.{Compact}
use Rattle.keys_sketches.specs.Shards.{AreRead}
use Rattle.keys_sketches.specs.Sources.{Continues}
use Rattle.distinct_inputs.specs.Images.{remaining_images}
use Rattle.distinct_inputs.specs.Seeds.{AreSeeded}
use Rattle.distinct_commands.proofs.NextImages.{reads_more, fails_before}
use Rattle.distinct_commands.proofs.OnlyMemory.{seeded-more}
use Rattle.distinct_commands.proofs.combine.all_sketches.Goals as goal

pub loop-preserved : goal.loop-preserved
loop-preserved g c =
    let old = remaining_images g.S.Source.Read.remaining g.S.Sources.texts c.args.images.now in
    let now = remaining_images g.S.Source.Read.remaining g.S.Sources.texts c.loop.images in
    let new = remaining_images g.S.Source.Read.remaining g.S.Sources.texts c.next_sketch.new.images in
    let seed : c.in-Some.sketch.seed_hash ≡ seed_hash c.args.seed = subst (λ (o : Option (Compact ℕ)). IfSome o (λ s. s.seed_hash ≡ seed_hash c.args.seed)) c.in-Some.is c.in_ok-sketch.ensures.seeded in
    record {
      seeded = subst (AreSeeded c.args.seed) (sym c.in_ok-push-in-Some.ensures.items) (seeded-more c.args.seed c.loop.sketches.items c.in-Some.sketch c.loop.invariant.seeded seed);
      read = subst (λ (items : List (Compact ℕ)). Continues old new (λ taken. AreRead c.args.seed taken items)) (sym c.in_ok-push-in-Some.ensures.items)
          (reads_more c.args.seed old now new _ c.in-Some.sketch c.loop.sketches.items c.loop.invariant.read c.in_ok-sketch.ensures.reads c.in-Some.is);
    }

pub returns-in_err-sketch-clause-failed : goal.returns-in_err-sketch-clause-failed
returns-in_err-sketch-clause-failed g c =
    let old = remaining_images g.S.Source.Read.remaining g.S.Sources.texts c.args.images.now in
    let now = remaining_images g.S.Source.Read.remaining g.S.Sources.texts c.loop.images in
    let p = err_from_is_err_and c.from_residual.result c.from_residual.ensures.1 in
    let failed = IsOfImages false c.args.hex c.args.seed old in
    subst (λ r. IfErr r failed) (sym p.1) (subst failed (sym p.2)
    (fails_before false c.args.hex c.args.seed old now (λ taken. AreRead c.args.seed taken c.loop.sketches.items) c.in_err-sketch.field-0.0 c.loop.invariant.read c.in_err-sketch.ensures.failed))
