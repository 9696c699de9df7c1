use Rattle.std.proofs.Common.{◌≡◌, ◌++◌, ℕ, false, List, [], ◌∷◌, Option, map, sym, ap, subst, ◌∙◌}
use Rattle.std.specs.Prelude.{IfSome, IfErr}
use Rattle.std.proofs.lemmas.Result.{err_from_is_err_and}
use Rattle.sketch_base.specs.Seed.{seed_hash}
use Rattle.core_compact.specs.CompactState.{Compact}
use Rattle.keys_sketches.specs.Shards.{AreRead}
use Rattle.keys_sketches.specs.Sources.{Continues}
use Rattle.distinct_inputs.specs.Failures.{IsOfImages}
use Rattle.distinct_inputs.specs.Images.{remaining_images}
use Rattle.distinct_inputs.specs.Lists.{names_of}
use Rattle.distinct_inputs.specs.Seeds.{AreSeeded}
use Rattle.distinct_commands.specs.Matrix.{named_of, sketches_in}
use Rattle.distinct_commands.specs.declared.matrix.Named.{Named}
use Rattle.distinct_commands.proofs.NextImages.{reads_more, fails_before}
use Rattle.distinct_commands.proofs.OnlyMemory.{seeded-more}
use Rattle.distinct_commands.proofs.Pairs.{nothing_read, sketches-more, names_begin, name_more, names_end}
use Rattle.distinct_commands.proofs.matrix.named_sketches.Goals as goal

pub loop-init : goal.loop-init
loop-init g c = record {
  seeded = subst (λ (items : List Named). AreSeeded c.args.seed (sketches_in (map named_of items))) (sym c.new-named.ensures.items) tt;
  read = nothing_read c.args.seed (remaining_images g.S.Source.Read.remaining g.S.Sources.texts c.args.images.now) _ c.new-named.ensures.items;
  whole = λ is. c.requires.form ∙ is;
  names = λ is. names_begin (names_of c.args.images.now.inputs.left.now) _ c.new-named.ensures.items;
}

pub loop-preserved : goal.loop-preserved
loop-preserved g c =
    let old = remaining_images g.S.Source.Read.remaining g.S.Sources.texts c.args.images.now in
    let now = remaining_images g.S.Source.Read.remaining g.S.Sources.texts c.loop.images in
    let new = remaining_images g.S.Source.Read.remaining g.S.Sources.texts c.next_sketch.new.images in
    let sketch = c.in-Some.sketch in
    let put = c.in_ok-push-in-Some.ensures.items in
    let more : List (Compact ℕ) = sketches_in (map named_of c.loop.named.items) ++ sketch ∷ [] in
    let parted = ap (λ (items : List Named). sketches_in (map named_of items)) put ∙ sketches-more c.loop.named.items _ in
    let seed : sketch.seed_hash ≡ seed_hash c.args.seed = subst (λ (o : Option (Compact ℕ)). IfSome o (λ s. s.seed_hash ≡ seed_hash c.args.seed)) c.in-Some.is c.in_ok-sketch.ensures.seeded in
    record {
      seeded = subst (AreSeeded c.args.seed) (sym parted) (seeded-more c.args.seed (sketches_in (map named_of c.loop.named.items)) sketch c.loop.invariant.seeded seed);
      read = subst (λ (items : List (Compact ℕ)). Continues old new (λ taken. AreRead c.args.seed taken items)) (sym parted)
          (reads_more c.args.seed old now new _ sketch (sketches_in (map named_of c.loop.named.items)) c.loop.invariant.read c.in_ok-sketch.ensures.reads c.in-Some.is);
      whole = λ is. (c.in_ok-sketch.ensures.advances (c.loop.invariant.whole is)).0;
      names = λ is. name_more (names_of c.args.images.now.inputs.left.now) c.loop.images.inputs.left.now c.loop.named.items _ _ _ _ _ (c.loop.invariant.names is)
          (c.in_ok-sketch.ensures.advances (c.loop.invariant.whole is)).1 (c.in_ok-name-in-Some.ensures is) put;
    }

pub returns-in_err-sketch-clause-failed : goal.returns-in_err-sketch-clause-failed
returns-in_err-sketch-clause-failed g c =
    let old = remaining_images g.S.Source.Read.remaining g.S.Sources.texts c.args.images.now in
    let now = remaining_images g.S.Source.Read.remaining g.S.Sources.texts c.loop.images in
    let p = err_from_is_err_and c.from_residual.result c.from_residual.ensures.1 in
    let failed = IsOfImages false c.args.hex c.args.seed old in
    subst (λ r. IfErr r failed) (sym p.1) (subst failed (sym p.2)
    (fails_before false c.args.hex c.args.seed old now (λ taken. AreRead c.args.seed taken (sketches_in (map named_of c.loop.named.items))) c.in_err-sketch.field-0.0 c.loop.invariant.read c.in_err-sketch.ensures.failed))

pub returns-in-None-clause-named : goal.returns-in-None-clause-named
returns-in-None-clause-named g c = λ is.
    names_end (names_of c.args.images.now.inputs.left.now) (names_of c.loop.images.inputs.left.now) (map named_of c.loop.named.items) (c.loop.invariant.names is)
