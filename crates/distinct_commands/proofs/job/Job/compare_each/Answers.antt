use Rattle.std.proofs.Common.{◌≡◌, ◌<◌, ◌++◌, ℕ, false, List, length, map, refl, sym, ap, subst, ◌∙◌, inl, inr, arith}
use Rattle.std.proofs.lemmas.Result.{err_from_is_err_and}
use Rattle.std.proofs.lemmas.Bool.Decides.{nat_tests}
use Rattle.std.specs.Prelude.{IfSome, IfOk, IfErr}
use Rattle.std.specs.Option.{option_map}
use Rattle.distinct_arguments.specs.Faults.{options_of}
use Rattle.distinct_inputs.specs.Failures.{IsOfImages}
use Rattle.distinct_inputs.specs.Images.{images_of, remaining_images}
use Rattle.distinct_inputs.specs.Lists.{names_of}
use Rattle.distinct_commands.specs.Failing.{IsOfPairs}
use Rattle.distinct_commands.specs.Matrix.{named_of, matrix_head, pairs_text, AreNamed, IsMatrix}
use Rattle.distinct_commands.specs.declared.matrix.Named.{Named}
use Rattle.distinct_commands.proofs.NextImages.{all_hold, all_images}
use Rattle.distinct_commands.proofs.Pairs.{matrix_if_known, few_read}
use Rattle.distinct_commands.proofs.job.Job.compare_each.Goals as goal

pub returns-in_err-sketches-clause-failed : goal.returns-in_err-sketches-clause-failed
returns-in_err-sketches-clause-failed g c =
    let images = c.new-images.result in
    let options = options_of c.args.self.options.now in
    let seed = c.args.self.seed in
    let f = c.in_err-sketches.field-0.0 in
    let p = err_from_is_err_and c.from_residual.result c.from_residual.ensures.1 in
    let failed = IsOfPairs options seed (length c.args.files.now) (g.S.Sources.texts c.args.self.inputs.sources) in
    let all = subst (λ all. IsOfImages false options.hex seed all f) (all_images g.S.Source.Read.remaining g.S.Sources.texts images false options.hex c.new-images.ensures.sums c.new-images.ensures.hex c.new-images.ensures.closed) c.in_err-sketches.ensures.failed in
    subst (λ r. IfErr r failed) (sym p.1) (subst failed (sym p.2)
    (inl (subst (λ inputs. IsOfImages false options.hex seed (option_map (images_of false options.hex) (g.S.Sources.texts inputs.sources)) f) c.new-images.ensures.inputs all)))

pub returns-then-len-lt2-clause-failed : goal.returns-then-len-lt2-clause-failed
returns-then-len-lt2-clause-failed g c =
    let images = c.new-images.result in
    let options = options_of c.args.self.options.now in
    let items = c.in_ok-sketches.sketches.items in
    let P : List (List ℕ) → Type 0 = λ all. length all < 2 in
    let left = all_hold g.S.Source.Read.remaining g.S.Sources.texts images false options.hex P c.new-images.ensures.sums c.new-images.ensures.hex c.new-images.ensures.closed
    (few_read c.args.self.seed (remaining_images g.S.Source.Read.remaining g.S.Sources.texts images) items c.in_ok-sketches.ensures.read (grind (arith, nat_tests, c.if-len-lt2.true, c.len.ensures, c.in_ok-sketches.sketches.ok.0))) in
    inr (refl, inr (subst (λ inputs. IfSome (g.S.Sources.texts inputs.sources) (λ all. length (images_of false options.hex all) < 2)) c.new-images.ensures.inputs left))

pub returns-clause-printed : goal.returns-clause-printed
returns-clause-printed g c =
    let images = c.new-images.result in
    let options = options_of c.args.self.options.now in
    let seed = c.args.self.seed in
    let names = names_of c.args.files.now in
    let items = c.in_ok-sketches.sketches.items in
    let r = c.matrix_text.result in
    let P : List (List ℕ) → Type 0 = λ all. IfOk r (λ v. IsMatrix options seed names all v.items) in
    let same = ap (λ i. i.left.now) c.new-images.ensures.inputs ∙ c.requires.named in
    let named : options.hex ≡ false → AreNamed names (map named_of items) = λ is. subst (λ l. AreNamed (names_of l) (map named_of items)) same (c.in_ok-sketches.ensures.named is) in
    let text = subst (λ (l : List Named). IfOk r (λ v. v.items ≡ matrix_head options.form ++ pairs_text options seed (map named_of l))) c.as_slice.ensures.value c.matrix_text.ensures.text in
    let left = all_hold g.S.Source.Read.remaining g.S.Sources.texts images false options.hex P c.new-images.ensures.sums c.new-images.ensures.hex c.new-images.ensures.closed
    (matrix_if_known r (λ v. v.items) options seed names (remaining_images g.S.Source.Read.remaining g.S.Sources.texts images) (map named_of items) c.in_ok-sketches.ensures.read named text) in
    subst (λ inputs. IfSome (g.S.Sources.texts inputs.sources) (λ all. IfOk r (λ v. IsMatrix options seed names (images_of false options.hex all) v.items))) c.new-images.ensures.inputs left
