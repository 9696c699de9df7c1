use Rattle.std.proofs.Common.{ℕ, false, List, length, refl, sym, subst, ◌∙◌, inl, inr}
use Rattle.std.proofs.lemmas.Result.{err_from_is_err_and}
use Rattle.std.specs.Prelude.{◌≢◌, IfSome, IfOk, IfErr}
use Rattle.std.specs.Option.{option_map}
use Rattle.distinct_arguments.specs.Faults.{options_of}
use Rattle.distinct_inputs.specs.Failures.{IsOfImages}
use Rattle.distinct_inputs.specs.Images.{images_of, remaining_images}
use Rattle.distinct_commands.specs.Failing.{IsOfPair}
use Rattle.distinct_commands.specs.Similarity.{IsCompared}
use Rattle.distinct_commands.proofs.NextImages.{all_hold, all_images, not_two}
use Rattle.distinct_commands.proofs.Overlaps.{compared_if_known}
use Rattle.distinct_commands.proofs.job.Job.compare_inputs.Goals as goal

pub returns-in_err-sketches-clause-failed : goal.returns-in_err-sketches-clause-failed
returns-in_err-sketches-clause-failed g c =
    let images = c.new-images.result in
    let options = options_of c.args.self.options.now in
    let seed = c.args.self.seed in
    let f = c.in_err-sketches.field-0.0 in
    let p = err_from_is_err_and c.from_residual.result c.from_residual.ensures.1 in
    let failed = IsOfPair options seed c.args.count (g.S.Sources.texts c.args.self.inputs.sources) in
    let all = subst (λ all. IsOfImages false options.hex seed all f) (all_images g.S.Source.Read.remaining g.S.Sources.texts images false options.hex c.new-images.ensures.sums c.new-images.ensures.hex c.new-images.ensures.closed) c.in_err-sketches.ensures.failed in
    subst (λ r. IfErr r failed) (sym p.1) (subst failed (sym p.2)
    (inl (subst (λ inputs. IsOfImages false options.hex seed (option_map (images_of false options.hex) (g.S.Sources.texts inputs.sources)) f) c.new-images.ensures.inputs all)))

pub returns-clause-failed : goal.returns-clause-failed
returns-clause-failed g c =
    let images = c.new-images.result in
    let options = options_of c.args.self.options.now in
    let sketches = c.in_ok-sketches.sketches.items in
    let P : List (List ℕ) → Type 0 = λ all. length all ≢ 2 in
    let other : length sketches ≢ 2 = subst (λ sketches. length sketches ≢ 2) c.as_slice-all.ensures.value c.in-None.ensures.none in
    let left = all_hold g.S.Source.Read.remaining g.S.Sources.texts images false options.hex P c.new-images.ensures.sums c.new-images.ensures.hex c.new-images.ensures.closed
    (not_two c.args.self.seed (remaining_images g.S.Source.Read.remaining g.S.Sources.texts images) sketches c.in_ok-sketches.ensures.read other) in
    inr (refl, inr (subst (λ inputs. IfSome (g.S.Sources.texts inputs.sources) (λ all. length (images_of false options.hex all) ≢ 2)) c.new-images.ensures.inputs left))

pub returns-in-Some-clause-compared : goal.returns-in-Some-clause-compared
returns-in-Some-clause-compared g c =
    let images = c.new-images.result in
    let options = options_of c.args.self.options.now in
    let seed = c.args.self.seed in
    let sketches = c.in_ok-sketches.sketches.items in
    let r = c.similarity_text.result in
    let P : List (List ℕ) → Type 0 = λ all. IfOk r (λ v. IsCompared options seed all v.items) in
    let two = sym c.as_slice-all.ensures.value ∙ c.in-Some.ensures.some in
    let left = all_hold g.S.Source.Read.remaining g.S.Sources.texts images false options.hex P c.new-images.ensures.sums c.new-images.ensures.hex c.new-images.ensures.closed
    (compared_if_known seed options r (λ v. v.items) (remaining_images g.S.Source.Read.remaining g.S.Sources.texts images) sketches c.in-Some.first.now c.in-Some.second.now c.in_ok-sketches.ensures.read two c.similarity_text.ensures.text) in
    subst (λ inputs. IfSome (g.S.Sources.texts inputs.sources) (λ all. IfOk r (λ v. IsCompared options seed (images_of false options.hex all) v.items))) c.new-images.ensures.inputs left
