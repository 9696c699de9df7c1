use Rattle.std.proofs.Common.{◌≡◌, ℕ, Bool, false, List, length, refl, sym, ap, subst, ◌∙◌, inr}
use Rattle.std.proofs.lemmas.Result.{err_from_is_err_and}
use Rattle.std.specs.Prelude.{◌≢◌, IfSome, IfOk, IfErr}
use Rattle.std.specs.Option.{option_map}
use Rattle.core_compact.specs.CompactState.{Compact}
use Rattle.theta_sketches.specs.Image.{written}
use Rattle.distinct_arguments.specs.Faults.{options_of}
use Rattle.distinct_arguments.specs.declared.commands.Operator.{Operator}
use Rattle.distinct_commands.specs.Answers.{IsCombinedOf, IsIntersectionImage, IsExpected}
use Rattle.keys_joins.specs.Joins.{intersection_of}
use Rattle.distinct_messages.specs.Failures.{UnreadableIf}
use Rattle.distinct_inputs.specs.Failures.{unites_sums, AreCounted, IsOfCombining, IsOfImages}
use Rattle.distinct_inputs.specs.Images.{images_of, remaining_images}
use Rattle.distinct_commands.proofs.Failing.{not_combined, not_united}
use Rattle.distinct_commands.proofs.NextImages.{all_hold, all_images, met_of_known, not_two, count_read}
use Rattle.distinct_commands.proofs.job.Job.combine_inputs.Goals as goal

pub returns-clause-failed : goal.returns-clause-failed
returns-clause-failed g c =
    let images = c.new-images-in-Minus.result in
    let options = options_of c.args.self.options.now in
    let sketches = c.in_ok-sketches-in-Minus.sketches.items in
    let P : List (List ℕ) → Type 0 = λ all. length all ≢ 2 in
    let other : length sketches ≢ 2 = subst (λ sketches. length sketches ≢ 2) c.as_slice-in-Minus.ensures.value c.in-None.ensures.none in
    let left = all_hold g.S.Source.Read.remaining g.S.Sources.texts images false options.hex P c.new-images-in-Minus.ensures.sums c.new-images-in-Minus.ensures.hex c.new-images-in-Minus.ensures.closed
    (not_two c.args.self.seed (remaining_images g.S.Source.Read.remaining g.S.Sources.texts images) sketches c.in_ok-sketches-in-Minus.ensures.read other) in (
      c.in-Minus.is,
      inr (subst (λ inputs. IfSome (g.S.Sources.texts inputs.sources) (λ all. length (images_of false options.hex all) ≢ 2)) c.new-images-in-Minus.ensures.inputs left),
    )

pub returns-in-Union-clause-failed : goal.returns-in-Union-clause-failed
returns-in-Union-clause-failed g c =
    not_united c.union_of_inputs.result c.args.operator (options_of c.args.self.options.now) c.args.self.seed c.args.count (g.S.Sources.texts c.args.self.inputs.sources) c.in-Union.is c.union_of_inputs.ensures.failed

pub returns-in_err-sketches-in-Meet-clause-failed : goal.returns-in_err-sketches-in-Meet-clause-failed
returns-in_err-sketches-in-Meet-clause-failed g c =
    let images = c.new-images.result in
    let options = options_of c.args.self.options.now in
    let seed = c.args.self.seed in
    let f = c.in_err-sketches-in-Meet.field-0.0 in
    let p = err_from_is_err_and c.from_residual.result c.from_residual.ensures.1 in
    let failed = IsOfCombining c.args.operator options seed c.args.count (g.S.Sources.texts c.args.self.inputs.sources) in
    let all = subst (λ all. IsOfImages false options.hex seed all f) (all_images g.S.Source.Read.remaining g.S.Sources.texts images false options.hex c.new-images.ensures.sums c.new-images.ensures.hex c.new-images.ensures.closed) c.in_err-sketches-in-Meet.ensures.failed in
    subst (λ r. IfErr r failed) (sym p.1) (subst failed (sym p.2)
    (not_combined c.args.operator options seed c.args.count (g.S.Sources.texts c.args.self.inputs.sources) f (ap (λ (o : Operator). unites_sums o options) c.in-Meet.is)
    (subst (λ inputs. IsOfImages false options.hex seed (option_map (images_of false options.hex) (g.S.Sources.texts inputs.sources)) f) c.new-images.ensures.inputs all)))

pub returns-in_err-sketches-in-Minus-clause-failed : goal.returns-in_err-sketches-in-Minus-clause-failed
returns-in_err-sketches-in-Minus-clause-failed g c =
    let images = c.new-images-in-Minus.result in
    let options = options_of c.args.self.options.now in
    let seed = c.args.self.seed in
    let f = c.in_err-sketches-in-Minus.field-0.0 in
    let p = err_from_is_err_and c.from_residual-in_err-sketches-in-Minus.result c.from_residual-in_err-sketches-in-Minus.ensures.1 in
    let failed = IsOfCombining c.args.operator options seed c.args.count (g.S.Sources.texts c.args.self.inputs.sources) in
    let all = subst (λ all. IsOfImages false options.hex seed all f) (all_images g.S.Source.Read.remaining g.S.Sources.texts images false options.hex c.new-images-in-Minus.ensures.sums c.new-images-in-Minus.ensures.hex c.new-images-in-Minus.ensures.closed) c.in_err-sketches-in-Minus.ensures.failed in
    subst (λ r. IfErr r failed) (sym p.1) (subst failed (sym p.2)
    (not_combined c.args.operator options seed c.args.count (g.S.Sources.texts c.args.self.inputs.sources) f (ap (λ (o : Operator). unites_sums o options) c.in-Minus.is)
    (subst (λ inputs. IsOfImages false options.hex seed (option_map (images_of false options.hex) (g.S.Sources.texts inputs.sources)) f) c.new-images-in-Minus.ensures.inputs all)))

pub returns-in-Meet-clause-combined : goal.returns-in-Meet-clause-combined
returns-in-Meet-clause-combined g c =
    let images = c.new-images.result in
    let options = c.args.self.options.now in
    let sketches = c.in_ok-sketches-in-Meet.sketches.items in
    let seed = c.args.self.seed in
    let P : List (List ℕ) → Type 0 = λ all. IfOk c.meet_image.result (λ v. IsIntersectionImage seed all v.items × IsExpected options.expected (length all)) in
    let expected : IsExpected options.expected (length sketches) = subst (IsExpected options.expected) (c.len.ensures ∙ c.in_ok-sketches-in-Meet.sketches.ok.0) c.in_ok-check_count-in-Meet.ensures.counted in
    let image = subst (λ (ss : List (Compact ℕ)). IfOk c.meet_image.result (λ v. v.items ≡ written (intersection_of seed ss))) c.as_slice.ensures.value c.meet_image.ensures.image in
    let left = all_hold g.S.Source.Read.remaining g.S.Sources.texts images false options.hex P c.new-images.ensures.sums c.new-images.ensures.hex c.new-images.ensures.closed
    (met_of_known seed c.meet_image.result (λ v. v.items) options.expected (remaining_images g.S.Source.Read.remaining g.S.Sources.texts images) sketches c.in_ok-sketches-in-Meet.ensures.read image expected) in
    subst (λ (o : Operator). IfSome (g.S.Sources.texts c.args.self.inputs.sources) (λ texts. IfOk c.meet_image.result (λ v. IsCombinedOf o (options_of options) seed texts v.items))) (sym c.in-Meet.is)
    (subst (λ inputs. IfSome (g.S.Sources.texts inputs.sources) (λ all. IfOk c.meet_image.result (λ v. IsIntersectionImage seed (images_of false options.hex all) v.items × IsExpected options.expected (length (images_of false options.hex all))))) c.new-images.ensures.inputs left)

pub returns-in_err-check_count-in-Meet-clause-failed : goal.returns-in_err-check_count-in-Meet-clause-failed
returns-in_err-check_count-in-Meet-clause-failed g c =
    let images = c.new-images.result in
    let options = options_of c.args.self.options.now in
    let seed = c.args.self.seed in
    let texts = g.S.Sources.texts c.args.self.inputs.sources in
    let failed = IsOfCombining c.args.operator options seed c.args.count texts in
    let sketches = c.in_ok-sketches-in-Meet.sketches.items in
    let found = c.len.result in
    let p = err_from_is_err_and c.from_residual-in_err-check_count-in-Meet.result c.from_residual-in_err-check_count-in-Meet.ensures.1 in
    let read = count_read seed (remaining_images g.S.Source.Read.remaining g.S.Sources.texts images) sketches found c.in_ok-sketches-in-Meet.ensures.read (c.len.ensures ∙ c.in_ok-sketches-in-Meet.sketches.ok.0) in
    let known = subst (λ all. AreCounted found all) (all_images g.S.Source.Read.remaining g.S.Sources.texts images false options.hex c.new-images.ensures.sums c.new-images.ensures.hex c.new-images.ensures.closed) read in
    let counted = subst (λ inputs. AreCounted found (option_map (images_of false options.hex) (g.S.Sources.texts inputs.sources))) c.new-images.ensures.inputs known in
    let sums = ap (λ (o : Operator). unites_sums o options) c.in-Meet.is in
    subst (λ r. IfErr r failed) (sym p.1) (subst failed (sym p.2)
    (c.in_err-check_count-in-Meet.ensures.of_operator c.args.operator options seed c.args.count texts refl
    (subst (λ (b : Bool). AreCounted found (option_map (images_of b options.hex) texts)) (sym sums) counted)))

pub returns-in_err-check_count-in-Meet-clause-fallible : goal.returns-in_err-check_count-in-Meet-clause-fallible
returns-in_err-check_count-in-Meet-clause-fallible g c =
    let unreadable = UnreadableIf g.S.Sources.may_fail in
    let p = err_from_is_err_and c.from_residual-in_err-check_count-in-Meet.result c.from_residual-in_err-check_count-in-Meet.ensures.1 in
    subst (λ r. IfErr r unreadable) (sym p.1) (subst unreadable (sym p.2) (c.in_err-check_count-in-Meet.ensures.fallible g.S.Sources.may_fail))
