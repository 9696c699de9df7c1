use Rattle.std.proofs.Common.{Some, ap, ◌∙◌}
use Rattle.sketch_base.specs.Seed.{seed_hash}
use Rattle.core_laws.specs.Entries.{hash_key, first_hash}
use Rattle.core_laws.specs.Operators.{meet_next}
use Rattle.theta_sketches.specs.Streams.{view_value}
use Rattle.c_objects.proofs.Sampled.{common_answer, common_samples}
use Rattle.c_objects.proofs.images.intersection_of.Goals as goal

pub returns-clause-made : goal.returns-clause-made
returns-clause-made c =
    let none = c.in_ok-intersection.intersection in let one = c.update.new.self in let both = c.update-2.new.self in
    let start = c.in_ok-intersection.ensures in let first = c.in_ok-update.ensures in let second = c.in_ok-update-2.ensures in
    let a = c.as_view.ensures in let b = c.as_view-2.ensures in let e = c.in_ok-sketch.ensures in
    let o = c.in_ok-sketch.field-0 in let s = c.in-Some.sketch in (
      common_answer none one both _ _ (seed_hash c.args.seed) o s c.in-Some.is
          (ap (λ i. i.result) start.made) (ap (λ i. i.seed_hash) start.made)
          (first.met ∙ ap (λ v. Some (meet_next hash_key first_hash none.result v)) a.value) first.made_with
          (second.met ∙ ap (λ v. Some (meet_next hash_key first_hash one.result v)) b.value) second.made_with e.ok,
      common_samples none one both (view_value c.as_view.result) (view_value c.as_view-2.result) (seed_hash c.args.seed) o s c.in-Some.is
          c.args.first.now.sketch c.args.second.now.sketch start.given first.given second.given a.sample b.sample e.sample e.below,
    )
