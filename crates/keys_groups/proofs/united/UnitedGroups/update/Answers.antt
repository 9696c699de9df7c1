use Rattle.std.proofs.Common.{Some, sym, subst, refl}
use Rattle.std.specs.Prelude.{IsSome, IfErr}
use Rattle.std.proofs.lemmas.Result.{err_from_is_err_and}
use Rattle.sketch_base.specs.Seed.{seed_hash}
use Rattle.core_images.specs.Read.{IsRefused}
use Rattle.theta_sketches.specs.Image.{IsReadable}
use Rattle.keys_groups.proofs.Entries.{changed_at}
use Rattle.keys_groups.proofs.ImagesInGroups.{ready_at}
use Rattle.keys_groups.proofs.united.UnitedGroups.update.Goals as goal

pub returns-in_ok-add_image-in-Some-clause-updated : goal.returns-in_ok-add_image-in-Some-clause-updated
returns-in_ok-add_image-in-Some-clause-updated c =
    let was = c.in-Some.union.now in
    let now = c.add_image.new.self in
    let value = c.in-Some.ensures.value in
    let made = c.in_ok-add_image-in-Some.ensures in (
      was,
      now,
      sym value,
      (made.united, made.ready 0 (ready_at c.args.seed 0 c.args.self.now.map c.args.name.now was c.requires.ready value)),
      changed_at c.args.name.now c.args.self.now.map (c.get_mut.follows.lender now) (Some now) ((c.get_mut.follows.holds now).3 (subst (λ o. IsSome o) value refl)),
    )

pub returns-in_err-add_image-in-Some-clause-refused : goal.returns-in_err-add_image-in-Some-clause-refused
returns-in_err-add_image-in-Some-clause-refused c =
    let seed = c.args.seed in
    let image = c.args.image.now in
    let p = err_from_is_err_and c.from_residual.result c.from_residual.ensures.1 in
    let ready = ready_at seed 0 c.args.self.now.map c.args.name.now c.in-Some.union.now c.requires.ready c.in-Some.ensures.value in
    subst (λ r. IfErr r (λ e. IsRefused e (IsReadable image (seed_hash seed)))) (sym p.1)
    (subst (λ e. IsRefused e (IsReadable image (seed_hash seed))) (sym p.2) (c.in_err-add_image-in-Some.ensures.refused 0 ready))
