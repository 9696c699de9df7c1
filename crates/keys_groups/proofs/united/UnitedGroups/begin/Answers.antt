use Rattle.std.proofs.Common.{[], Some, ap, subst, sym}
use Rattle.std.specs.Prelude.{IfErr}
use Rattle.std.proofs.lemmas.Result.{err_from_is_err_and}
use Rattle.sketch_base.specs.Seed.{seed_hash}
use Rattle.core_images.specs.Read.{IsRefused}
use Rattle.theta_sketches.specs.Image.{IsReadable}
use Rattle.std.specs.BTreeMap.{UpdatesBy}
use Rattle.std.specs.Cmp.Lexicographic.{slice_cmp}
use Rattle.std.specs.Ordering.{nat_cmp}
use Rattle.keys_sketches.proofs.Unions.{nothing_united}
use Rattle.keys_groups.proofs.Entries.{changed_at}
use Rattle.keys_groups.proofs.united.UnitedGroups.begin.Goals as goal

pub returns-clause-begun : goal.returns-clause-begun
returns-clause-begun c =
    let new = c.in_ok-union.union in
    let made = c.in_ok-union.ensures.made in
    let now = c.add_image.new.self in (
      now,
      c.in_ok-add_image.ensures.united c.args.lg_k [] (nothing_united c.args.seed c.args.lg_k new made),
      c.in_ok-add_image.ensures.ready c.args.lg_k (record { sound = ap (λ u. u.failed) made; seeded = ap (λ u. u.seed_hash) made }),
      changed_at c.args.name.now c.args.self.now.map c.insert.new.self (Some now)
          (subst (λ text. UpdatesBy (λ x y. slice_cmp nat_cmp x.items y.items) (λ k. slice_cmp nat_cmp text k.items) c.args.self.now.map c.insert.new.self (Some now)) c.in_ok-key.ensures.items c.in_ok-insert.ensures.updates),
    )

pub returns-in_err-add_image-clause-refused : goal.returns-in_err-add_image-clause-refused
returns-in_err-add_image-clause-refused c =
    let seed = c.args.seed in
    let image = c.args.image.now in
    let made = c.in_ok-union.ensures.made in
    let p = err_from_is_err_and c.from_residual-in_err-add_image.result c.from_residual-in_err-add_image.ensures.1 in
    subst (λ r. IfErr r (λ e. IsRefused e (IsReadable image (seed_hash seed)))) (sym p.1)
    (subst (λ e. IsRefused e (IsReadable image (seed_hash seed))) (sym p.2) (c.in_err-add_image.ensures.refused c.args.lg_k (record { sound = ap (λ u. u.failed) made; seeded = ap (λ u. u.seed_hash) made })))
