use Rattle.std.proofs.Common.{sym, subst, ◌∙◌, inl}
use Rattle.std.specs.Prelude.{IfErr}
use Rattle.std.proofs.lemmas.Result.{err_from_is_err_and}
use Rattle.sketch_base.specs.Seed.{seed_hash}
use Rattle.core_laws.specs.Entries.{hash_key}
use Rattle.core_images.specs.Read.{IsRefused}
use Rattle.theta_sketches.specs.Image.{IsReadable}
use Rattle.keys_sketches.proofs.Refused.{read_seed, ready_accepts, union_memory}
use Rattle.theta_sketches.specs.View.{view_shows, view_sequence}
use Rattle.keys_sketches.proofs.Unions.{image_more}
use Rattle.keys_sketches.proofs.uniting.ThetaUnionImageUnion.add_image.Goals as goal

pub returns-clause-united : goal.returns-clause-united
returns-clause-united g c = λ lg_k images has.
    image_more c.args.seed lg_k images c.args.image.now c.in_ok-sketch.sketch c.args.self.now c.update.new.self (view_shows c.as_view.result) (view_sequence c.as_view.result) has c.in_ok-sketch.ensures.reads
    c.in_ok-update.ensures.skipped c.in_ok-update.ensures.united c.as_view.ensures.value c.in_ok-update.ensures.made_with

pub returns-in_err-update-clause-refused : goal.returns-in_err-update-clause-refused
returns-in_err-update-clause-refused g c = λ lg_k ready.
    let shows = view_shows c.as_view.result in
    let result = c.from_residual-in_err-update.result in
    let p = err_from_is_err_and result c.from_residual-in_err-update.ensures.1 in
    let seed = read_seed c.args.image.now (seed_hash c.args.seed) c.in_ok-sketch.sketch c.in_ok-sketch.ensures.reads in
    let none = ready_accepts hash_key c.args.seed c.args.self.now c.in_ok-sketch.sketch shows ready seed c.as_view.ensures.shows in
    let memory = union_memory c.args.self.now c.update.new.self shows c.in_err-update.field-0.0 none c.in_err-update.ensures.refused in
    subst (λ r. IfErr r (λ e. IsRefused e (IsReadable c.args.image.now (seed_hash c.args.seed)))) (sym p.1) (inl (p.2 ∙ memory))
