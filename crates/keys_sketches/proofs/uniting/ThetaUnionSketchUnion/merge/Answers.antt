use Rattle.std.proofs.Common.{◌^◌, ◌∷◌, map, sym, subst, ap, ◌∙◌, inl, None}
use Rattle.std.specs.Prelude.{IfErr}
use Rattle.std.proofs.lemmas.Result.{err_from_is_err_and}
use Rattle.sketch_base.specs.Seed.{seed_hash}
use Rattle.core_laws.specs.Entries.{hash_key, first_hash}
use Rattle.core_laws.specs.Operators.{unite}
use Rattle.core_laws.specs.Shown.{shown_value}
use Rattle.core_operators.specs.Union.{union_value}
use Rattle.theta_sketches.specs.View.{view_shows, view_sequence}
use Rattle.keys_sketches.specs.Refusals.{IsMergeError}
use Rattle.keys_sketches.specs.Shards.{ReadsUnder}
use Rattle.keys_sketches.proofs.Refused.{read_seed}
use Rattle.keys_sketches.proofs.Waiting.{images_more, ready_after, read_seeded, all_accepted, all_memory}
use Rattle.keys_sketches.proofs.uniting.ThetaUnionSketchUnion.merge.Goals as goal

pub returns-clause-united : goal.returns-clause-united
returns-clause-united g c = λ seed lg_k first others has reads.
    let old = c.args.self.now in
    let values = ap (map (λ view. shown_value hash_key (view_shows view) (view_sequence view))) c.as_slice.ensures.value ∙ c.in_ok-views.ensures.values in
    images_more seed lg_k first others c.args.sketches.now old c.update_all.new.self has reads
    (c.in_ok-update_all.ensures.united ∙ ap (λ vs. unite hash_key first_hash (2 ^ old.lg_k) old.start (union_value hash_key old ∷ vs)) values)
    c.in_ok-update_all.ensures.made_with

pub returns-clause-ready : goal.returns-clause-ready
returns-clause-ready g c = λ seed lg_k ready. ready_after seed c.args.self.now c.update_all.new.self ready c.in_ok-update_all.ensures.made_with

pub returns-in_err-update_all-clause-refused : goal.returns-in_err-update_all-clause-refused
returns-in_err-update_all-clause-refused g c = λ seed lg_k images ready reads.
    let p = err_from_is_err_and c.from_residual-in_err-update_all.result c.from_residual-in_err-update_all.ensures.1 in
    let views = c.as_slice.result.now in
    let shown = ap (map (λ view. view_shows view)) c.as_slice.ensures.value ∙ c.in_ok-views.ensures.shown in
    let seeded = read_seeded (ReadsUnder seed) (seed_hash seed) (λ image s. read_seed image (seed_hash seed) s) images c.args.sketches.now reads in
    let none = all_accepted hash_key (λ v. view_shows v) seed c.args.self.now views c.args.sketches.now shown ready seeded in
    let memory = all_memory (λ v. view_shows v) c.args.self.now c.update_all.new.self views c.in_err-update_all.field-0.0 none c.in_err-update_all.ensures.refused in
    subst (λ r. IfErr r (IsMergeError None)) (sym p.1) (inl (p.2 ∙ memory))
