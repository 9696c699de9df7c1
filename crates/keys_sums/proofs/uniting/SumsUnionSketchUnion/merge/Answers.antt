use Rattle.std.proofs.Common.{ℕ, ◌^◌, ◌∷◌, map, sym, subst, ap, ◌∙◌}
use Rattle.std.specs.Prelude.{IfErr}
use Rattle.std.proofs.lemmas.Result.{err_from_is_err_and}
use Rattle.sketch_base.specs.Seed.{seed_hash}
use Rattle.core_laws.specs.Folds.{fold_key, unmarked_value}
use Rattle.core_laws.specs.Operators.{unite}
use Rattle.core_laws.specs.Shown.{shown_value}
use Rattle.core_operators.specs.Union.{Union, union_value}
use Rattle.core_slots.specs.Entry.{tuple_key}
use Rattle.core_slots.specs.declared.entry.TupleEntry.{TupleEntry}
use Rattle.core_state.specs.View.{shows, sequence}
use Rattle.keys_sketches.specs.Refusals.{IsMergeError}
use Rattle.keys_sketches.proofs.Waiting.{ready_after, read_seeded, all_accepted}
use Rattle.keys_sums.specs.Images.{ReadsSumsUnder}
use Rattle.tuple_sketches.specs.declared.numbers.SummaryMode.{SummaryMode}
use Rattle.tuple_sketches.specs.declared.numbers.NumberPolicy.{NumberPolicy}
use Rattle.keys_sums.specs.Unions.{merge_folds, merge_refusal}
use Rattle.keys_sums.proofs.RefusedSums.{not_merged, sums_seed}
use Rattle.keys_sums.proofs.UnitedSums.{sums_more}
use Rattle.keys_sums.proofs.uniting.SumsUnionSketchUnion.merge.Goals as goal

pub returns-clause-united : goal.returns-clause-united
returns-clause-united g c = λ seed settings first others has reads.
    let old = c.args.self.now.union.state in
    let values = ap (map (λ view. unmarked_value (shown_value tuple_key (shows tuple_key view) (sequence view)))) c.as_slice.ensures.value ∙ c.in_ok-views.ensures.values in
    sums_more settings.mode seed settings.lg_k first others c.args.sketches.now old c.update_all.new.self.state has reads
    (c.in_ok-update_all.ensures.united ∙ ap (λ vs. unite (fold_key tuple_key) (merge_folds old.policy.mode) (2 ^ old.lg_k) old.start (unmarked_value (union_value tuple_key old) ∷ vs)) values)
    c.in_ok-update_all.ensures.made_with

pub returns-clause-ready : goal.returns-clause-ready
returns-clause-ready g c = λ seed settings ready. record {
  same_mode = ap (λ (u : Union (TupleEntry ℕ) NumberPolicy). u.policy.mode) c.in_ok-update_all.ensures.made_with ∙ ready.same_mode;
  ready = ready_after seed c.args.self.now.union.state c.update_all.new.self.state ready.ready c.in_ok-update_all.ensures.made_with;
}

pub returns-in_err-update_all-clause-refused : goal.returns-in_err-update_all-clause-refused
returns-in_err-update_all-clause-refused g c = λ seed settings images ready reads.
    let p = err_from_is_err_and c.from_residual-in_err-update_all.result c.from_residual-in_err-update_all.ensures.1 in
    let views = c.as_slice.result.now in
    let old = c.args.self.now.union.state in
    let shown = ap (map (λ view. shows tuple_key view)) c.as_slice.ensures.value ∙ c.in_ok-views.ensures.shown in
    let seeded = read_seeded (ReadsSumsUnder seed) (seed_hash seed) (λ image s. sums_seed image (seed_hash seed) s) images c.args.sketches.now reads in
    let none = all_accepted tuple_key (λ v. shows tuple_key v) seed old views c.args.sketches.now shown ready.ready seeded in
    let refused = subst (λ (m : SummaryMode). IsMergeError (merge_refusal m) c.in_err-update_all.field-0.0) ready.same_mode
    (not_merged old.policy.mode old c.update_all.new.self.state (λ v. shows tuple_key v) (λ v. sequence v) views c.in_err-update_all.field-0.0 none c.in_err-update_all.ensures.refused) in
    subst (λ r. IfErr r (IsMergeError (merge_refusal settings.mode))) (sym p.1) (subst (IsMergeError (merge_refusal settings.mode)) (sym p.2) refused)
