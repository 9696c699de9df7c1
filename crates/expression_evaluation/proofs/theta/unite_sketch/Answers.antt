use Rattle.std.proofs.Common.{None, refl, ◌∙◌}
use Rattle.std.proofs.lemmas.Result.{err_from_is_err_and}
use Rattle.core_compact.specs.CompactState.{compact_value}
use Rattle.core_laws.specs.Entries.{hash_key, first_hash}
use Rattle.theta_sketches.specs.View.{view_shows, view_sequence}
use Rattle.expression_evaluation.proofs.TwoSketches.{refuses_memory, union_accepts, union_memory, one_more}
use Rattle.expression_evaluation.proofs.theta.unite_sketch.Goals as goal

pub returns-clause-united : goal.returns-clause-united
returns-clause-united g c = λ values so_far.
    one_more hash_key first_hash (λ x y same. same) c.args.union.now c.update.new.self (view_shows c.as_view.result) (view_sequence c.as_view.result) (compact_value hash_key c.args.sketch.now) c.in_ok-update.ensures.skipped c.in_ok-update.ensures.united c.as_view.ensures.value values so_far

pub returns-in_err-update-clause-refused : goal.returns-in_err-update-clause-refused
returns-in_err-update-clause-refused g c =
    let old = c.args.union.now in
    let shows = view_shows c.as_view.result in
    let p = err_from_is_err_and c.from_residual.result c.from_residual.ensures.1 in
    let none = union_accepts hash_key old c.args.sketch.now shows old.seed_hash c.requires.sound refl c.requires.seed c.as_view.ensures.shows in
    refuses_memory c.from_residual.result None p.0 p.1 (p.2 ∙ union_memory old c.update.new.self shows c.in_err-update.field-0.0 none c.in_err-update.ensures.refused)
