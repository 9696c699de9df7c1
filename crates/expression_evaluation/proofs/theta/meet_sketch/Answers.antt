use Rattle.std.proofs.Common.{Some, None, refl, ap, ◌∙◌}
use Rattle.std.proofs.lemmas.Result.{err_from_is_err_and}
use Rattle.core_laws.specs.Entries.{hash_key, first_hash}
use Rattle.core_laws.specs.Operators.{meet_next}
use Rattle.core_laws.specs.Values.{Sketch}
use Rattle.theta_sketches.specs.View.{view_shows}
use Rattle.expression_evaluation.proofs.TwoSketches.{refuses_memory, intersection_accepts, intersection_memory}
use Rattle.expression_evaluation.proofs.theta.meet_sketch.Goals as goal

pub returns-clause-met : goal.returns-clause-met
returns-clause-met g c = c.in_ok-update.ensures.met ∙ ap (λ (u : Sketch _). Some (meet_next hash_key first_hash c.args.intersection.now.result u)) c.as_view.ensures.value

pub returns-in_err-update-clause-refused : goal.returns-in_err-update-clause-refused
returns-in_err-update-clause-refused g c =
    let old = c.args.intersection.now in
    let shows = view_shows c.as_view.result in
    let p = err_from_is_err_and c.from_residual.result c.from_residual.ensures.1 in
    let none = intersection_accepts hash_key old c.args.sketch.now shows old.seed_hash refl c.as_view.ensures.shows c.requires in
    refuses_memory c.from_residual.result None p.0 p.1 (p.2 ∙ intersection_memory old shows c.in_err-update.field-0.0 none c.in_err-update.ensures.refused.1)
