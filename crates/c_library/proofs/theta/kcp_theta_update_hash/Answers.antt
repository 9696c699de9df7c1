use Rattle.std.proofs.Common.{Option, Some, ap, subst, ◌∙◌}
use Rattle.c_handles.specs.Calls.{OnObject}
use Rattle.c_objects.specs.Thetas.{UpdatesHash}
use Rattle.c_objects.specs.declared.theta.SeededSketch.{SeededSketch}
use Rattle.c_library.proofs.theta.kcp_theta_update_hash.Goals as goal

pub returns-in-Some : goal.returns-in-Some
returns-in-Some c =
    let same = c.in-Some.ensures.value ∙ ap (λ o. o.value) c.owned.ensures.same in
    subst (λ (o : Option SeededSketch). OnObject (UpdatesHash c.args.hash) o c.update_hash.result (Some c.update_hash.new.theta)) same c.update_hash.ensures
