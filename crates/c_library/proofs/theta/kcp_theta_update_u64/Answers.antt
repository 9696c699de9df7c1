use Rattle.std.proofs.Common.{Option, Some, ap, subst, ◌∙◌}
use Rattle.c_handles.specs.Calls.{OnObject}
use Rattle.c_objects.specs.Thetas.{UpdatesNumber}
use Rattle.c_objects.specs.declared.theta.SeededSketch.{SeededSketch}
use Rattle.c_library.proofs.theta.kcp_theta_update_u64.Goals as goal

pub returns-in-Some : goal.returns-in-Some
returns-in-Some c =
    let same = c.in-Some.ensures.value ∙ ap (λ o. o.value) c.owned.ensures.same in
    subst (λ (o : Option SeededSketch). OnObject (UpdatesNumber c.args.number) o c.update_number.result (Some c.update_number.new.theta)) same c.update_number.ensures
