use Rattle.std.proofs.Common.{Option, Some, ap, subst, ◌∙◌}
use Rattle.c_handles.specs.Calls.{OnObject}
use Rattle.c_objects.specs.Thetas.{UpdatesHashes}
use Rattle.c_objects.specs.declared.theta.SeededSketch.{SeededSketch}
use Rattle.c_library.proofs.theta.kcp_theta_update_hashes.Goals as goal

pub returns-in-Some : goal.returns-in-Some
returns-in-Some c =
    let same = c.in-Some.ensures.value ∙ ap (λ o. o.value) c.owned.ensures.same in
    subst (λ (o : Option SeededSketch). OnObject (UpdatesHashes c.args.hashes.now) o c.update_hashes.result (Some c.update_hashes.new.theta)) same c.update_hashes.ensures
