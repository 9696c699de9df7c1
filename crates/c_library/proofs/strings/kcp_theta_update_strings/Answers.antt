use Rattle.std.proofs.Common.{Option, Some, ap, subst, ◌∙◌}
use Rattle.c_handles.specs.Calls.{OnObject}
use Rattle.c_objects.specs.Strings.{UpdatesStrings}
use Rattle.c_objects.specs.declared.theta.SeededSketch.{SeededSketch}
use Rattle.c_library.proofs.strings.kcp_theta_update_strings.Goals as goal

pub returns-in-Some : goal.returns-in-Some
returns-in-Some c =
    let same = c.in-Some.ensures.value ∙ ap (λ o. o.value) c.owned.ensures.same in
    let done = c.update_strings.ensures in
    subst (λ (o : Option SeededSketch). OnObject (UpdatesStrings c.args.bytes.now c.args.ends.now) o c.update_strings.result (Some c.update_strings.new.theta)) same done
