use Rattle.std.proofs.Common.{Option, Some, ap, subst, ◌∙◌}
use Rattle.c_handles.specs.Calls.{OnObject}
use Rattle.c_objects.specs.Sums.{AddsAtBytes}
use Rattle.c_objects.specs.declared.sums.SeededSums.{SeededSums}
use Rattle.c_library.proofs.sums.kcp_sums_add_bytes.Goals as goal

pub returns-in-Some : goal.returns-in-Some
returns-in-Some c =
    let same = c.in-Some.ensures.value ∙ ap (λ o. o.value) c.owned.ensures.same in
    subst (λ (o : Option SeededSums). OnObject (AddsAtBytes c.args.bytes.now c.args.value) o c.add_at_bytes.result (Some c.add_at_bytes.new.sums)) same c.add_at_bytes.ensures
