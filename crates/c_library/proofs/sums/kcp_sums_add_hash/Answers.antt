use Rattle.std.proofs.Common.{Option, Some, ap, subst, ◌∙◌}
use Rattle.c_handles.specs.Calls.{OnObject}
use Rattle.c_objects.specs.Sums.{AddsValue}
use Rattle.c_objects.specs.declared.sums.SeededSums.{SeededSums}
use Rattle.c_library.proofs.sums.kcp_sums_add_hash.Goals as goal

pub returns-in-Some : goal.returns-in-Some
returns-in-Some c =
    let same = c.in-Some.ensures.value ∙ ap (λ o. o.value) c.owned.ensures.same in
    subst (λ (o : Option SeededSums). OnObject (AddsValue c.args.hash c.args.value) o c.add_at_hash.result (Some c.add_at_hash.new.sums)) same c.add_at_hash.ensures
