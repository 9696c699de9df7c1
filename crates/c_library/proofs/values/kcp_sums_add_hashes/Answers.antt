use Rattle.std.proofs.Common.{Option, Some, ap, subst, ◌∙◌}
use Rattle.c_handles.specs.Calls.{OnObject}
use Rattle.c_objects.specs.Values.{AddsValues}
use Rattle.c_objects.specs.declared.sums.SeededSums.{SeededSums}
use Rattle.c_library.proofs.values.kcp_sums_add_hashes.Goals as goal

pub returns-in-Some-clause-made : goal.returns-in-Some-clause-made
returns-in-Some-clause-made c =
    let same = c.in-Some.ensures.value ∙ ap (λ o. o.value) c.owned.ensures.same in
    subst (λ (o : Option SeededSums). OnObject (AddsValues c.args.hashes.now c.args.values.now c.add_at_hashes.new.added) o c.add_at_hashes.result (Some c.add_at_hashes.new.sums)) same c.add_at_hashes.ensures
