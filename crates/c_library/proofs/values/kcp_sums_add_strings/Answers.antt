use Rattle.std.proofs.Common.{Option, Some, ap, subst, ◌∙◌}
use Rattle.c_handles.specs.Calls.{OnObject}
use Rattle.c_objects.specs.Values.{AddsAtStrings}
use Rattle.c_objects.specs.declared.sums.SeededSums.{SeededSums}
use Rattle.c_library.proofs.values.kcp_sums_add_strings.Goals as goal

pub returns-in-Some-clause-made : goal.returns-in-Some-clause-made
returns-in-Some-clause-made c =
    let same = c.in-Some.ensures.value ∙ ap (λ o. o.value) c.owned.ensures.same in
    subst (λ (o : Option SeededSums). OnObject (AddsAtStrings c.args.bytes.now c.args.ends.now c.args.values.now c.add_at_strings.new.added) o c.add_at_strings.result (Some c.add_at_strings.new.sums)) same c.add_at_strings.ensures
