use Rattle.std.proofs.Common.{Option, Some, ap, subst, ◌∙◌}
use Rattle.c_handles.specs.Calls.{OnObject}
use Rattle.c_objects.specs.Thetas.{InsertsHash}
use Rattle.c_objects.specs.declared.theta.SeededSketch.{SeededSketch}
use Rattle.c_library.proofs.theta.kcp_theta_insert_hash.Goals as goal

pub returns-in-Some-clause-inserts : goal.returns-in-Some-clause-inserts
returns-in-Some-clause-inserts c =
    let same = c.in-Some.ensures.value ∙ ap (λ o. o.value) c.owned.ensures.same in
    subst (λ (o : Option SeededSketch). OnObject (InsertsHash c.args.hash c.args.out.now c.insert_hash.new.out) o c.insert_hash.result (Some c.insert_hash.new.theta)) same
    c.insert_hash.ensures.inserts
