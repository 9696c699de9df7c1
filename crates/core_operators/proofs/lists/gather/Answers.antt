use Rattle.std.proofs.Common.{◌≡◌, ◌++◌, Result, Ok, Err, OnOk, OnErr, inr, subst, IsPermutation}
use Rattle.core_laws.specs.Maps.{map_of}
use Rattle.core_table.proofs.OtherOrders.{sorted_map}
use Rattle.core_operators.proofs.lists.gather.Given.{Over}
use Rattle.core_operators.proofs.lists.gather.Goals as goal

-- what holds in any case
on_ok_too : {T E : Type 0} (r : Result T E) (P : Type 0) → P → OnOk r P
on_ok_too (Ok x) P p = p
on_ok_too (Err e) P p = tt

on_err_too : {T E : Type 0} (r : Result T E) (P : Type 0) → P → OnErr r P
on_err_too (Ok x) P p = tt
on_err_too (Err e) P p = p

-- the entries of both are in one list
one_list : (g : Over) (c : goal.After-sort_two_runs g) → c.sort_two_runs.new.entries.items ≡ map_of g.E.SketchEntry.key (c.args.lists.now.held.items ++ c.args.lists.now.added.items)
one_list g c =
    let permuted = subst (λ ys. IsPermutation ys c.sort_two_runs.new.entries.items) c.in_ok-append.ensures.items c.sort_two_runs.ensures.permutation in
    sorted_map g.E.SketchEntry.key (c.args.lists.now.held.items ++ c.args.lists.now.added.items) _ permuted c.sort_two_runs.ensures.ascending c.requires

pub returns-clause-held : goal.returns-clause-held
returns-clause-held g c = on_ok_too c.sort_two_runs.result _ (one_list g c)

pub returns-clause-err : goal.returns-clause-err
returns-clause-err g c = on_err_too c.sort_two_runs.result _ (inr (one_list g c, c.in_ok-append.ensures.other_items))
