use Rattle.std.proofs.Common.{◌≡◌, false, Result, Ok, Err, OnOk, sym, rules}
use Rattle.std.specs.Result.{is_err}
use Rattle.std.proofs.lemmas.List.Sorted.{IsNonDecreasingBy-from_sort_by_key}
use Rattle.core_operators.proofs.lists.sort_two_runs.Goals as goal

of_ok : {T E : Type 0} (r : Result T E) (P : Type 0) → is_err r ≡ false → OnOk r P → P
of_ok (Ok x) P sure p = p
of_ok (Err e) P sure p = absurd (cc)

pub returns-else-is_err-clause-ascending : goal.returns-else-is_err-clause-ascending
returns-else-is_err-clause-ascending g c = IsNonDecreasingBy-from_sort_by_key g.E.SketchEntry.key _ (of_ok c.sort_by_key-sorted.result _ (sym c.if-is_err.ensures.value) c.sort_by_key-sorted.ensures.sorted) (λ a r q k. search rules)
