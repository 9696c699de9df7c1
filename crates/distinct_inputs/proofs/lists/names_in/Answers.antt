use Rattle.std.proofs.Common.{[], ◌∷◌, ◌++◌, sym, ap, subst, ◌∙◌, append_assoc, arith}
use Rattle.std.specs.Prelude.{IfErr}
use Rattle.std.proofs.lemmas.Bool.Decides.{nat_tests}
use Rattle.std.proofs.lemmas.Result.{err_from_is_err_and}
use Rattle.distinct_inputs.specs.Lists.{names_of, names_in, IsListError}
use Rattle.distinct_inputs.proofs.ListNames.{name_ended, all_named, last_named, named_more, list_error, rest_named}
use Rattle.distinct_inputs.proofs.lists.names_in.Goals as goal

pub loop-name-preserved : goal.loop-name-preserved
loop-name-preserved c =
    let old = names_of c.loop-name.names.items in
    let name = c.in-Some.name.now in
    let others = c.in-Some.others.now in record {
      listed =
          c.loop-name.invariant.listed
          ∙ ap (λ ns. old ++ ns) (ap names_in c.in-Some.ensures.parts ∙ name_ended name others c.in-Some.ensures.lacks)
          ∙ sym (append_assoc old (name ∷ []) (names_in others))
          ∙ ap (λ ns. ns ++ names_in others) (sym c.in_ok-put_name.ensures.put);
      named = named_more old name _ c.loop-name.invariant.named c.in_ok-put_name.ensures.named c.in_ok-put_name.ensures.put;
    }

pub returns-then-is_empty-clause-names : goal.returns-then-is_empty-clause-names
returns-then-is_empty-clause-names c =
    all_named (names_of c.loop-name.names.items) c.loop-name.rest.now c.args.list.now c.loop-name.invariant.listed (grind (arith, nat_tests, c.is_empty.ensures, c.if-is_empty.true))

pub returns-clause-names : goal.returns-clause-names
returns-clause-names c =
    last_named (names_of c.loop-name.names.items) _ c.loop-name.rest.now c.args.list.now c.loop-name.invariant.listed c.in_default.ensures.none (grind (arith, nat_tests, c.is_empty.ensures, c.if-is_empty.false))
    c.in_ok-put_name-2.ensures.put

pub returns-in_err-put_name-clause-failed : goal.returns-in_err-put_name-clause-failed
returns-in_err-put_name-clause-failed c =
    let all = names_in c.args.list.now in
    let names = c.loop-name.names.items in
    let name = c.in-Some.name.now in
    let others = c.in-Some.others.now in
    let parted = c.loop-name.invariant.listed ∙ ap (λ ns. names_of names ++ ns) (ap names_in c.in-Some.ensures.parts ∙ name_ended name others c.in-Some.ensures.lacks) in
    let p = err_from_is_err_and c.from_residual.result c.from_residual.ensures.1 in
    subst (λ r. IfErr r (IsListError all)) (sym p.1) (subst (IsListError all) (sym p.2)
    (list_error names name (names_in others) all c.in_err-put_name.field-0.0 parted c.loop-name.invariant.named c.in_err-put_name.ensures.failed))

pub returns-in_err-put_name-2-clause-failed : goal.returns-in_err-put_name-2-clause-failed
returns-in_err-put_name-2-clause-failed c =
    let all = names_in c.args.list.now in
    let names = c.loop-name.names.items in
    let rest = c.loop-name.rest.now in
    let last = rest_named rest c.in_default.ensures.none (grind (arith, nat_tests, c.is_empty.ensures, c.if-is_empty.false)) in
    let parted = c.loop-name.invariant.listed ∙ ap (λ ns. names_of names ++ ns) last in
    let p = err_from_is_err_and c.from_residual-in_err-put_name-2.result c.from_residual-in_err-put_name-2.ensures.1 in
    subst (λ r. IfErr r (IsListError all)) (sym p.1) (subst (IsListError all) (sym p.2)
    (list_error names rest [] all c.in_err-put_name-2.field-0.0 parted c.loop-name.invariant.named c.in_err-put_name-2.ensures.failed))
