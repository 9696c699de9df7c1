use Rattle.std.proofs.Common.{◌≡◌, length, Option, sym, subst, arith}
use Rattle.std.specs.Prelude.{IfErr}
use Rattle.std.proofs.lemmas.Result.{err_from_is_err_and}
use Rattle.std.proofs.lemmas.Bool.Decides.{nat_tests}
use Rattle.keys_groups.specs.declared.united.UnitedGroups.{UnitedGroups}
use Rattle.keys_joins.specs.Tables.{AreTablesOf}
use Rattle.keys_joins.specs.Reading.{HasNextUnions, IsJoinError}
use Rattle.keys_joins.proofs.FilesInTurn.{failed_behind, left_of, not_two}
use Rattle.keys_joins.proofs.reading.minus_groups.Goals as goal

pub returns-in_err-others-clause-failed : goal.returns-in_err-others-clause-failed
returns-in_err-others-clause-failed g c =
    let texts = g.S.Sources.texts c.args.sources.now in
    let mid = g.S.Sources.texts c.next_groups.new.sources in
    let p = err_from_is_err_and c.from_residual-in_err-others.result c.from_residual-in_err-others.ensures.1 in
    let next = subst (λ (o : Option UnitedGroups). HasNextUnions c.args.seed c.args.lg_k texts mid o) c.in-Some.is c.in_ok-first.ensures.next in
    subst (λ r. IfErr r (IsJoinError c.args.seed texts)) (sym p.1) (subst (IsJoinError c.args.seed texts) (sym p.2)
    (failed_behind c.args.seed c.args.lg_k texts mid c.in-Some.first c.in_err-others.field-0.0 next c.in_err-others.ensures.failed))

pub returns-then-len-ne1-clause-difference : goal.returns-then-len-ne1-clause-difference
returns-then-len-ne1-clause-difference g c =
    let texts = g.S.Sources.texts c.args.sources.now in
    let mid = g.S.Sources.texts c.next_groups.new.sources in
    let next = subst (λ (o : Option UnitedGroups). HasNextUnions c.args.seed c.args.lg_k texts mid o) c.in-Some.is c.in_ok-first.ensures.next in
    not_two c.args.seed c.args.lg_k texts mid c.in-Some.first c.in_ok-others.others.items next c.in_ok-others.ensures.tables (λ one. grind (arith, nat_tests, one, c.len.ensures, c.in_ok-others.others.ok, c.if-len-ne1.true))

pub returns-clause-difference : goal.returns-clause-difference
returns-clause-difference g c =
    let texts = g.S.Sources.texts c.args.sources.now in
    let mid = g.S.Sources.texts c.next_groups.new.sources in
    let next = subst (λ (o : Option UnitedGroups). HasNextUnions c.args.seed c.args.lg_k texts mid o) c.in-Some.is c.in_ok-first.ensures.next in
    let one : length c.in_ok-others.others.items ≡ 1 = grind (arith, nat_tests, c.len.ensures, c.in_ok-others.others.ok, c.if-len-ne1.false) in
    left_of c.args.seed c.args.lg_k texts mid c.in-Some.first c.in_ok-others.others.items c.in_ok-text.text.items next c.in_ok-others.ensures.tables one
    (λ file files listed seeded tables. c.in_ok-text.ensures.text file files listed seeded (subst (AreTablesOf files) (sym c.as_slice.ensures.value) tables))
