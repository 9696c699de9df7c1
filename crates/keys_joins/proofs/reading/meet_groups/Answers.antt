use Rattle.std.proofs.Common.{Option, sym, subst}
use Rattle.std.specs.Prelude.{IfErr}
use Rattle.std.proofs.lemmas.Result.{err_from_is_err_and}
use Rattle.keys_groups.specs.declared.united.UnitedGroups.{UnitedGroups}
use Rattle.keys_joins.specs.Tables.{AreTablesOf}
use Rattle.keys_joins.specs.Reading.{HasNextUnions, IsJoinError}
use Rattle.keys_joins.proofs.FilesInTurn.{failed_behind, met}
use Rattle.keys_joins.proofs.reading.meet_groups.Goals as goal

pub returns-in_err-others-clause-failed : goal.returns-in_err-others-clause-failed
returns-in_err-others-clause-failed g c =
    let texts = g.S.Sources.texts c.args.sources.now in
    let mid = g.S.Sources.texts c.next_groups.new.sources in
    let p = err_from_is_err_and c.from_residual-in_err-others.result c.from_residual-in_err-others.ensures.1 in
    let next = subst (λ (o : Option UnitedGroups). HasNextUnions c.args.seed c.args.lg_k texts mid o) c.in-Some.is c.in_ok-first.ensures.next in
    subst (λ r. IfErr r (IsJoinError c.args.seed texts)) (sym p.1) (subst (IsJoinError c.args.seed texts) (sym p.2)
    (failed_behind c.args.seed c.args.lg_k texts mid c.in-Some.first c.in_err-others.field-0.0 next c.in_err-others.ensures.failed))

pub returns-clause-met : goal.returns-clause-met
returns-clause-met g c =
    let texts = g.S.Sources.texts c.args.sources.now in
    let mid = g.S.Sources.texts c.next_groups.new.sources in
    let next = subst (λ (o : Option UnitedGroups). HasNextUnions c.args.seed c.args.lg_k texts mid o) c.in-Some.is c.in_ok-first.ensures.next in
    met c.args.seed c.args.lg_k texts mid c.in-Some.first c.in_ok-others.others.items c.in_ok-joined_text.field-0.items next c.in_ok-others.ensures.tables
    (λ file files listed seeded tables. c.in_ok-joined_text.ensures.text file files listed seeded (subst (AreTablesOf files) (sym c.as_slice.ensures.value) tables))
