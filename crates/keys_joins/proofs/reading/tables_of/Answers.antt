use Rattle.std.proofs.Common.{List, Option, sym, subst}
use Rattle.std.specs.Prelude.{IfErr}
use Rattle.std.proofs.lemmas.Result.{err_from_is_err_and}
use Rattle.keys_sketches.specs.Sources.{Continues}
use Rattle.keys_groups.specs.declared.united.UnitedGroups.{UnitedGroups}
use Rattle.keys_joins.specs.Reading.{AreTables, HasNextUnions, IsJoinError}
use Rattle.keys_joins.specs.declared.tables.SketchTable.{SketchTable}
use Rattle.keys_joins.proofs.FilesInTurn.{no_tables, tables_more, tables_end, failed_later}
use Rattle.keys_joins.proofs.reading.tables_of.Goals as goal

pub loop-init : goal.loop-init
loop-init g c =
    let texts = g.S.Sources.texts c.args.sources.now in
    subst (λ (items : List SketchTable). Continues texts texts (λ taken. AreTables c.args.seed c.args.lg_k taken items)) (sym c.new-tables.ensures.items) (no_tables c.args.seed c.args.lg_k texts)

pub loop-preserved : goal.loop-preserved
loop-preserved g c =
    let now = g.S.Sources.texts c.loop.sources in
    let new = g.S.Sources.texts c.next_groups.new.sources in
    tables_more c.args.seed c.args.lg_k (g.S.Sources.texts c.args.sources.now) now new c.in-Some.groups c.loop.tables.items c.put_table.new.tables.items c.loop.invariant
    (subst (λ (o : Option UnitedGroups). HasNextUnions c.args.seed c.args.lg_k now new o) c.in-Some.is c.in_ok-groups.ensures.next) c.in_ok-put_table-in-Some.ensures.put

pub returns-in-None-clause-tables : goal.returns-in-None-clause-tables
returns-in-None-clause-tables g c =
    let now = g.S.Sources.texts c.loop.sources in
    let new = g.S.Sources.texts c.next_groups.new.sources in
    tables_end c.args.seed c.args.lg_k (g.S.Sources.texts c.args.sources.now) now new (λ taken. AreTables c.args.seed c.args.lg_k taken c.loop.tables.items) c.loop.invariant
    (subst (λ (o : Option UnitedGroups). HasNextUnions c.args.seed c.args.lg_k now new o) c.in-None.is c.in_ok-groups.ensures.next)

pub returns-in_err-groups-clause-failed : goal.returns-in_err-groups-clause-failed
returns-in_err-groups-clause-failed g c =
    let texts = g.S.Sources.texts c.args.sources.now in
    let p = err_from_is_err_and c.from_residual.result c.from_residual.ensures.1 in
    subst (λ r. IfErr r (IsJoinError c.args.seed texts)) (sym p.1) (subst (IsJoinError c.args.seed texts) (sym p.2)
    (failed_later c.args.seed (λ taken. AreTables c.args.seed c.args.lg_k taken c.loop.tables.items) texts (g.S.Sources.texts c.loop.sources) c.in_err-groups.field-0.0 c.loop.invariant c.in_err-groups.ensures.failed))
