use Rattle.std.proofs.Common.{sym, subst}
use Rattle.std.specs.Prelude.{IfErr}
use Rattle.std.proofs.lemmas.Result.{err_from_is_err_and}
use Rattle.core_laws.specs.Settings.{settings_refusal}
use Rattle.core_laws.specs.declared.TheConstants.{MAX_THETA}
use Rattle.keys_joins.specs.Reading.{IsJoinError}
use Rattle.keys_joins.proofs.FilesInTurn.{next_united, failed_next}
use Rattle.keys_joins.proofs.reading.next_groups.Goals as goal

pub returns-in_ok-groups-in-Ok-Some-clause-next : goal.returns-in_ok-groups-in-Ok-Some-clause-next
returns-in_ok-groups-in-Ok-Some-clause-next g c =
    next_united c.args.seed c.args.lg_k g.S.Source.Read.remaining c.in_ok-groups-in-Ok-Some.groups (g.S.Sources.texts c.args.sources.now) (g.S.Sources.texts c.next_source.new.self)
    c.in-Ok-Some.field-0 c.in-Ok-Some.source c.in-Ok-Some.ensures c.in-Ok-Some.field-0-is c.in_ok-groups-in-Ok-Some.ensures.united

pub returns-in_err-groups-in-Ok-Some-clause-failed : goal.returns-in_err-groups-in-Ok-Some-clause-failed
returns-in_err-groups-in-Ok-Some-clause-failed g c =
    let texts = g.S.Sources.texts c.args.sources.now in
    let p = err_from_is_err_and c.from_residual.result c.from_residual.ensures.1 in
    let failed = failed_next c.args.seed g.S.Source.Read.remaining texts (g.S.Sources.texts c.next_source.new.self) c.in-Ok-Some.field-0 c.in-Ok-Some.source
    (settings_refusal c.args.lg_k MAX_THETA c.args.seed) c.in_err-groups-in-Ok-Some.field-0.0 c.in-Ok-Some.ensures c.in-Ok-Some.field-0-is c.requires.settled c.in_err-groups-in-Ok-Some.ensures.failed in
    subst (λ r. IfErr r (IsJoinError c.args.seed texts)) (sym p.1) (subst (IsJoinError c.args.seed texts) (sym p.2) failed)

pub returns-in-Err-clause-failed : goal.returns-in-Err-clause-failed
returns-in-Err-clause-failed g c = c.source_failure.ensures.failed c.args.seed (g.S.Sources.texts c.args.sources.now)
