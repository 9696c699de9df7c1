use Rattle.std.proofs.Common.{Option, [], ◌++◌, ◌∷◌, sym, subst}
use Rattle.sketch_base.specs.declared.error.ErrorKind.{ErrorKind}
use Rattle.std.specs.Prelude.{IfErr}
use Rattle.std.proofs.lemmas.Result.{err_from_is_err_and}
use Rattle.core_laws.specs.Settings.{settings_refusal}
use Rattle.core_laws.specs.declared.TheConstants.{MAX_THETA}
use Rattle.keys_lines.specs.Lines.{lines_of, lines_of_all}
use Rattle.keys_sketches.proofs.Turns.{continues_itself, continues_next, continues_end}
use Rattle.keys_groups.specs.United.{HasUnions, AreAdded, IsUniteError}
use Rattle.keys_sketches.proofs.Turns.{if_some}
use Rattle.keys_groups.proofs.ImagesInGroups.{all_unions, all_sound}
use Rattle.keys_groups.proofs.UnitedInTurn.{added_more, failed_next}
use Rattle.keys_groups.proofs.uniting.unite_groups.Goals as goal

pub loop-init : goal.loop-init
loop-init g c = record {
  added = continues_itself (g.S.Sources.texts c.args.sources.now) (λ taken. AreAdded c.args.seed c.args.lg_k [] (lines_of_all taken) c.new-groups.result.map)
      (record {
        uniting = c.new-groups.ensures.uniting c.args.seed c.args.lg_k;
        flawless = tt;
      });
  ready = c.new-groups.ensures.ready c.args.seed;
}

pub loop-preserved : goal.loop-preserved
loop-preserved g c =
    let seed = c.args.seed in
    let lg_k = c.args.lg_k in
    let was = c.loop.groups.map in
    let now = c.add_lines.new.groups.map in
    rw (c.end_source.ensures.map) (record {
      added =
          continues_next g.S.Source.Read.remaining (λ taken. AreAdded seed lg_k [] (lines_of_all taken) was) (λ taken. AreAdded seed lg_k [] (lines_of_all taken) now)
          (g.S.Sources.texts c.args.sources.now) (g.S.Sources.texts c.loop.sources) (g.S.Sources.texts c.next_source.new.self) c.in-Ok-Some.field-0 c.in-Ok-Some.source c.loop.invariant.added c.in-Ok-Some.ensures c.in-Ok-Some.field-0-is
          (λ done holds.
          if_some (g.S.Source.Read.remaining c.in-Ok-Some.source) (λ text. AreAdded seed lg_k (lines_of_all done) (lines_of text) now) (λ text. AreAdded seed lg_k [] (lines_of_all (done ++ text ∷ [])) now)
          (λ text more. added_more seed lg_k done text was now holds more)
          (c.in_ok-add_lines-in-Ok-Some.ensures.lines (lines_of_all done) holds.uniting));
      ready = c.in_ok-add_lines-in-Ok-Some.ensures.ready;
    })

pub returns-in-Ok-None-clause-united : goal.returns-in-Ok-None-clause-united
returns-in-Ok-None-clause-united g c =
    let seed = c.args.seed in
    let lg_k = c.args.lg_k in
    if_some (g.S.Sources.texts c.args.sources.now) (λ texts. AreAdded seed lg_k [] (lines_of_all texts) c.loop.groups.map) (λ texts. HasUnions seed lg_k (lines_of_all texts) c.loop.groups)
    (λ texts added. all_unions seed lg_k (lines_of_all texts) c.loop.groups.map c.names_ascend.ensures added.uniting)
    (continues_end g.S.Source.Read.remaining (λ taken. AreAdded seed lg_k [] (lines_of_all taken) c.loop.groups.map) (λ taken. AreAdded seed lg_k [] (lines_of_all taken) c.loop.groups.map)
    (g.S.Sources.texts c.args.sources.now) (g.S.Sources.texts c.loop.sources) (g.S.Sources.texts c.next_source.new.self) c.in-Ok-None.field-0 c.loop.invariant.added c.in-Ok-None.ensures c.in-Ok-None.field-0-is)

pub returns-in-Ok-None-clause-sound : goal.returns-in-Ok-None-clause-sound
returns-in-Ok-None-clause-sound g c = (c.args.seed, all_sound c.args.seed 0 c.loop.groups.map c.names_ascend.ensures c.loop.invariant.ready)

pub returns-in_err-add_lines-in-Ok-Some-clause-failed : goal.returns-in_err-add_lines-in-Ok-Some-clause-failed
returns-in_err-add_lines-in-Ok-Some-clause-failed g c =
    let seed = c.args.seed in
    let refusal = settings_refusal c.args.lg_k MAX_THETA seed in
    let texts = g.S.Sources.texts c.args.sources.now in
    let result = c.from_residual-in_err-add_lines-in-Ok-Some.result in
    let p = err_from_is_err_and result c.from_residual-in_err-add_lines-in-Ok-Some.ensures.1 in
    let failed = failed_next seed c.args.lg_k g.S.Source.Read.remaining c.loop.groups.map texts (g.S.Sources.texts c.loop.sources) (g.S.Sources.texts c.next_source.new.self) c.in-Ok-Some.field-0 c.in-Ok-Some.source refusal c.in_err-add_lines-in-Ok-Some.field-0.0
    c.loop.invariant.added c.in-Ok-Some.ensures c.in-Ok-Some.field-0-is c.in_ok-check_union.ensures.refused c.in_err-add_lines-in-Ok-Some.ensures.memory c.in_err-add_lines-in-Ok-Some.ensures.first in
    subst (λ r. IfErr r (IsUniteError seed refusal texts)) (sym p.1) (subst (IsUniteError seed refusal texts) (sym p.2) failed)

pub returns-in-Err-clause-failed : goal.returns-in-Err-clause-failed
returns-in-Err-clause-failed g c =
    let texts = g.S.Sources.texts c.args.sources.now in
    subst (λ (refusal : Option ErrorKind). IsUniteError c.args.seed refusal texts c.read_failure.result) (sym c.in_ok-check_union.ensures.refused) (c.read_failure.ensures.failed c.args.seed texts)
