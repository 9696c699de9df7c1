use Rattle.std.proofs.Common.{List, ℕ, ◌∷◌, [], ◌++◌, sym, subst}
use Rattle.std.specs.Prelude.{IfErr, IfSome}
use Rattle.std.proofs.lemmas.Result.{err_from_is_err_and}
use Rattle.keys_lines.specs.Lines.{lines_of, lines_of_all}
use Rattle.keys_sketches.specs.Refusals.{HasFault}
use Rattle.keys_sketches.proofs.Refused.{faulty_next}
use Rattle.keys_sketches.proofs.Turns.{if_some, if_any, continues_itself, continues_next, continues_end}
use Rattle.keys_sums.specs.Amounts.{AreNumbers}
use Rattle.keys_groups.proofs.LinesInGroups.{lines_of_more}
use Rattle.keys_totals.specs.Refusals.{LacksNumberAt, LacksNumberOf, FailsIf}
use Rattle.keys_totals.specs.Totals.{AreTotalled, HasTotals}
use Rattle.keys_totals.proofs.LackingLines.{lacking_texts}
use Rattle.keys_totals.proofs.OwnTotals.{all_totals}
use Rattle.keys_totals.proofs.reading.total_groups.Goals as goal

pub loop-init : goal.loop-init
loop-init g c = record {
  parted = continues_itself (g.S.Sources.texts c.args.sources.now) (λ taken. Unit {0}) tt;
  added = continues_itself (g.S.Sources.texts c.args.sources.now) (λ taken. AreTotalled c.args.by c.args.amount (lines_of_all taken) c.new-totals.result.map) (c.new-totals.ensures c.args.by c.args.amount);
}

pub loop-preserved : goal.loop-preserved
loop-preserved g c =
    let by = c.args.by in
    let amount = c.args.amount in
    let was = c.loop.totals.map in
    let now = c.add_lines.new.totals.map in record {
      parted = continues_next g.S.Source.Read.remaining (λ taken. Unit {0}) (λ taken. Unit {0}) (g.S.Sources.texts c.args.sources.now) (g.S.Sources.texts c.loop.sources) (g.S.Sources.texts c.next_source.new.self)
          c.in-Ok-Some.field-0 c.in-Ok-Some.source c.loop.invariant.parted c.in-Ok-Some.ensures c.in-Ok-Some.field-0-is (λ taken one. if_any (g.S.Source.Read.remaining c.in-Ok-Some.source));
      added =
          continues_next g.S.Source.Read.remaining (λ taken. AreTotalled by amount (lines_of_all taken) was) (λ taken. AreTotalled by amount (lines_of_all taken) now)
          (g.S.Sources.texts c.args.sources.now) (g.S.Sources.texts c.loop.sources) (g.S.Sources.texts c.next_source.new.self) c.in-Ok-Some.field-0 c.in-Ok-Some.source c.loop.invariant.added c.in-Ok-Some.ensures c.in-Ok-Some.field-0-is
          (λ taken so_far.
          if_some (g.S.Source.Read.remaining c.in-Ok-Some.source) (λ text. AreTotalled by amount (lines_of_all taken ++ lines_of text) now) (λ text. AreTotalled by amount (lines_of_all (taken ++ text ∷ [])) now)
          (λ text more. subst (λ (lines : List (List ℕ)). AreTotalled by amount lines now) (sym (lines_of_more taken text)) more)
          (c.in_ok-add_lines-in-Ok-Some.ensures.added (lines_of_all taken) so_far));
    }

pub returns-in-Ok-None-clause-totals : goal.returns-in-Ok-None-clause-totals
returns-in-Ok-None-clause-totals g c =
    let by = c.args.by in
    let amount = c.args.amount in
    let totals = c.loop.totals in
    if_some (g.S.Sources.texts c.args.sources.now) (λ texts. AreTotalled by amount (lines_of_all texts) totals.map) (λ texts. HasTotals by amount (lines_of_all texts) totals)
    (λ texts has. all_totals by amount (lines_of_all texts) totals.map c.names_ascend.ensures has)
    (continues_end g.S.Source.Read.remaining (λ taken. AreTotalled by amount (lines_of_all taken) totals.map) (λ taken. AreTotalled by amount (lines_of_all taken) totals.map)
    (g.S.Sources.texts c.args.sources.now) (g.S.Sources.texts c.loop.sources) (g.S.Sources.texts c.next_source.new.self) c.in-Ok-None.field-0 c.loop.invariant.added c.in-Ok-None.ensures c.in-Ok-None.field-0-is)

pub returns-in-Ok-None-clause-numbers : goal.returns-in-Ok-None-clause-numbers
returns-in-Ok-None-clause-numbers g c =
    let by = c.args.by in
    let amount = c.args.amount in
    let totals = c.loop.totals in
    if_some (g.S.Sources.texts c.args.sources.now) (λ texts. AreTotalled by amount (lines_of_all texts) totals.map) (λ texts. AreNumbers amount (lines_of_all texts)) (λ texts has. has.numbers)
    (continues_end g.S.Source.Read.remaining (λ taken. AreTotalled by amount (lines_of_all taken) totals.map) (λ taken. AreTotalled by amount (lines_of_all taken) totals.map)
    (g.S.Sources.texts c.args.sources.now) (g.S.Sources.texts c.loop.sources) (g.S.Sources.texts c.next_source.new.self) c.in-Ok-None.field-0 c.loop.invariant.added c.in-Ok-None.ensures c.in-Ok-None.field-0-is)

pub returns-in_err-add_lines-in-Ok-Some-clause-numbered : goal.returns-in_err-add_lines-in-Ok-Some-clause-numbered
returns-in_err-add_lines-in-Ok-Some-clause-numbered g c =
    let texts = g.S.Sources.texts c.args.sources.now in
    let amount = c.args.amount in
    let reason = c.in_err-add_lines-in-Ok-Some.field-0.0 in
    let p = err_from_is_err_and c.from_residual.result c.from_residual.ensures.1 in
    let fault = faulty_next (λ text. LacksNumberAt amount text reason) g.S.Source.Read.remaining texts (g.S.Sources.texts c.loop.sources) (g.S.Sources.texts c.next_source.new.self) c.in-Ok-Some.field-0 c.in-Ok-Some.source
    c.loop.invariant.parted c.in-Ok-Some.ensures c.in-Ok-Some.field-0-is c.in_err-add_lines-in-Ok-Some.ensures.numbered in
    subst (λ r. IfSome texts (λ all. IfErr r (LacksNumberOf amount all))) (sym p.1) (subst (λ v. IfSome texts (λ all. LacksNumberOf amount all v)) (sym p.2)
    (if_some texts (HasFault (λ text. LacksNumberAt amount text reason)) (λ all. LacksNumberOf amount all reason) (lacking_texts amount reason) fault))

pub returns-in-Err-clause-numbered : goal.returns-in-Err-clause-numbered
returns-in-Err-clause-numbered g c =
    let texts = g.S.Sources.texts c.args.sources.now in
    if_some texts (λ all. Unit {0}) (λ all. LacksNumberOf c.args.amount all c.read_failure.result) (λ all any. c.read_failure.ensures.texts c.args.amount all) (if_any texts)

pub returns-in-Err-clause-refused : goal.returns-in-Err-clause-refused
returns-in-Err-clause-refused g c = c.read_failure.ensures.refused c.args.amount
