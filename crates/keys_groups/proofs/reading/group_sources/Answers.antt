use Rattle.std.proofs.Common.{ℕ, List, [], ◌++◌, ◌∷◌, sym, subst}
use Rattle.keys_lines.specs.Lines.{lines_of, lines_of_all}
use Rattle.keys_groups.specs.Groups.{HasGroups}
use Rattle.keys_groups.specs.States.{IsGrouped}
use Rattle.keys_sketches.proofs.Turns.{continues_itself, continues_next, continues_end}
use Rattle.keys_groups.proofs.LinesInGroups.{lines_of_more}
use Rattle.keys_sketches.proofs.Turns.{if_some}
use Rattle.keys_groups.proofs.reading.group_sources.Goals as goal

pub loop-init : goal.loop-init
loop-init g c = record {
  named = c.new-groups.ensures.named;
  read = continues_itself (g.S.Sources.texts c.args.sources.now) (λ taken. IsGrouped c.args.grouping (lines_of_all taken) c.new-groups.result.entries.items) (c.new-groups.ensures.grouped c.args.grouping);
}

pub loop-preserved : goal.loop-preserved
loop-preserved g c =
    let grouping = c.args.grouping in
    let now = c.add_lines.new.groups.entries.items in record {
      named = c.in_ok-add_lines-in-Ok-Some.ensures.named;
      read = continues_next g.S.Source.Read.remaining (λ taken. IsGrouped grouping (lines_of_all taken) c.loop.groups.entries.items) (λ taken. IsGrouped grouping (lines_of_all taken) now)
          (g.S.Sources.texts c.args.sources.now) (g.S.Sources.texts c.loop.sources) (g.S.Sources.texts c.next_source.new.self) c.in-Ok-Some.field-0 c.in-Ok-Some.source c.loop.invariant.read c.in-Ok-Some.ensures c.in-Ok-Some.field-0-is
          (λ done holds.
          if_some (g.S.Source.Read.remaining c.in-Ok-Some.source) (λ text. IsGrouped grouping (lines_of_all done ++ lines_of text) now) (λ text. IsGrouped grouping (lines_of_all (done ++ text ∷ [])) now)
          (λ text more. subst (λ (lines : List (List ℕ)). IsGrouped grouping lines now) (sym (lines_of_more done text)) more)
          (c.in_ok-add_lines-in-Ok-Some.ensures.lines (lines_of_all done) holds));
    }

pub returns-in-Ok-None-clause-grouped : goal.returns-in-Ok-None-clause-grouped
returns-in-Ok-None-clause-grouped g c =
    if_some (g.S.Sources.texts c.args.sources.now) (λ texts. IsGrouped c.args.grouping (lines_of_all texts) c.loop.groups.entries.items) (λ texts. HasGroups c.args.grouping (lines_of_all texts) c.into_groups.result)
    (λ texts grouped. c.into_groups.ensures c.args.grouping (lines_of_all texts) grouped)
    (continues_end g.S.Source.Read.remaining (λ taken. IsGrouped c.args.grouping (lines_of_all taken) c.loop.groups.entries.items) (λ taken. IsGrouped c.args.grouping (lines_of_all taken) c.loop.groups.entries.items)
    (g.S.Sources.texts c.args.sources.now) (g.S.Sources.texts c.loop.sources) (g.S.Sources.texts c.next_source.new.self) c.in-Ok-None.field-0 c.loop.invariant.read c.in-Ok-None.ensures c.in-Ok-None.field-0-is)
