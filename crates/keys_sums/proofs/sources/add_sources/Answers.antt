use Rattle.std.proofs.Common.{List, ℕ, ◌∷◌, [], ◌++◌, sym, subst}
use Rattle.std.specs.Prelude.{IfErr, IfSome}
use Rattle.std.proofs.lemmas.Result.{err_from_is_err_and}
use Rattle.keys_lines.specs.Lines.{lines_of, lines_of_all}
use Rattle.keys_sketches.proofs.Turns.{if_some, if_any, continues_itself, continues_next, continues_end}
use Rattle.keys_sums.specs.Sums.{HasAdded}
use Rattle.keys_sums.specs.Refusals.{LacksNumberAt, LacksNumberOf, IsPastIn}
use Rattle.keys_sums.proofs.Pieces.{lines_more, lacking_texts, past_next}
use Rattle.keys_sketches.proofs.Refused.{faulty_next}
use Rattle.keys_sketches.specs.Refusals.{HasFault}
use Rattle.keys_sums.proofs.sources.add_sources.Goals as goal

pub loop-init : goal.loop-init
loop-init g c = record {
  parted = continues_itself (g.S.Sources.texts c.args.sources.now) (λ taken. Unit {0}) tt;
  added = λ mode lg_k has. continues_itself (g.S.Sources.texts c.args.sources.now) (λ taken. HasAdded mode c.args.hashing c.args.amount lg_k (lines_of_all taken) c.args.summation.now) has;
}

pub loop-preserved : goal.loop-preserved
loop-preserved g c = record {
  parted = continues_next g.S.Source.Read.remaining (λ taken. Unit {0}) (λ taken. Unit {0}) (g.S.Sources.texts c.args.sources.now) (g.S.Sources.texts c.loop.sources) (g.S.Sources.texts c.next_source.new.self)
      c.in-Ok-Some.field-0 c.in-Ok-Some.source c.loop.invariant.parted c.in-Ok-Some.ensures c.in-Ok-Some.field-0-is (λ taken one. if_any (g.S.Source.Read.remaining c.in-Ok-Some.source));
  added = λ mode lg_k has.
      continues_next g.S.Source.Read.remaining (λ taken. HasAdded mode c.args.hashing c.args.amount lg_k (lines_of_all taken) c.loop.summation) (λ taken. HasAdded mode c.args.hashing c.args.amount lg_k (lines_of_all taken) c.add_source.new.summation)
      (g.S.Sources.texts c.args.sources.now) (g.S.Sources.texts c.loop.sources) (g.S.Sources.texts c.next_source.new.self) c.in-Ok-Some.field-0 c.in-Ok-Some.source (c.loop.invariant.added mode lg_k has) c.in-Ok-Some.ensures c.in-Ok-Some.field-0-is
      (λ taken so_far. if_some (g.S.Source.Read.remaining c.in-Ok-Some.source) (λ text. HasAdded mode c.args.hashing c.args.amount lg_k (lines_of_all taken ++ lines_of text) c.add_source.new.summation) (λ text. HasAdded mode c.args.hashing c.args.amount lg_k (lines_of_all (taken ++ text ∷ [])) c.add_source.new.summation)
      (λ text now. subst (λ (ls : List (List ℕ)). HasAdded mode c.args.hashing c.args.amount lg_k ls c.add_source.new.summation) (lines_more taken text) now) (c.in_ok-add_source-in-Ok-Some.ensures.added mode lg_k (lines_of_all taken) so_far));
}

pub returns-in-Ok-None-clause-added : goal.returns-in-Ok-None-clause-added
returns-in-Ok-None-clause-added g c = λ mode lg_k has.
    continues_end g.S.Source.Read.remaining (λ taken. HasAdded mode c.args.hashing c.args.amount lg_k (lines_of_all taken) c.loop.summation) (λ taken. HasAdded mode c.args.hashing c.args.amount lg_k (lines_of_all taken) c.loop.summation)
    (g.S.Sources.texts c.args.sources.now) (g.S.Sources.texts c.loop.sources) (g.S.Sources.texts c.next_source.new.self) c.in-Ok-None.field-0 (c.loop.invariant.added mode lg_k has) c.in-Ok-None.ensures c.in-Ok-None.field-0-is

pub returns-in_err-add_source-in-Ok-Some-clause-numbered : goal.returns-in_err-add_source-in-Ok-Some-clause-numbered
returns-in_err-add_source-in-Ok-Some-clause-numbered g c =
    let texts = g.S.Sources.texts c.args.sources.now in
    let amount = c.args.amount in
    let u = c.in_err-add_source-in-Ok-Some.field-0.0 in
    let r = c.from_residual-in_err-add_source-in-Ok-Some.result in
    let p = err_from_is_err_and r c.from_residual-in_err-add_source-in-Ok-Some.ensures.1 in
    let fault = faulty_next (λ text. LacksNumberAt amount text u) g.S.Source.Read.remaining texts (g.S.Sources.texts c.loop.sources) (g.S.Sources.texts c.next_source.new.self) c.in-Ok-Some.field-0 c.in-Ok-Some.source
    c.loop.invariant.parted c.in-Ok-Some.ensures c.in-Ok-Some.field-0-is c.in_err-add_source-in-Ok-Some.ensures.numbered in
    subst (λ r. IfSome texts (λ all. IfErr r (LacksNumberOf amount all))) (sym p.1) (subst (λ v. IfSome texts (λ all. LacksNumberOf amount all v)) (sym p.2)
    (if_some texts (HasFault (λ text. LacksNumberAt amount text u)) (λ all. LacksNumberOf amount all u) (lacking_texts amount u) fault))

pub returns-in_err-add_source-in-Ok-Some-clause-past : goal.returns-in_err-add_source-in-Ok-Some-clause-past
returns-in_err-add_source-in-Ok-Some-clause-past g c = λ mode lg_k has.
    let texts = g.S.Sources.texts c.args.sources.now in
    let hashing = c.args.hashing in
    let amount = c.args.amount in
    let u = c.in_err-add_source-in-Ok-Some.field-0.0 in
    let p = err_from_is_err_and c.from_residual-in_err-add_source-in-Ok-Some.result c.from_residual-in_err-add_source-in-Ok-Some.ensures.1 in
    subst (λ r. IfSome texts (λ all. IfErr r (IsPastIn mode hashing amount (lines_of_all all)))) (sym p.1) (subst (λ v. IfSome texts (λ all. IsPastIn mode hashing amount (lines_of_all all) v)) (sym p.2)
    (past_next hashing amount mode lg_k g.S.Source.Read.remaining texts (g.S.Sources.texts c.loop.sources) (g.S.Sources.texts c.next_source.new.self) c.in-Ok-Some.field-0 c.in-Ok-Some.source u c.loop.summation
    (c.loop.invariant.added mode lg_k has) c.in-Ok-Some.ensures c.in-Ok-Some.field-0-is (c.in_err-add_source-in-Ok-Some.ensures.past mode lg_k)))
