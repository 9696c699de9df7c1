use Rattle.std.specs.Prelude.{IfErr, IfSome}
use Rattle.std.proofs.lemmas.Result.{err_from_is_err_and}
use Rattle.keys_sketches.specs.Refusals.{IsImageFailure, HasFault}
use Rattle.keys_sketches.proofs.Refused.{faulty_next, fault_failed}
use Rattle.std.proofs.Common.{◌≡◌, ℕ, ◌+◌, List, [], ◌∷◌, ◌++◌, length, refl, sym, subst, append_assoc, append-nil}
use Rattle.keys_sketches.proofs.Turns.{if_some, if_any, count_more, continues_itself, continues_next, continues_end}
use Rattle.keys_sketches.proofs.image_union.add_images.Goals as goal

pub loop-count-init : goal.loop-count-init
loop-count-init g c = record {
  united = λ settings images has.
      continues_itself (g.S.Sources.texts c.args.sources.now) (λ taken. g.U.ImageUnion.has_united c.args.seed settings (images ++ taken) c.args.union.now) (subst (λ (is : List (List ℕ)). g.U.ImageUnion.has_united c.args.seed settings is c.args.union.now) (sym (append-nil images)) has);
  ready = λ settings ready. ready;
  parted = continues_itself (g.S.Sources.texts c.args.sources.now) (λ taken. Unit {0}) tt;
  counted = continues_itself (g.S.Sources.texts c.args.sources.now) (λ taken. 0 ≡ length taken) refl;
}

pub loop-count-preserved : goal.loop-count-preserved
loop-count-preserved g c = record {
  united = λ settings images has.
      continues_next g.S.Source.Read.remaining (λ taken. g.U.ImageUnion.has_united c.args.seed settings (images ++ taken) c.loop-count.union) (λ taken. g.U.ImageUnion.has_united c.args.seed settings (images ++ taken) c.add_reader.new.union)
      (g.S.Sources.texts c.args.sources.now) (g.S.Sources.texts c.loop-count.sources) (g.S.Sources.texts c.next_source.new.self) c.in-Ok-Some.field-0 c.in-Ok-Some.source (c.loop-count.invariant.united settings images has) c.in-Ok-Some.ensures c.in-Ok-Some.field-0-is
      (λ taken content. if_some (g.S.Source.Read.remaining c.in-Ok-Some.source) (λ image. g.U.ImageUnion.has_united c.args.seed settings ((images ++ taken) ++ image ∷ []) c.add_reader.new.union) (λ image. g.U.ImageUnion.has_united c.args.seed settings (images ++ (taken ++ image ∷ [])) c.add_reader.new.union)
      (λ image now. subst (λ (is : List (List ℕ)). g.U.ImageUnion.has_united c.args.seed settings is c.add_reader.new.union) (append_assoc images taken (image ∷ [])) now) (c.in_ok-add_reader-in-Ok-Some.ensures.united settings (images ++ taken) content));
  ready = λ settings ready. c.in_ok-add_reader-in-Ok-Some.ensures.ready settings (c.loop-count.invariant.ready settings ready);
  parted = continues_next g.S.Source.Read.remaining (λ taken. Unit {0}) (λ taken. Unit {0}) (g.S.Sources.texts c.args.sources.now) (g.S.Sources.texts c.loop-count.sources) (g.S.Sources.texts c.next_source.new.self)
      c.in-Ok-Some.field-0 c.in-Ok-Some.source c.loop-count.invariant.parted c.in-Ok-Some.ensures c.in-Ok-Some.field-0-is (λ taken one. if_any (g.S.Source.Read.remaining c.in-Ok-Some.source));
  counted = continues_next g.S.Source.Read.remaining (λ taken. c.loop-count.count ≡ length taken) (λ taken. c.loop-count.count + 1 ≡ length taken) (g.S.Sources.texts c.args.sources.now) (g.S.Sources.texts c.loop-count.sources) (g.S.Sources.texts c.next_source.new.self)
      c.in-Ok-Some.field-0 c.in-Ok-Some.source c.loop-count.invariant.counted c.in-Ok-Some.ensures c.in-Ok-Some.field-0-is (λ taken so_far. count_more (g.S.Source.Read.remaining c.in-Ok-Some.source) c.loop-count.count taken so_far);
}

pub returns-in-Ok-None-clause-united : goal.returns-in-Ok-None-clause-united
returns-in-Ok-None-clause-united g c = λ settings images has.
    continues_end g.S.Source.Read.remaining (λ taken. g.U.ImageUnion.has_united c.args.seed settings (images ++ taken) c.loop-count.union) (λ taken. g.U.ImageUnion.has_united c.args.seed settings (images ++ taken) c.loop-count.union)
    (g.S.Sources.texts c.args.sources.now) (g.S.Sources.texts c.loop-count.sources) (g.S.Sources.texts c.next_source.new.self) c.in-Ok-None.field-0 (c.loop-count.invariant.united settings images has) c.in-Ok-None.ensures c.in-Ok-None.field-0-is

pub returns-in-Ok-None-clause-counted : goal.returns-in-Ok-None-clause-counted
returns-in-Ok-None-clause-counted g c =
    continues_end g.S.Source.Read.remaining (λ taken. c.loop-count.count ≡ length taken) (λ taken. c.loop-count.count ≡ length taken)
    (g.S.Sources.texts c.args.sources.now) (g.S.Sources.texts c.loop-count.sources) (g.S.Sources.texts c.next_source.new.self) c.in-Ok-None.field-0 c.loop-count.invariant.counted c.in-Ok-None.ensures c.in-Ok-None.field-0-is

pub returns-in-Ok-None-clause-ready : goal.returns-in-Ok-None-clause-ready
returns-in-Ok-None-clause-ready g c = c.loop-count.invariant.ready

pub returns-in_err-add_reader-in-Ok-Some-clause-refused : goal.returns-in_err-add_reader-in-Ok-Some-clause-refused
returns-in_err-add_reader-in-Ok-Some-clause-refused g c = λ settings ready.
    let texts = g.S.Sources.texts c.args.sources.now in
    let is_fault = g.U.ImageUnion.is_no_image c.args.seed in
    let image = IfSome (g.S.Source.Read.remaining c.in-Ok-Some.source) is_fault in
    let images = IfSome texts (HasFault is_fault) in
    let refusal = g.U.ImageUnion.merge_refusal settings in
    let result = c.from_residual-in_err-add_reader-in-Ok-Some.result in
    let p = err_from_is_err_and result c.from_residual-in_err-add_reader-in-Ok-Some.ensures.1 in
    let refused = c.in_err-add_reader-in-Ok-Some.ensures.refused settings (c.loop-count.invariant.ready settings ready) in
    let step = faulty_next (g.U.ImageUnion.is_no_image c.args.seed) g.S.Source.Read.remaining texts (g.S.Sources.texts c.loop-count.sources) (g.S.Sources.texts c.next_source.new.self) c.in-Ok-Some.field-0 c.in-Ok-Some.source c.loop-count.invariant.parted c.in-Ok-Some.ensures c.in-Ok-Some.field-0-is in
    subst (λ r. IfErr r (IsImageFailure refusal images)) (sym p.1) (subst (IsImageFailure refusal images) (sym p.2) (fault_failed refusal image images c.in_err-add_reader-in-Ok-Some.field-0.0 step refused))
