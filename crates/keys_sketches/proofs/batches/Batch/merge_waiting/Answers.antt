use Rattle.std.proofs.Common.{sym, subst}
use Rattle.std.specs.Prelude.{IfErr}
use Rattle.std.proofs.lemmas.Result.{err_from_is_err_and}
use Rattle.keys_sketches.specs.Refusals.{IsMergeError}
use Rattle.keys_sketches.specs.Shards.{AreReadBy}
use Rattle.keys_sketches.proofs.batches.Batch.merge_waiting.Goals as goal

pub returns-clause-united : goal.returns-clause-united
returns-clause-united g c = λ seed settings images has.
    subst (λ all. g.U.SketchUnion.has_united seed settings all c.merge.new.self) (sym has.parted)
    (c.in_ok-merge.ensures.united seed settings has.first has.others has.united (subst (AreReadBy (g.U.SketchUnion.reads seed) has.others) (sym c.as_slice.ensures.value) has.are_read))

pub returns-clause-ready : goal.returns-clause-ready
returns-clause-ready g c = λ seed settings ready. c.in_ok-merge.ensures.ready seed settings ready.ready

pub returns-in_err-merge-clause-refused : goal.returns-in_err-merge-clause-refused
returns-in_err-merge-clause-refused g c = λ seed settings ready.
    let p = err_from_is_err_and c.from_residual-in_err-merge.result c.from_residual-in_err-merge.ensures.1 in
    let refused = c.in_err-merge.ensures.refused seed settings ready.others ready.ready (subst (AreReadBy (g.U.SketchUnion.reads seed) ready.others) (sym c.as_slice.ensures.value) ready.are_read) in
    subst (λ r. IfErr r (IsMergeError (g.U.SketchUnion.merge_refusal settings))) (sym p.1) (subst (IsMergeError (g.U.SketchUnion.merge_refusal settings)) (sym p.2) refused)
