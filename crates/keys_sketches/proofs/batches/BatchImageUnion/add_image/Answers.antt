use Rattle.std.proofs.Common.{◌∷◌, ◌++◌, [], sym, subst}
use Rattle.std.specs.Prelude.{IfErr}
use Rattle.std.proofs.lemmas.Result.{err_from_is_err_and, IfErr-weaker}
use Rattle.core_streams.proofs.Calls.{on_both}
use Rattle.keys_sketches.specs.Batches.{HasRead, IsReadyFor}
use Rattle.keys_sketches.specs.Refusals.{IsImageRefusal}
use Rattle.keys_sketches.proofs.Waiting.{waits_more, none_waits, ready_more, ready_none, merge_refused, read_refused}
use Rattle.keys_sketches.proofs.batches.BatchImageUnion.add_image.Goals as goal

pub returns-in_err-sketch-clause-refused : goal.returns-in_err-sketch-clause-refused
returns-in_err-sketch-clause-refused g c = λ settings ready.
    let refusal = g.U.SketchUnion.merge_refusal settings in
    let fault = g.U.SketchUnion.is_no_image c.args.seed c.args.image.now in
    let p = err_from_is_err_and c.from_residual-in_err-sketch.result c.from_residual-in_err-sketch.ensures.1 in
    subst (λ r. IfErr r (IsImageRefusal refusal fault)) (sym p.1) (subst (IsImageRefusal refusal fault) (sym p.2) (read_refused refusal fault c.in_err-sketch.field-0.0 c.in_err-sketch.ensures.refused))

pub returns-then-self-le-MAX_ENTRIES-clause-united : goal.returns-then-self-le-MAX_ENTRIES-clause-united
returns-then-self-le-MAX_ENTRIES-clause-united g c = λ settings images has.
    let united = g.U.SketchUnion.has_united c.args.seed settings in
    let reads = g.U.SketchUnion.reads c.args.seed in
    let u = c.args.self.now.union in
    subst (HasRead united reads (images ++ c.args.image.now ∷ []) u) (sym c.in_ok-push.ensures.items)
    (waits_more united reads images c.args.image.now u c.args.self.now.waiting.items c.in_ok-sketch.sketch has c.in_ok-sketch.ensures.reads)

pub returns-then-self-le-MAX_ENTRIES-clause-ready : goal.returns-then-self-le-MAX_ENTRIES-clause-ready
returns-then-self-le-MAX_ENTRIES-clause-ready g c = λ settings ready.
    let is_ready = g.U.SketchUnion.is_ready c.args.seed settings in
    let reads = g.U.SketchUnion.reads c.args.seed in
    let u = c.args.self.now.union in
    subst (IsReadyFor is_ready reads u) (sym c.in_ok-push.ensures.items) (ready_more is_ready reads c.args.image.now u c.args.self.now.waiting.items c.in_ok-sketch.sketch ready c.in_ok-sketch.ensures.reads)

pub returns-clause-united : goal.returns-clause-united
returns-clause-united g c = λ settings images has.
    let united = g.U.SketchUnion.has_united c.args.seed settings in
    let reads = g.U.SketchUnion.reads c.args.seed in
    let u = c.args.self.now.union in
    let all = images ++ c.args.image.now ∷ [] in
    let waits = subst (HasRead united reads all u) (sym c.in_ok-push.ensures.items)
    (waits_more united reads images c.args.image.now u c.args.self.now.waiting.items c.in_ok-sketch.sketch has c.in_ok-sketch.ensures.reads) in
    let new = c.merge_waiting.new.self in
    on_both c.merge_waiting.result (none_waits united reads all new.union new.waiting.items) (c.merge_waiting.ensures.united c.args.seed settings all waits) c.merge_waiting.ensures.none_waits

pub returns-clause-ready : goal.returns-clause-ready
returns-clause-ready g c = λ settings ready.
    let is_ready = g.U.SketchUnion.is_ready c.args.seed settings in
    let reads = g.U.SketchUnion.reads c.args.seed in
    let u = c.args.self.now.union in
    let waits = subst (IsReadyFor is_ready reads u) (sym c.in_ok-push.ensures.items) (ready_more is_ready reads c.args.image.now u c.args.self.now.waiting.items c.in_ok-sketch.sketch ready c.in_ok-sketch.ensures.reads) in
    let new = c.merge_waiting.new.self in
    on_both c.merge_waiting.result (ready_none is_ready reads new.union new.waiting.items) (c.merge_waiting.ensures.ready c.args.seed settings waits) c.merge_waiting.ensures.none_waits

pub returns-clause-refused : goal.returns-clause-refused
returns-clause-refused g c = λ settings ready.
    let is_ready = g.U.SketchUnion.is_ready c.args.seed settings in
    let reads = g.U.SketchUnion.reads c.args.seed in
    let u = c.args.self.now.union in
    let waits = subst (IsReadyFor is_ready reads u) (sym c.in_ok-push.ensures.items) (ready_more is_ready reads c.args.image.now u c.args.self.now.waiting.items c.in_ok-sketch.sketch ready c.in_ok-sketch.ensures.reads) in
    IfErr-weaker c.merge_waiting.result _ _ (merge_refused (g.U.SketchUnion.merge_refusal settings) (g.U.SketchUnion.is_no_image c.args.seed c.args.image.now)) (c.merge_waiting.ensures.refused c.args.seed settings waits)
