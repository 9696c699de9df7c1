use Rattle.std.proofs.Common.{ℕ, ap, ◌∙◌, subst}
use Rattle.core_streams.proofs.Calls.{on_ok}
use Rattle.tuple_sketches.specs.Streams.{value_hash, with_value, IsSketchOf}
use Rattle.tuple_sketches.proofs.Streams.{seed-is}
use Rattle.tuple_sketches.proofs.sketch.TupleSketch.update.Goals as goal

pub returns-clause-given : goal.returns-clause-given
returns-clause-given g c = on_ok c.update_hash.result (λ given lg_k start seed before is.
    let own = c.hash-hash.ensures ∙ ap (λ (s : ℕ). value_hash s (g.K.Hash.hash_input c.args.key)) (seed-is lg_k start seed c.args.self.now.state before is) in
    subst (λ (h : ℕ). IsSketchOf lg_k start seed c.update_hash.new.self.state (with_value (g.P.SummaryPolicy.creates c.args.self.now.policy) (g.P.SummaryUpdatePolicy.updates c.args.self.now.policy) h c.args.value before)) own (given lg_k start seed before is)) c.update_hash.ensures.given
