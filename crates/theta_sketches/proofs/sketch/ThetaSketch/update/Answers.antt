use Rattle.std.proofs.Common.{ℕ, [], ◌∷◌, ◌++◌, ap, ◌∙◌, subst}
use Rattle.theta_sketches.specs.Streams.{value_hash, IsSketchOf}
use Rattle.core_streams.proofs.Calls.{on_ok}
use Rattle.theta_sketches.proofs.Streams.{seed-is}
use Rattle.theta_sketches.proofs.sketch.ThetaSketch.update.Goals as goal

pub returns-clause-given : goal.returns-clause-given
returns-clause-given g c = on_ok c.update_hash.result (λ given lg_k start seed hashes is.
    let own = (rw c.self.view_is at c.hash-hash.ensures) ∙ ap (λ (s : ℕ). value_hash s (g.T.Hash.hash_input c.args.value)) (seed-is lg_k start seed c.args.self.now hashes is) in
    subst (λ (h : ℕ). IsSketchOf lg_k start seed c.update_hash.new.self (hashes ++ h ∷ [])) own (given lg_k start seed hashes is)) c.update_hash.ensures.given
