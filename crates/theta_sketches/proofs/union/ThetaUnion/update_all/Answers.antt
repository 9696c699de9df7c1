use Rattle.std.proofs.Common.{false}
use Rattle.std.proofs.lemmas.Result.{err_from_is_err_and}
use Rattle.core_laws.specs.Entries.{first_hash, hash_key}
use Rattle.core_streams.proofs.WholeMaps.{update_all-settings}
use Rattle.theta_sketches.specs.View.{view_shows, view_sequence}
use Rattle.theta_sketches.proofs.Streams.{union-given-all}
use Rattle.theta_sketches.proofs.UnitedHashes.{united-all, never-refused}
use Rattle.theta_sketches.proofs.union.ThetaUnion.update_all.Goals as goal

pub returns-clause-united : goal.returns-clause-united
returns-clause-united g c = rw (← c.self.view_is) (united-all (λ x y. false) _ _ _ _ _ c.args.sketches.now c.in_ok-update_all.ensures.united)

pub returns-in_err-update_all-clause-refused : goal.returns-in_err-update_all-clause-refused
returns-in_err-update_all-clause-refused g c =
    let p = err_from_is_err_and c.from_residual.result c.from_residual.ensures.1 in
    rw (p.1, p.2, ← c.self.view_is) (never-refused c.self.inside.state c.update_all.new.self (λ v. view_shows v) (λ v. view_sequence v) c.args.sketches.now c.in_err-update_all.field-0.0 c.in_err-update_all.ensures.refused)

pub returns-clause-given : goal.returns-clause-given
returns-clause-given g c = rw (← c.self.view_is) (λ lg_k k start hashes streams is parts.
    union-given-all lg_k k start c.self.inside.state c.update_all.new.self (λ v. view_shows v) (λ v. view_sequence v) c.args.sketches.now hashes streams c.in_ok-update_all.ensures.skipped
    (united-all (λ x y. false) _ _ _ _ _ c.args.sketches.now c.in_ok-update_all.ensures.united) (λ nonempty. (c.in_ok-update_all.ensures.joined nonempty).made_with) is parts)

pub returns-in_err-update_all-clause-err_settings : goal.returns-in_err-update_all-clause-err_settings
returns-in_err-update_all-clause-err_settings g c =
    let p = err_from_is_err_and c.from_residual.result c.from_residual.ensures.1 in
    rw (p.1, ← c.self.view_is) (update_all-settings hash_key first_hash (λ x y. false) c.self.inside.state c.update_all.new.self (λ v. view_shows v) (λ v. view_sequence v) c.args.sketches.now c.in_err-update_all.field-0.0 c.in_err-update_all.ensures.refused)
