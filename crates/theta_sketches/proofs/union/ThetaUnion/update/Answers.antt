use Rattle.std.proofs.Common.{false}
use Rattle.std.proofs.lemmas.Result.{err_from_is_err_and}
use Rattle.core_laws.proofs.operators.FoldsOfHashes.{united-hashes}
use Rattle.core_laws.specs.Entries.{hash_key}
use Rattle.core_streams.proofs.WholeMaps.{update-settings}
use Rattle.theta_sketches.specs.View.{view_shows, view_sequence}
use Rattle.theta_sketches.proofs.Streams.{union-given, samples-given, unchanged-union}
use Rattle.theta_sketches.proofs.union.ThetaUnion.update.Goals as goal

pub returns-clause-united : goal.returns-clause-united
returns-clause-united g c nonempty = rw (← c.self.view_is) (united-hashes (λ x y. false) _ _ _ _ _ (c.in_ok-update.ensures.united nonempty))

pub returns-clause-given : goal.returns-clause-given
returns-clause-given g c = rw (← c.self.view_is) (λ lg_k k start hashes more is part.
    union-given lg_k k start c.self.inside.state c.update.new.self (view_shows c.args.sketch) (view_sequence c.args.sketch) hashes more c.in_ok-update.ensures.skipped
    (λ nonempty. united-hashes (λ x y. false) _ _ _ _ _ (c.in_ok-update.ensures.united nonempty)) (λ nonempty. (c.in_ok-update.ensures.joined nonempty).made_with) is part)

pub returns-in_err-update-clause-err_given : goal.returns-in_err-update-clause-err_given
returns-in_err-update-clause-err_given g c =
    let p = err_from_is_err_and c.from_residual.result c.from_residual.ensures.1 in
    rw (p.1, p.2, ← c.self.view_is) (λ other. unchanged-union c.self.inside.state c.update.new.self (view_shows c.args.sketch) (view_sequence c.args.sketch) c.in_err-update.field-0.0 other c.in_err-update.ensures.refused)

pub returns-clause-sampled : goal.returns-clause-sampled
returns-clause-sampled g c = rw (← c.self.view_is) (λ hashes more is sample.
    samples-given c.self.inside.state c.update.new.self (view_shows c.args.sketch) (view_sequence c.args.sketch) hashes more c.in_ok-update.ensures.skipped
    (λ nonempty. united-hashes (λ x y. false) _ _ _ _ _ (c.in_ok-update.ensures.united nonempty)) is sample)

pub returns-in_err-update-clause-err_settings : goal.returns-in_err-update-clause-err_settings
returns-in_err-update-clause-err_settings g c =
    let p = err_from_is_err_and c.from_residual.result c.from_residual.ensures.1 in
    rw (p.1, ← c.self.view_is) (update-settings hash_key (λ x y. false) c.self.inside.state c.update.new.self (view_shows c.args.sketch) (view_sequence c.args.sketch) c.in_err-update.field-0.0 c.in_err-update.ensures.refused)
