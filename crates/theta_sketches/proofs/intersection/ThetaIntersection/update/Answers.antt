use Rattle.std.proofs.Common.{false}
use Rattle.core_laws.proofs.operators.FoldsOfHashes.{met-hashes}
use Rattle.theta_sketches.specs.Streams.{view_value}
use Rattle.theta_sketches.proofs.Streams.{intersection-given}
use Rattle.theta_sketches.proofs.intersection.ThetaIntersection.update.Goals as goal

pub returns-clause-met : goal.returns-clause-met
returns-clause-met g c = rw (← c.self.view_is) (met-hashes (λ x y. false) c.update.new.self.result c.self.inside.state.result _ c.in_ok-update.ensures.met)

pub returns-clause-given : goal.returns-clause-given
returns-clause-given g c = rw (← c.self.view_is) (λ streams more is sample.
    intersection-given c.self.inside.state c.update.new.self (view_value c.args.sketch) streams more (met-hashes (λ x y. false) c.update.new.self.result c.self.inside.state.result _ c.in_ok-update.ensures.met) is sample)
