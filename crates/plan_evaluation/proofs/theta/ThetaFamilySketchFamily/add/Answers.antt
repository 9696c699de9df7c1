use Rattle.std.proofs.Common.{refl}
use Rattle.core_laws.specs.Entries.{hash_key, hash_step}
use Rattle.core_laws.proofs.insertions.Cases.{never_refused}
use Rattle.plan_evaluation.proofs.theta.ThetaFamilySketchFamily.add.Goals as goal

pub returns-clause-accepted : goal.returns-clause-accepted
returns-clause-accepted g c = never_refused hash_key 0 c.args.hash (hash_step c.args.hash) c.args.sketch.now.map.kept (λ _. refl) refl
