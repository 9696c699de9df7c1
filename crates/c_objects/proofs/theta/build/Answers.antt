use Rattle.std.proofs.Common.{◌≡◌, ◌<◌, None, rules}
use Rattle.sketch_base.specs.Seed.{seed_hash}
use Rattle.core_laws.specs.Settings.{settings_refusal}
use Rattle.c_objects.proofs.Read.{seeded}
use Rattle.c_objects.proofs.theta.build.Goals as goal

pub returns-clause-made : goal.returns-clause-made
returns-clause-made c =
    let accepted : settings_refusal c.args.lg_k c.args.start c.args.seed ≡ None = search rules in
    let nonzero : 0 < seed_hash c.args.seed = seeded c.args.lg_k c.args.start c.args.seed accepted in
    search (rules, nonzero)
