use Rattle.std.proofs.Common.{◌≡◌, ◌<◌, [], None, rules}
use Rattle.sketch_base.specs.Seed.{seed_hash}
use Rattle.core_laws.specs.Settings.{settings_refusal}
use Rattle.tuple_sketches.specs.Streams.{IsSketchOf, nothing}
use Rattle.c_objects.specs.SumsStreams.{IsSumsOf}
use Rattle.c_objects.proofs.Read.{seeded}
use Rattle.c_objects.proofs.Summed.{bare}
use Rattle.c_objects.proofs.sums.build.Goals as goal

pub returns-clause-made : goal.returns-clause-made
returns-clause-made c =
    let lg_k = c.args.lg_k in let start = c.args.start in let seed = c.args.seed in let s = c.in_ok-sketch.sketch.state in
    let accepted : settings_refusal lg_k start seed ≡ None = search rules in
    let nonzero : 0 < seed_hash seed = seeded lg_k start seed accepted in
    let none : IsSketchOf lg_k start seed s nothing = search rules in
    let given : IsSumsOf c.args.mode lg_k start seed s [] = bare c.args.mode lg_k start seed s none in
    search (rules, nonzero, given)
