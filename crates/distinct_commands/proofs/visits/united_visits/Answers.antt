use Rattle.std.proofs.Common.{refl, true}
use Rattle.core_laws.specs.declared.TheConstants.{MAX_THETA}
use Rattle.core_laws.specs.Settings.{settings_refusal}
use Rattle.tuple_sketches.specs.declared.numbers.SummaryMode.TheVariants.{Sum}
use Rattle.distinct_inputs.specs.Images.{remaining_images}
use Rattle.distinct_commands.proofs.OnlyMemory.{sized, sums_refused}
use Rattle.distinct_commands.proofs.visits.united_visits.Goals as goal

pub returns-clause-refused : goal.returns-clause-refused
returns-clause-refused g c =
    let options = c.args.options.now in
    sums_refused Sum c.union_of_sums.result true c.args.seed (settings_refusal options.lg_k MAX_THETA c.args.seed) (remaining_images g.S.Source.Read.remaining g.S.Sources.texts c.args.images.now)
    refl (sized options.lg_k c.args.seed options.low options.high c.requires.seeded) c.union_of_sums.ensures.refused
