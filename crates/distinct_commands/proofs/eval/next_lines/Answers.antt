use Rattle.std.proofs.Common.{subst}
use Rattle.keys_sketches.specs.Sources.{GivesNext}
use Rattle.core_laws.specs.declared.TheConstants.{MAX_THETA}
use Rattle.core_laws.specs.Settings.{settings_refusal}
use Rattle.distinct_commands.proofs.OnlyMemory.{sized, read_kind}
use Rattle.distinct_arguments.specs.Faults.{options_of}
use Rattle.distinct_commands.proofs.Evaluated.{next_sketched}
use Rattle.distinct_commands.proofs.eval.next_lines.Goals as goal

pub out_of_memory-requires : goal.out_of_memory-requires
out_of_memory-requires g c =
    let options = c.args.options.now in
    read_kind (settings_refusal options.lg_k MAX_THETA c.args.seed) c.in-Err-Refused.field-0 c.in-Err-Refused.error (sized options.lg_k c.args.seed options.low options.high c.requires.seeded) c.in-Err-Refused.field-0-is c.in-Err-Refused.ensures.refused

pub returns-in-Ok-clause-sketches : goal.returns-in-Ok-clause-sketches
returns-in-Ok-clause-sketches g c =
    let old = g.S.Sources.texts c.args.inputs.now.sources in
    let new = g.S.Sources.texts c.next_source.new.self.sources in
    next_sketched (options_of c.args.options.now) c.args.seed g.S.Source.Read.remaining old new c.in-Ok-Some.source c.in-Ok.sketch
    (subst (GivesNext g.S.Source.Read.remaining old new) c.in-Ok-Some.field-0-is c.in-Ok-Some.ensures.next) c.in-Ok.ensures.sketch
