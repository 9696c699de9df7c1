use Rattle.core_laws.specs.declared.TheConstants.{MAX_THETA}
use Rattle.core_laws.specs.Settings.{settings_refusal}
use Rattle.distinct_commands.proofs.OnlyMemory.{sized, read_kind}
use Rattle.distinct_commands.proofs.job.Job.read_groups.Goals as goal

pub out_of_memory-requires : goal.out_of_memory-requires
out_of_memory-requires g c =
    let options = c.args.self.options.now in
    read_kind (settings_refusal options.lg_k MAX_THETA c.args.self.seed) c.in-Err-Refused.field-0 c.in-Err-Refused.error (sized options.lg_k c.args.self.seed options.low options.high c.requires.seeded) c.in-Err-Refused.field-0-is c.in-Err-Refused.ensures.refused
