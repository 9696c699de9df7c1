use Rattle.std.proofs.Common.{ap, sym, ◌∙◌}
use Rattle.distinct_arguments.specs.Words.{seed_of}
use Rattle.distinct_inputs.proofs.SeedFiles.{no_seed, is_trimmed}
use Rattle.distinct_inputs.proofs.seeds.seed_in.Goals as goal

pub returns-in-Ok : goal.returns-in-Ok
returns-in-Ok c = c.seed_of.ensures ∙ ap seed_of (c.in-Ok.ensures.cases.0 ∙ is_trimmed c.args.bytes.now c.trim_ascii.result.now c.trim_ascii.ensures.value)

pub returns-in-Err : goal.returns-in-Err
returns-in-Err c = sym (ap seed_of (sym (is_trimmed c.args.bytes.now c.trim_ascii.result.now c.trim_ascii.ensures.value)) ∙ no_seed c.trim_ascii.result.now c.in-Err.ensures.cases.0)
