use Rattle.std.proofs.Common.{◌-◌, length, arith}
use Rattle.std.proofs.lemmas.List.{length-take}
use Rattle.keys_parts.specs.Stages.{rest_of}
use Rattle.keys_parts.proofs.Scans.{skipped-done, skipped-more}
use Rattle.keys_parts.proofs.Blocks.{skip_found}
use Rattle.keys_parts.proofs.stage.skip.Goals as goal

pub returns-then-count-length-clause-skips : goal.returns-then-count-length-clause-skips
returns-then-count-length-clause-skips c = λ more. skipped-done c.args.block.now more c.args.count (omega arith) c.in_default.ensures.none

pub returns-else-count-length-clause-skips : goal.returns-else-count-length-clause-skips
returns-else-count-length-clause-skips c = λ more. skipped-more c.args.block.now more c.args.count (omega arith) c.in_default.ensures.none

pub returns-clause-skips : goal.returns-clause-skips
returns-clause-skips c = λ more.
    skip_found c.args.block.now more c.copy_within.new.self (rest_of c.pass.result.0 more) c.args.count c.in-Some.end c.pass.result.1 c.in-Some.ensures.found c.copy_within.ensures.after (omega (arith, c.pass.ensures.within, length-take (length c.args.block.now - c.in-Some.end) c.copy_within.new.self)) (c.pass.ensures.passes more)
