use Rattle.std.proofs.Common.{true}
use Rattle.keys_sketches.specs.Meeting.{refusal_of_intersection}
use Rattle.keys_sketches.proofs.Refused.{only_memory}
use Rattle.distinct_commands.proofs.OnlyMemory.{intersection_accepted}
use Rattle.distinct_commands.proofs.similarity.shared_count.Goals as goal

pub out_of_memory-requires : goal.out_of_memory-requires
out_of_memory-requires c =
    let accepted = intersection_accepted c.args.seed c.args.sketches.now c.requires.seed c.requires.seeded in
    let only = only_memory (refusal_of_intersection c.args.seed c.args.sketches.now) true c.in-Err.error accepted c.in-Err.ensures.refused in only.0
