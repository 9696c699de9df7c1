use Rattle.std.proofs.Common.{◌/◌, ap}
use Rattle.std.specs.Hash as fed
use Rattle.std.specs.Hash.{le_bytes}
use Rattle.std.specs.List.{concat}
use Rattle.sketch_base.specs.Seed.{hash_of}
use Rattle.sketch_base.proofs.Writes.{HasWritten-writes}
use Rattle.c_objects.proofs.hashes.hash_of_number.Goals as goal

pub returns : goal.returns
unfolding le_bytes hash_of
returns c =
    let words = fed.u64 c.args.number in
    let all = HasWritten-writes c.args.seed words c.with_seed-hasher.result c.write_u64.new.self c.with_seed-hasher.ensures c.write_u64.ensures in
    ap (λ h. h / 2) (c.finish.ensures.hash c.args.seed (concat words) all)
