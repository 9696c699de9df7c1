use Rattle.std.proofs.Common.{◌/◌, ap}
use Rattle.std.specs.List.{concat}
use Rattle.sketch_base.specs.Seed.{hash_of}
use Rattle.sketch_base.proofs.Writes.{HasWritten-writes}
use Rattle.core_table.proofs.hash_table.SketchHashTable.hash.Goals as goal

pub returns : goal.returns
unfolding hash_of
returns g c =
    let ws = g.T.Hash.hash_input c.args.value in
    rw (← c.self.view_is) (ap (λ n. n / 2) (c.finish.ensures.hash c.self.inside.seed (concat ws) (HasWritten-writes c.self.inside.seed ws c.with_seed-hasher.result c.hash.new.state c.with_seed-hasher.ensures c.hash.ensures)))
