use Rattle.std.proofs.Common.{◌/◌, ap}
use Rattle.sketch_base.specs.Seed.{hash_of}
use Rattle.keys_lines.specs.Keys.{key_of}
use Rattle.keys_lines.proofs.open_key.OpenKey.hash.Goals as goal

pub returns : goal.returns
unfolding hash_of
returns c = λ hashing front is. ap (λ n. n / 2) (c.finish.ensures.hash hashing.seed (key_of hashing.key front) is.hashed)
