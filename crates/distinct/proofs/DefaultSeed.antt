-- The default seed has a hash.
use Rattle.std.proofs.Common.{◌≡◌, refl}
use Rattle.sketch_base.specs.Murmur.{murmur, finished, avalanche, after_blocks, mixed_1, mixed_2, word}
use Rattle.sketch_base.specs.Seed.{seed_hash}
use Rattle.sketch_base.specs.declared.seed.TheConstants.{DEFAULT_UPDATE_SEED}

pub default_seed : seed_hash DEFAULT_UPDATE_SEED ≡ 37836
unfolding seed_hash murmur finished avalanche after_blocks mixed_1 mixed_2 word
default_seed = refl
