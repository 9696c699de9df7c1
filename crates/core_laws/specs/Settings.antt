-- Settings of sketches and operators, and their ranges.
use Rattle.std.specs.Prelude.{ℕ, ◌&&◌, ◌==◌, not, nat_lt, nat_le, if◌then◌else◌, Option, Some, None}
use Rattle.sketch_base.specs.Seed.{seed_hash}
use Rattle.sketch_base.specs.declared.error.ErrorKind.{ErrorKind}
use Rattle.sketch_base.specs.declared.error.ErrorKind.TheVariants.{InvalidArgument}
use Rattle.core_laws.specs.declared.TheConstants.{MAX_THETA, MIN_LG_K, MAX_LG_K}

-- the refusal of making a table, a sketch or a union: an lg_k or a starting theta out of range, or a seed whose seed
-- hash is 0
abbrev pub settings_refusal : (lg_k start seed : ℕ) → Option ErrorKind
settings_refusal lg_k start seed =
    if nat_le MIN_LG_K lg_k && nat_le lg_k MAX_LG_K && nat_lt 0 start && nat_le start MAX_THETA && not
    (seed_hash seed == 0)
    then None
    else Some InvalidArgument
