-- The settings of a sketch or a union.
use Rattle.std.specs.Prelude.{ℕ}
use Rattle.sketch_base.specs.declared.seed.TheConstants.{DEFAULT_UPDATE_SEED}
use Rattle.core_laws.specs.declared.TheConstants.{MAX_THETA, DEFAULT_LG_K}
use Rattle.core_table.specs.declared.resize_factor.ResizeFactor.{ResizeFactor}
use Rattle.core_table.specs.declared.resize_factor.ResizeFactor.TheVariants.{X8}

-- the logarithm of the nominal entries, the resize factor, the starting theta and the seed
pub record Settings : Type 0 where
  pub lg_k : ℕ
  pub resize_factor : ResizeFactor
  pub starting_theta : ℕ
  pub seed : ℕ

-- the settings of a new builder
abbrev pub default_settings : Settings
default_settings = record { lg_k = DEFAULT_LG_K; resize_factor = X8; starting_theta = MAX_THETA; seed = DEFAULT_UPDATE_SEED }
