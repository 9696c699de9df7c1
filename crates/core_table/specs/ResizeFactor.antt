-- Resize factors.
use Rattle.std.specs.Prelude.{ℕ}
use Rattle.core_table.specs.declared.resize_factor.ResizeFactor.{ResizeFactor}
use Rattle.core_table.specs.declared.resize_factor.ResizeFactor.TheVariants.{X1, X2, X4, X8}

-- the binary logarithm of a resize factor
abbrev pub lg_of : ResizeFactor → ℕ
lg_of X1 = 0
lg_of X2 = 1
lg_of X4 = 2
lg_of X8 = 3
