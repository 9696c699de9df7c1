use Rattle.std.proofs.Common.{◌≡◌, true, length}
use Rattle.std.specs.Prelude.{◌&&◌, nat_le}
use Rattle.std.specs.List.{find, list_all}
use Rattle.distinct_arguments.specs.Precision.{is_enough}
use Rattle.distinct_arguments.proofs.precision.first_enough.Given as goal

-- the first of the sizes that are left is the first of all
abbrev pub invariant-loop-sizes : goal.invariant-loop-sizes
invariant-loop-sizes l = record {
  first : find (is_enough l.percentage) l.sizes ≡ find (is_enough l.percentage) l.initial.sizes;
  range : list_all (λ n. nat_le 4 n && nat_le n 26) l.sizes ≡ true;
}

abbrev pub decreases-loop-sizes : goal.decreases-loop-sizes
decreases-loop-sizes l = length l.sizes
