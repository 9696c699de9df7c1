use Rattle.c_objects.specs.Sums.{sums_sketch, sums_mode, KeepsSettings}
use Rattle.c_objects.proofs.Turns.{IsInTurn}
use Rattle.c_objects.proofs.values.add_at_hashes.Given as goal

abbrev pub invariant-loop-at : goal.invariant-loop-at
invariant-loop-at l = record {
  same : KeepsSettings l.initial.sums l.sums;
  turn : IsInTurn (sums_mode l.initial.sums) l.hashes l.values (sums_sketch l.initial.sums) l.at (sums_sketch l.sums);
}
