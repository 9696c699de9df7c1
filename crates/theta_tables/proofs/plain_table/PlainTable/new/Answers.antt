use Rattle.std.proofs.Common.{arith}
use Rattle.core_laws.proofs.maps.Ascending.{ascending-nil}
use Rattle.theta_tables.proofs.plain_table.PlainTable.new.Goals as goal

pub invariant_of-result : goal.invariant_of-result
invariant_of-result g c = rw c.new-2.ensures.items (record {
  of_sketch = omega arith;
  table = record {
    kept = record { ascending = ascending-nil _; nonzero = tt; below_theta = tt; theta_low = omega arith; theta_high = omega arith };
    limited = λ _. omega arith;
    made = record {
      lg_nom_high = omega arith;
      start_low = omega arith;
      start_high = omega arith;
      of_seed = c.in_ok-seed_hash.ensures.ok;
      hash_low = rw c.in_ok-seed_hash.ensures.ok (omega (arith, c.in_ok-seed_hash.ensures.nonzero));
    };
    without_slots = λ without. absurd (cc);
  };
})
