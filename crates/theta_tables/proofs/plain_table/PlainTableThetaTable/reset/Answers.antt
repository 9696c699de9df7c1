use Rattle.std.proofs.Common.{arith}
use Rattle.core_laws.proofs.maps.Ascending.{ascending-nil}
use Rattle.theta_tables.proofs.plain_table.PlainTableThetaTable.reset.Goals as goal

pub invariant_of-self : goal.invariant_of-self
invariant_of-self g c = rw c.clear.ensures.items (record {
  of_sketch = c.self.invariant.of_sketch;
  table = record {
    kept = record { ascending = ascending-nil _; nonzero = tt; below_theta = tt; theta_low = c.self.invariant.table.made.start_low; theta_high = c.self.invariant.table.made.start_high };
    limited = λ _. omega arith;
    made = c.self.invariant.table.made;
    without_slots = c.self.invariant.table.without_slots;
  };
})
