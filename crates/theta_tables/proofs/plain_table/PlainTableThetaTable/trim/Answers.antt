use Rattle.std.proofs.Common.{◌≡◌, ℕ, ap, length, arith}
use Rattle.core_laws.specs.Cuts.{cut}
use Rattle.core_laws.proofs.insertions.Cases.{IsRetained-cut, limited-cut}
use Rattle.theta_tables.proofs.plain_table.PlainTableThetaTable.trim.Goals as goal

pub invariant_of-self : goal.invariant_of-self
invariant_of-self g c =
    let key = g.E.SketchEntry.key in
    let k : ℕ = c.nominal_size-nominal.result in
    record {
      of_sketch = c.self.invariant.of_sketch;
      table = record {
        kept = rw c.cut_entries-self-inside.ensures (IsRetained-cut key _ _ _ c.self.invariant.table.kept);
        limited = λ large.
            let same : length c.cut_entries-self-inside.new.entries.items ≡ length (cut key k c.self.inside.entries.items c.self.inside.theta).entries = ap (λ v. length v.entries) c.cut_entries-self-inside.ensures in
            omega (arith, same, limited-cut key k c.self.inside.entries.items c.self.inside.theta c.self.invariant.table.kept.ascending (omega (arith, large, c.nominal_size-nominal.ensures.power)), c.nominal_size-nominal.ensures.power);
        made = c.self.invariant.table.made;
        without_slots = c.self.invariant.table.without_slots;
      };
    }
