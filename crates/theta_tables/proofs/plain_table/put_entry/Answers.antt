use Rattle.std.proofs.Common.{◌≡◌, sym, ◌∙◌, refl, arith}
use Rattle.std.specs.List.{insert}
use Rattle.core_laws.proofs.maps.Insertions.{with_entry_gap}
use Rattle.core_laws.proofs.insertions.Cases.{IsRetained-with_entry, rebuilt_full, rebuilt_small, rebuilt_free}
use Rattle.theta_tables.proofs.plain_table.put_entry.Goals as goal
use Rattle.theta_tables.proofs.plain_table.put_entry.Goals.{else-nominal-ge8-via-then-nominal-ge8+else-len-nominal, else-nominal-ge8-via-else-nominal-ge8}

pub cut_entries-requires-clause-ascending : goal.cut_entries-requires-clause-ascending
cut_entries-requires-clause-ascending g c =
    let key = g.E.SketchEntry.key in
    let put = with_entry_gap key _ _ _ c.requires.gap c.args.entry refl in
    rw (c.in_ok-insert.ensures.items, ← put) (IsRetained-with_entry key _ _ c.args.entry c.requires.retained c.requires.nonzero c.requires.small).ascending

pub cut_entries-requires-clause-below_theta : goal.cut_entries-requires-clause-below_theta
cut_entries-requires-clause-below_theta g c =
    let key = g.E.SketchEntry.key in
    let put = with_entry_gap key _ _ _ c.requires.gap c.args.entry refl in
    rw (c.in_ok-insert.ensures.items, ← put) (IsRetained-with_entry key _ _ c.args.entry c.requires.retained c.requires.nonzero c.requires.small).below_theta

pub returns-then-len-nominal-clause-ok : goal.returns-then-len-nominal-clause-ok
returns-then-len-nominal-clause-ok g c =
    let put = with_entry_gap g.E.SketchEntry.key _ _ _ c.requires.gap c.args.entry refl in
    let items : c.insert.new.self.items ≡ insert c.args.entries.now.items c.args.at c.args.entry = c.in_ok-insert.ensures.items in
    rw (put, ← items) (c.cut_entries.ensures ∙ sym (rebuilt_full g.E.SketchEntry.key c.args.nominal c.insert.new.self.items c.args.theta c.if-nominal-ge8.true (omega arith)))

pub returns-else-nominal-ge8-clause-ok : goal.returns-else-nominal-ge8-clause-ok
returns-else-nominal-ge8-clause-ok g c =
    let put = with_entry_gap g.E.SketchEntry.key _ _ _ c.requires.gap c.args.entry refl in
    let items : c.insert.new.self.items ≡ insert c.args.entries.now.items c.args.at c.args.entry = c.in_ok-insert.ensures.items in
    rw (put, ← items) (sym (elim c.else-nominal-ge8.branch [
      | else-nominal-ge8-via-then-nominal-ge8+else-len-nominal w ↦ rebuilt_free g.E.SketchEntry.key c.args.nominal c.insert.new.self.items c.args.theta (omega (arith, w.len.ensures, w.if-len-nominal.false))
      | else-nominal-ge8-via-else-nominal-ge8 w ↦ rebuilt_small g.E.SketchEntry.key c.args.nominal c.insert.new.self.items c.args.theta (omega (arith, w.if-nominal-ge8.false))
    ]))
