use Rattle.std.proofs.Common.{sym, ap, ◌∙◌, Some}
use Rattle.core_laws.proofs.maps.Insertions.{entry_at_gap, entry_at_place}
use Rattle.theta_tables.proofs.plain_table.PlainTableThetaTable.entry.Goals as goal

pub returns-in-Err : goal.returns-in-Err
returns-in-Err g c = rw (← c.self.view_is) (sym (entry_at_gap _ _ _ _ (rw c.deref.ensures.value at c.in-Err.ensures.absent)))

pub returns-in-Ok : goal.returns-in-Ok
returns-in-Ok g c =
    let found = rw c.deref.ensures.value at c.in-Ok.ensures.found in
    rw (← c.self.view_is) (ap Some c.index.ensures ∙ sym (entry_at_place _ _ _ _ c.index.result.now c.self.invariant.table.kept.ascending found))
