use Rattle.std.proofs.Common.{◌≡◌, OnOk, refl, sym, ◌∙◌, subst}
use Rattle.core_table.specs.HashTable.{MapTable}
use Rattle.core_operators.specs.Lists.{with_lists}
use Rattle.core_operators.specs.Union.{HasMerged, at_or_above}
use Rattle.core_operators.proofs.union_table.UnionTable.merge_listed.Goals as goal
use Rattle.core_operators.proofs.union_table.UnionTable.merge_listed.Goals.{in-Some, in-None+in_ok-lists-in-None}

pub returns-clause-after : goal.returns-clause-after
returns-clause-after g c =
    let key = g.E.SketchEntry.key in
    let now = c.merge_into_lists-merged.new in
    let same : with_lists key c.match-take.lists.held.items c.match-take.lists.added.items c.match-take.self-inside.slots.map ≡ c.args.self.now.map = rw (← c.self.view_is) (elim c.match-take.branch [
      | in-Some w ↦ rw (w.lists-is, w.self-inside-is, sym c.take.ensures.value ∙ w.in-Some.is) refl
      | in-None+in_ok-lists-in-None w ↦ rw (w.lists-is, w.self-inside-is, sym c.take.ensures.value ∙ w.in-None.is) w.in_ok-lists-in-None.ensures.after
    ]) in
    subst (λ (t : MapTable g.row.E.Denot). OnOk c.merge_into_lists-merged.result (HasMerged key (g.P.UnionMergePolicy.merges c.args.policy.now) (g.P.UnionMergePolicy.refuses c.args.policy.now) (at_or_above key c.args.entries.now c.args.from) c.args.theta t (with_lists key now.lists.held.items now.lists.added.items now.table.map)))
    same c.merge_into_lists-merged.ensures.after
