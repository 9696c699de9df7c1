use Rattle.std.proofs.Common.{◌≡◌, ◌≤◌, []}
use Rattle.core_operators.specs.Lists.{AreLists}
use Rattle.core_operators.proofs.ListedMerge.{both_apart, smaller-empty, smaller_cut, lists-smaller, map-smaller}
use Rattle.core_operators.proofs.union_table.UnionTable.to_smaller_table.Goals as goal

pub cut_clones-requires-clause-apart : goal.cut_clones-requires-clause-apart
cut_clones-requires-clause-apart g c = both_apart g.E.SketchEntry.key c.self.inside.slots.map c.in-Some.lists.held.items c.in-Some.lists.added.items (rw c.in-Some.is at c.self.invariant)

pub set_retention_theta-requires-clause-low : goal.set_retention_theta-requires-clause-low
set_retention_theta-requires-clause-low g c =
    let key = g.E.SketchEntry.key in
    let t = c.self.inside.slots.map in
    let l = c.in-Some.lists in
    let are : AreLists key t l.held.items l.added.items = rw c.in-Some.is at c.self.invariant in
    let high : c.args.theta ≤ t.kept.theta = rw (← c.self.view_is, c.in-Some.is) at c.requires.high in
    (smaller_cut key t l.held.items l.added.items are c.args.theta c.requires.low high c.args.lg_nom_size c.requires.of_sketch c.in_ok-slots.slots.map c.in_ok-slots.slots.map c.in_ok-cut.cut.entries.items c.in_ok-cut.cut.theta c.in_ok-slots.ensures.made (rw c.nominal_size.ensures.power at c.in_ok-cut.ensures)).theta_low

pub set_retention_theta-requires-clause-high : goal.set_retention_theta-requires-clause-high
set_retention_theta-requires-clause-high g c =
    let key = g.E.SketchEntry.key in
    let t = c.self.inside.slots.map in
    let l = c.in-Some.lists in
    let are : AreLists key t l.held.items l.added.items = rw c.in-Some.is at c.self.invariant in
    let high : c.args.theta ≤ t.kept.theta = rw (← c.self.view_is, c.in-Some.is) at c.requires.high in
    (smaller_cut key t l.held.items l.added.items are c.args.theta c.requires.low high c.args.lg_nom_size c.requires.of_sketch c.in_ok-slots.slots.map c.in_ok-slots.slots.map c.in_ok-cut.cut.entries.items c.in_ok-cut.cut.theta c.in_ok-slots.ensures.made (rw c.nominal_size.ensures.power at c.in_ok-cut.ensures)).theta_high

pub set_retention_theta-requires-clause-above : goal.set_retention_theta-requires-clause-above
set_retention_theta-requires-clause-above g c =
    let key = g.E.SketchEntry.key in
    let t = c.self.inside.slots.map in
    let l = c.in-Some.lists in
    let are : AreLists key t l.held.items l.added.items = rw c.in-Some.is at c.self.invariant in
    let high : c.args.theta ≤ t.kept.theta = rw (← c.self.view_is, c.in-Some.is) at c.requires.high in
    let none : c.in_ok-slots.slots.map.kept.entries ≡ [] = smaller-empty key t l.held.items l.added.items are c.args.theta c.requires.low high c.args.lg_nom_size c.requires.of_sketch c.in_ok-slots.slots.map c.in_ok-slots.slots.map c.in_ok-cut.cut.entries.items c.in_ok-cut.cut.theta c.in_ok-slots.ensures.made (rw c.nominal_size.ensures.power at c.in_ok-cut.ensures) in
    rw none tt

pub invariant_of-result-2 : goal.invariant_of-result-2
invariant_of-result-2 g c =
    let key = g.E.SketchEntry.key in
    let t = c.self.inside.slots.map in
    let l = c.in-Some.lists in
    let are : AreLists key t l.held.items l.added.items = rw c.in-Some.is at c.self.invariant in
    let high : c.args.theta ≤ t.kept.theta = rw (← c.self.view_is, c.in-Some.is) at c.requires.high in
    rw c.new-added.ensures.items (lists-smaller key t l.held.items l.added.items are c.args.theta c.requires.low high c.args.lg_nom_size c.requires.of_sketch c.in_ok-slots.slots.map c.set_retention_theta.new.self.map c.in_ok-cut.cut.entries.items c.in_ok-cut.cut.theta c.in_ok-slots.ensures.made (rw c.nominal_size.ensures.power at c.in_ok-cut.ensures) c.set_retention_theta.ensures.after)

pub returns-clause-made : goal.returns-clause-made
returns-clause-made g c =
    let key = g.E.SketchEntry.key in
    let t = c.self.inside.slots.map in
    let l = c.in-Some.lists in
    let are : AreLists key t l.held.items l.added.items = rw c.in-Some.is at c.self.invariant in
    let high : c.args.theta ≤ t.kept.theta = rw (← c.self.view_is, c.in-Some.is) at c.requires.high in
    rw (c.new-added.ensures.items, ← c.self.view_is, c.in-Some.is) (map-smaller key t l.held.items l.added.items are c.args.theta c.requires.low high c.args.lg_nom_size c.requires.of_sketch c.in_ok-slots.slots.map c.set_retention_theta.new.self.map c.in_ok-cut.cut.entries.items c.in_ok-cut.cut.theta c.in_ok-slots.ensures.made (rw c.nominal_size.ensures.power at c.in_ok-cut.ensures) c.set_retention_theta.ensures.after)
