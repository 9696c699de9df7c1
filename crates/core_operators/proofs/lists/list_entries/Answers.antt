use Rattle.std.proofs.Common.{◌≡◌, ℕ, ap, ◌∙◌}
use Rattle.core_laws.specs.Cuts.{none_below}
use Rattle.core_table.specs.HashTable.{MapTable}
use Rattle.core_operators.proofs.ListedMerge.{lists-start, map-start}
use Rattle.core_operators.proofs.lists.list_entries.Goals as goal

-- the table has no entries, and its own theta
emptied : {X : Type 0} (t reset now : MapTable X) (theta : ℕ) → theta ≡ t.kept.theta → reset ≡ record t { kept = none_below t.start } → now ≡ record reset { kept = record reset.kept { theta = theta } } → now ≡ record t { kept = none_below t.kept.theta }
emptied t reset now theta theta_is reset_is now_is =
    let put : ℕ → MapTable _ = λ h. record t { kept = none_below h } in
    now_is ∙ ap (λ (m : MapTable _). record m { kept = record m.kept { theta = theta } }) reset_is ∙ ap put theta_is

pub returns-clause-lists : goal.returns-clause-lists
returns-clause-lists g c =
    lists-start g.E.SketchEntry.key c.args.table.now.map c.set_retention_theta.new.self.map c.in_ok-held.held.items c.new-added.result.items c.retention_theta-theta.ensures.sound c.requires.of_sketch c.in_ok-held.ensures.listed c.new-added.ensures.items
    (emptied c.args.table.now.map c.reset.new.self.map c.set_retention_theta.new.self.map c.retention_theta-theta.result c.retention_theta-theta.ensures.theta c.reset.ensures.after c.set_retention_theta.ensures.after)

pub returns-clause-after : goal.returns-clause-after
returns-clause-after g c =
    map-start g.E.SketchEntry.key c.args.table.now.map c.set_retention_theta.new.self.map c.in_ok-held.held.items c.new-added.result.items c.retention_theta-theta.ensures.sound c.in_ok-held.ensures.listed c.new-added.ensures.items
    (emptied c.args.table.now.map c.reset.new.self.map c.set_retention_theta.new.self.map c.retention_theta-theta.result c.retention_theta-theta.ensures.theta c.reset.ensures.after c.set_retention_theta.ensures.after)
