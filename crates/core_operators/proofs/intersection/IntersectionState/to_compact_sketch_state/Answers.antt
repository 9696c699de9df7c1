use Rattle.std.proofs.Common.{◌≡◌, ◌∙◌, ◌<◌, ◌^◌, length}
use Rattle.core_compact.proofs.LawsOfShown.{IsShown-retained}
use Rattle.core_table.proofs.OtherOrders.{map_of-ascending}
use Rattle.core_operators.proofs.intersection.IntersectionState.to_compact_sketch_state.Goals as goal

pub state_of-requires : goal.state_of-requires
state_of-requires g c =
    let own = c.self.inside in
    let same : c.in_ok-entries-in-Held.entries.items ≡ own.entries.items = c.in_ok-entries-in-Held.ensures.items_if_clones_equal c.requires.clones_equal ∙ c.deref.ensures.value in
    let few : length own.entries.items < 2 ^ 32 = rw c.in-Held.is at c.self.invariant.intersection.limited in
    rw same (IsShown-retained g.E.SketchEntry.key (record { entries = own.entries.items; theta = own.theta }) own.seed_hash c.args.ordered c.self.invariant.retained few)

pub returns-in_ok-entries-in-Held-clause-ok : goal.returns-in_ok-entries-in-Held-clause-ok
returns-in_ok-entries-in-Held-clause-ok g c =
    let own = c.self.inside in
    let same : c.in_ok-entries-in-Held.entries.items ≡ own.entries.items = c.in_ok-entries-in-Held.ensures.items_if_clones_equal c.requires.clones_equal ∙ c.deref.ensures.value in
    rw (← c.self.view_is, c.in-Held.is) (rw (same, map_of-ascending g.E.SketchEntry.key own.entries.items c.self.invariant.retained.ascending) at c.state_of.ensures)
