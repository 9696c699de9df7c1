use Rattle.std.proofs.Common.{◌≡◌, ◌≤◌, ◌^◌, ℕ, map, length, ap, arith}
use Rattle.std.proofs.Math.Pow.{pow_mono}
use Rattle.core_laws.specs.Maps.{map_of}
use Rattle.core_laws.specs.Cuts.{cut, retained}
use Rattle.core_slots.specs.SlotLayout.{filled}
use Rattle.core_table.proofs.Slotted.{slotted_sequence}
use Rattle.core_laws.proofs.insertions.Cases.{IsRetained-below, length-cut}
use Rattle.core_table.proofs.hash_table.SketchHashTable.to_cut_state.Goals as goal

pub cut_theta-requires-clause-apart : goal.cut_theta-requires-clause-apart
cut_theta-requires-clause-apart g c = rw c.deref.ensures.value (slotted_sequence g.E.SketchEntry.key _ _ _ _ _ c.self.invariant.slotted).apart

pub cut_theta-requires-clause-nonzero : goal.cut_theta-requires-clause-nonzero
cut_theta-requires-clause-nonzero g c = rw c.deref.ensures.value c.self.invariant.slotted.table.kept.nonzero

pub state_below-requires-clause-apart : goal.state_below-requires-clause-apart
state_below-requires-clause-apart g c = rw c.deref-2.ensures.value (slotted_sequence g.E.SketchEntry.key _ _ _ _ _ c.self.invariant.slotted).apart

pub state_below-requires-clause-sound : goal.state_below-requires-clause-sound
state_below-requires-clause-sound g c =
    let kept = c.self.invariant.slotted.table.kept in
    let m = map_of g.E.SketchEntry.key (filled (map g.E.PathEntry.content c.self.inside.slots.items)) in
    rw c.deref-2.ensures.value (IsRetained-below g.E.SketchEntry.key m c.self.inside.theta c.in_ok-lesser.lesser kept c.in_ok-lesser.ensures.low (omega (arith, c.in_ok-lesser.ensures.high, rw (← c.self.view_is) at c.requires.high)))

pub state_below-requires-clause-limited : goal.state_below-requires-clause-limited
state_below-requires-clause-limited g c =
    let key = g.E.SketchEntry.key in
    let m = map_of key (filled (map g.E.PathEntry.content c.self.inside.slots.items)) in
    let k : ℕ = c.nominal_size-nominal.result in
    let is_cut : cut key k m c.args.theta ≡ retained key m c.in_ok-lesser.lesser = rw c.deref.ensures.value at c.in_ok-lesser.ensures.cut in
    let limited = length-cut key k m c.args.theta c.self.invariant.slotted.table.kept.ascending in
    let power : 2 ^ c.self.inside.lg_nom_size ≤ 2 ^ 26 = pow_mono (rw (← c.self.view_is) at c.requires.small) in
    rw c.deref-2.ensures.value (omega (arith, limited, ap (λ v. length v.entries) is_cut, power, c.nominal_size-nominal.ensures.power))

pub returns-clause-ok : goal.returns-clause-ok
returns-clause-ok g c =
    let key = g.E.SketchEntry.key in
    let m = map_of key (filled (map g.E.PathEntry.content c.self.inside.slots.items)) in
    let is_cut : cut key c.nominal_size-nominal.result m c.args.theta ≡ retained key m c.in_ok-lesser.lesser = rw c.deref.ensures.value at c.in_ok-lesser.ensures.cut in
    rw (← c.self.view_is, ← c.nominal_size-nominal.ensures.power, is_cut) (rw c.deref-2.ensures.value at c.in_ok-state.ensures.ok)
