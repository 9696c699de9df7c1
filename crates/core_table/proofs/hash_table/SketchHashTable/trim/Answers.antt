use Rattle.std.proofs.Common.{◌≡◌, ◌≤◌, ◌<◌, ◌^◌, map, length, true, false, ltb, sym, refl, inr, arith}
use Rattle.std.proofs.lemmas.Bool.Decides.{nat_tests}
use Rattle.std.proofs.lemmas.Result.{err_from_is_err_and}
use Rattle.core_laws.specs.Maps.{map_of}
use Rattle.core_slots.specs.SlotLayout.{filled}
use Rattle.core_table.proofs.Counting.{counted_trimmed}
use Rattle.core_table.proofs.Slotted.{slotted_count, slotted_next, none_without, few_stay}
use Rattle.core_table.proofs.Tables.{cut_size}
use Rattle.core_laws.proofs.insertions.Cases.{IsRetained-cut}
use Rattle.core_table.proofs.hash_table.SketchHashTable.trim.Goals as goal
use Rattle.core_table.proofs.hash_table.SketchHashTable.trim.Goals.{then-not-has_slots-via-then-not-has_slots, then-not-has_slots-via-else-not-has_slots+then-self-nominal}

pub returns-then-not-has_slots-clause-after : goal.returns-then-not-has_slots-clause-after
returns-then-not-has_slots-clause-after g c =
    let key = g.E.SketchEntry.key in
    let many = slotted_count key _ _ _ _ _ c.self.invariant.slotted in
    let limited : c.self.inside.count ≤ 2 ^ c.self.inside.lg_nom_size =
    elim c.then-not-has_slots.branch [
      | then-not-has_slots-via-then-not-has_slots w ↦ omega (arith, none_without key _ _ _ _ _ c.self.invariant.slotted w.if-not-has_slots.true)
      | then-not-has_slots-via-else-not-has_slots+then-self-nominal w ↦ omega (arith, w.if-self-nominal.true, c.nominal_size-nominal.ensures.power)
    ] in
    rw (← c.self.view_is) (rw (few_stay key (2 ^ c.self.inside.lg_nom_size) c.self.inside.theta (map_of key (filled (map g.E.PathEntry.content c.self.inside.slots.items))) c.self.invariant.slotted.table.kept (omega (arith, limited, many))) refl)

pub returns-in_err-theta-clause-refused : goal.returns-in_err-theta-clause-refused
returns-in_err-theta-clause-refused g c =
    let many = slotted_count g.E.SketchEntry.key _ _ _ _ _ c.self.invariant.slotted in
    let p = err_from_is_err_and c.from_residual.result c.from_residual.ensures.1 in
    let m = map_of g.E.SketchEntry.key (filled (map g.E.PathEntry.content c.self.inside.slots.items)) in
    let lt : 2 ^ c.self.inside.lg_nom_size < length m = omega (arith, many, c.if-self-nominal.false, c.nominal_size-nominal.ensures.power) in
    let more : ltb (2 ^ c.self.inside.lg_nom_size) (length m) ≡ true = grind (arith, nat_tests) in
    rw (p.1, p.2, ← c.self.view_is) (inr (refl, more))

pub invariant_of-self-2 : goal.invariant_of-self-2
invariant_of-self-2 g c =
    let key = g.E.SketchEntry.key in
    let has : c.self.inside.has_slots ≡ true = c.if-not-has_slots.false in
    let sized = c.self.invariant.slotted.sized has in
    let is = c.in_ok-theta.ensures.after c.self.inside.theta c.self.invariant.slotted.table.kept.below_theta in
    record {
      slotted = slotted_next key _ c.self.inside.lg_cur_size _ c.self.inside.count c.self.inside.lg_cur_size c.nominal_size-nominal.result c.in_ok-theta.theta (map g.E.PathEntry.content c.self.inside.slots.items) (map g.E.PathEntry.content c.cut_slots.new.slots.items) c.self.invariant.slotted has
          (rw is (IsRetained-cut key c.nominal_size-nominal.result _ c.self.inside.theta c.self.invariant.slotted.table.kept))
          c.in_ok-theta.ensures.laid_out (sym c.in_ok-theta.ensures.count)
          (rw c.nominal_size-nominal.ensures.power (cut_size c.self.inside.lg_cur_size c.self.inside.lg_nom_size _ c.self.inside.count sized (omega (arith, c.if-self-nominal.false, c.nominal_size-nominal.ensures.power))));
      bounded = c.self.invariant.bounded;
      counted = rw (c.nominal_size-nominal.ensures.power, c.tick.ensures) (counted_trimmed c.self.inside.lg_cur_size c.self.inside.lg_nom_size c.self.inside.count c.self.inside.counts c.self.invariant.counted c.cut_slots.new.placed);
    }

pub returns-clause-after : goal.returns-clause-after
returns-clause-after g c =
    let is = c.in_ok-theta.ensures.after c.self.inside.theta c.self.invariant.slotted.table.kept.below_theta in
    rw (← c.self.view_is, ← c.nominal_size-nominal.ensures.power, ← is) refl

pub returns-then-not-has_slots-clause-ticked : goal.returns-then-not-has_slots-clause-ticked
returns-then-not-has_slots-clause-ticked g c =
    let m = map_of g.E.SketchEntry.key (filled (map g.E.PathEntry.content c.self.inside.slots.items)) in
    let many = slotted_count g.E.SketchEntry.key _ _ _ _ _ c.self.invariant.slotted in
    let limited : c.self.inside.count ≤ 2 ^ c.self.inside.lg_nom_size =
    elim c.then-not-has_slots.branch [
      | then-not-has_slots-via-then-not-has_slots w ↦ omega (arith, none_without g.E.SketchEntry.key _ _ _ _ _ c.self.invariant.slotted w.if-not-has_slots.true)
      | then-not-has_slots-via-else-not-has_slots+then-self-nominal w ↦ omega (arith, w.if-self-nominal.true, c.nominal_size-nominal.ensures.power)
    ] in
    let le : length m ≤ 2 ^ c.self.inside.lg_nom_size = omega (arith, limited, many) in
    let none : ltb (2 ^ c.self.inside.lg_nom_size) (length m) ≡ false = grind (arith, nat_tests) in
    rw (← c.self.view_is, none) refl

pub returns-clause-ticked : goal.returns-clause-ticked
returns-clause-ticked g c =
    let m = map_of g.E.SketchEntry.key (filled (map g.E.PathEntry.content c.self.inside.slots.items)) in
    let many = slotted_count g.E.SketchEntry.key _ _ _ _ _ c.self.invariant.slotted in
    let lt : 2 ^ c.self.inside.lg_nom_size < length m = omega (arith, many, c.if-self-nominal.false, c.nominal_size-nominal.ensures.power) in
    let more : ltb (2 ^ c.self.inside.lg_nom_size) (length m) ≡ true = grind (arith, nat_tests) in
    rw (← c.self.view_is, more, c.tick.ensures, c.in_ok-theta.ensures.placed, c.nominal_size-nominal.ensures.power) refl
