use Rattle.std.proofs.Common.{◌≡◌, ◌*◌, ◌/◌, ◌≤◌, ◌<◌, ◌^◌, ℕ, true, List, map, length, ap, sym, ◌∙◌, arith}
use Rattle.std.proofs.Math.Pow.{pow_mono}
use Rattle.sketch_base.specs.Seed.{seed_hash}
use Rattle.core_laws.specs.declared.TheConstants.{MAX_LG_K}
use Rattle.core_laws.specs.Maps.{map_of, below, IsApart}
use Rattle.core_laws.specs.Cuts.{Retained, cut, retained, IsRetained}
use Rattle.core_slots.specs.SlotLayout.{filled}
use Rattle.core_table.specs.HashTable.{MapTable, empty_table}
use Rattle.core_table.proofs.FilledTables.{has_slots}
use Rattle.core_table.proofs.Slotted.{slotted_sequence}
use Rattle.core_table.proofs.ListedBelow.{MakeCut, makes_cut}
use Rattle.core_table.proofs.hash_table.SketchHashTable.to_smaller_table.Goals as goal

fits_smaller : {X : Type 0} (key : X → ℕ) (xs : List X) → IsApart key xs → (lg_k k own theta lesser : ℕ) → IsRetained key (record { entries = map_of key xs; theta = own }) → 0 < lesser → lesser ≤ own → lg_k ≤ MAX_LG_K → k ≡ 2 ^ lg_k → cut key k (map_of key xs) theta ≡ retained key (map_of key xs) lesser
    → MakeCut key k lesser (below key xs lesser) (cut key k (map_of key xs) theta)
fits_smaller key xs each lg_k k own theta lesser kept low high small power is_cut =
    let most : 2 ^ lg_k ≤ 2 ^ 26 = pow_mono {i = lg_k} {j = 26} small in
    makes_cut key xs each k own theta lesser kept low high (omega (arith, most, power)) is_cut

pub cut_theta-requires-clause-apart : goal.cut_theta-requires-clause-apart
cut_theta-requires-clause-apart g c = rw c.deref.ensures.value (slotted_sequence g.E.SketchEntry.key _ _ _ _ _ c.self.invariant.slotted).apart

pub cut_theta-requires-clause-nonzero : goal.cut_theta-requires-clause-nonzero
cut_theta-requires-clause-nonzero g c = rw c.deref.ensures.value c.self.invariant.slotted.table.kept.nonzero

pub refill-requires-clause-fill : goal.refill-requires-clause-fill
refill-requires-clause-fill g c =
    let key = g.E.SketchEntry.key in
    let lesser : ℕ = c.in_ok-lesser.lesser in
    let xs = filled (map g.E.PathEntry.content c.self.inside.slots.items) in
    let fit = fits_smaller key xs (slotted_sequence key _ _ _ _ _ c.self.invariant.slotted).apart c.args.lg_nom_size c.nominal_size-fewer.result c.self.inside.theta c.args.theta lesser c.self.invariant.slotted.table.kept c.in_ok-lesser.ensures.low (omega (arith, c.in_ok-lesser.ensures.high, rw (← c.self.view_is) at c.requires.high)) c.requires.small c.nominal_size-fewer.ensures.power (rw c.deref.ensures.value at c.in_ok-lesser.ensures.cut) in
    let listed : c.in_ok-kept.kept.items ≡ below key xs lesser = rw c.deref-2.ensures.value at c.in_ok-kept.ensures.listed in
    let few : length (below key xs lesser) ≤ 15 * 2 ^ c.args.lg_nom_size / 8 = omega (arith, fit.fill.limited, c.nominal_size-fewer.ensures.power) in
    rw (c.set_retention_theta.ensures.after, c.in_ok-smaller.ensures.made, listed) (record { apart = fit.fill.apart; nonzero = fit.fill.nonzero; below_theta = fit.fill.below_theta; limited = few })

pub returns-clause-made : goal.returns-clause-made
returns-clause-made g c =
    let key = g.E.SketchEntry.key in
    let xs = filled (map g.E.PathEntry.content c.self.inside.slots.items) in
    let lesser : ℕ = c.in_ok-lesser.lesser in
    let fit = fits_smaller key xs (slotted_sequence key _ _ _ _ _ c.self.invariant.slotted).apart c.args.lg_nom_size c.nominal_size-fewer.result c.self.inside.theta c.args.theta lesser c.self.invariant.slotted.table.kept c.in_ok-lesser.ensures.low (omega (arith, c.in_ok-lesser.ensures.high, rw (← c.self.view_is) at c.requires.high)) c.requires.small c.nominal_size-fewer.ensures.power (rw c.deref.ensures.value at c.in_ok-lesser.ensures.cut) in
    let listed : c.in_ok-kept.kept.items ≡ below key xs lesser = rw c.deref-2.ensures.value at c.in_ok-kept.ensures.listed in
    let T = MapTable g.row.E.Denot in
    let own = c.self.inside in
    let table = c.self.invariant.slotted.table in
    let slots : own.has_slots ≡ true = has_slots own.has_slots own.lg_nom_size table.without_slots (omega (arith, c.requires.of_sketch, rw (← c.self.view_is) at c.requires.fewer)) in
    let hash : own.seed_hash ≡ seed_hash own.seed = table.made.of_seed in
    let put : T → T = λ t. record t { kept = record { entries = map_of key c.in_ok-kept.kept.items; theta = t.kept.theta } } in
    let set : T → T = λ t. record t { kept = record t.kept { theta = lesser } } in
    let with : Retained g.row.E.Denot → T = λ v. record (empty_table c.args.lg_nom_size own.starting_theta own.seed) { kept = v } in
    let done : c.refill.new.self.map ≡ with (cut key (2 ^ c.args.lg_nom_size) (map_of key xs) c.args.theta) =
    c.in_ok-refill.ensures.after
    ∙ ap put c.set_retention_theta.ensures.after
    ∙ ap (λ t. put (set t)) c.in_ok-smaller.ensures.made
    ∙ ap (λ ys. with (record { entries = map_of key ys; theta = lesser })) listed
    ∙ ap with fit.made_is
    ∙ ap (λ (k : ℕ). with (cut key k (map_of key xs) c.args.theta)) c.nominal_size-fewer.ensures.power in
    rw (← c.self.view_is) (done ∙ (λ i. record { kept = cut key (2 ^ c.args.lg_nom_size) (map_of key xs) c.args.theta; lg_nom = c.args.lg_nom_size; has_slots = sym slots i; start = own.starting_theta; seed = own.seed; seed_hash = sym hash i }))
