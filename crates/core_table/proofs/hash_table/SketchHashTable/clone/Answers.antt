use Rattle.std.proofs.Common.{◌≡◌, ◌*◌, ◌/◌, ◌≤◌, ◌^◌, ℕ, true, List, map, length, sym, ap, ◌∙◌, arith}
use Rattle.std.proofs.Math.Pow.{pow_mono}
use Rattle.sketch_base.specs.Seed.{seed_hash}
use Rattle.core_laws.specs.declared.TheConstants.{MIN_LG_K, MAX_LG_K}
use Rattle.core_laws.specs.Maps.{map_of, below, IsApart}
use Rattle.core_laws.specs.Cuts.{Retained, IsRetained}
use Rattle.core_slots.specs.SlotLayout.{filled}
use Rattle.core_table.specs.HashTable.{MapTable, empty_table}
use Rattle.core_table.proofs.FilledTables.{has_slots}
use Rattle.core_table.proofs.Slotted.{slotted_sequence}
use Rattle.core_table.proofs.ListedBelow.{MakeCut, makes_all}
use Rattle.core_table.proofs.hash_table.SketchHashTable.clone.Goals as goal

-- the entries of a table of a sketch, in any order, fill a table of the same size without a rebuild
all_fit : {X : Type 0} (key : X → ℕ) (xs : List X) → IsApart key xs → (lg_k own : ℕ) → MIN_LG_K ≤ lg_k → lg_k ≤ MAX_LG_K
    → IsRetained key (record { entries = map_of key xs; theta = own }) → (8 ≤ 2 ^ lg_k → length (map_of key xs) ≤ 15 * 2 ^ lg_k / 8)
    → MakeCut key (15 * 2 ^ lg_k / 8) own (below key xs own) (record { entries = map_of key xs; theta = own })
all_fit key xs each lg_k own low small kept limited =
    let least : 2 ^ 4 ≤ 2 ^ lg_k = pow_mono {i = 4} {j = lg_k} low in
    let most : 2 ^ lg_k ≤ 2 ^ 26 = pow_mono {i = lg_k} {j = 26} small in
    makes_all key xs each (15 * 2 ^ lg_k / 8) own kept (limited (omega (arith, least))) (omega (arith, most))

pub refill-requires-clause-fill : goal.refill-requires-clause-fill
refill-requires-clause-fill g c =
    let own = c.self.inside in
    let table = c.self.invariant.slotted.table in
    let xs = filled (map g.E.PathEntry.content own.slots.items) in
    let fit = all_fit g.E.SketchEntry.key xs (slotted_sequence g.E.SketchEntry.key _ _ _ _ _ c.self.invariant.slotted).apart own.lg_nom_size own.theta (rw (← c.self.view_is) at c.requires.of_sketch) (rw (← c.self.view_is) at c.requires.small) table.kept table.limited in
    let listed : c.in_ok-entries.entries.items ≡ below g.E.SketchEntry.key xs own.theta = rw c.deref.ensures.value at c.in_ok-entries.ensures.listed in
    rw (c.set_retention_theta.ensures.after, c.in_ok-copy.ensures.made, listed) fit.fill

pub returns-clause-copied : goal.returns-clause-copied
returns-clause-copied g c =
    let key = g.E.SketchEntry.key in
    let xs = filled (map g.E.PathEntry.content c.self.inside.slots.items) in
    let own = c.self.inside in
    let table = c.self.invariant.slotted.table in
    let fit = all_fit key xs (slotted_sequence key _ _ _ _ _ c.self.invariant.slotted).apart own.lg_nom_size own.theta (rw (← c.self.view_is) at c.requires.of_sketch) (rw (← c.self.view_is) at c.requires.small) table.kept table.limited in
    let listed : c.in_ok-entries.entries.items ≡ below key xs own.theta = rw c.deref.ensures.value at c.in_ok-entries.ensures.listed in
    let T = MapTable g.row.E.Denot in
    let slots : own.has_slots ≡ true = has_slots own.has_slots own.lg_nom_size table.without_slots (omega (arith, rw (← c.self.view_is) at c.requires.of_sketch)) in
    let hash : own.seed_hash ≡ seed_hash own.seed = table.made.of_seed in
    let put : T → T = λ t. record t { kept = record { entries = map_of key c.in_ok-entries.entries.items; theta = t.kept.theta } } in
    let set : T → T = λ t. record t { kept = record t.kept { theta = own.theta } } in
    let with : Retained g.row.E.Denot → T = λ v. record (empty_table own.lg_nom_size own.starting_theta own.seed) { kept = v } in
    let done : c.refill.new.self.map ≡ with (record { entries = map_of key xs; theta = own.theta }) =
    c.in_ok-refill.ensures.after
    ∙ ap put c.set_retention_theta.ensures.after
    ∙ ap (λ t. put (set t)) c.in_ok-copy.ensures.made
    ∙ ap (λ ys. with (record { entries = map_of key ys; theta = own.theta })) listed
    ∙ ap with fit.made_is in
    rw (← c.self.view_is) (done ∙ (λ i. record { kept = record { entries = map_of key xs; theta = own.theta }; lg_nom = own.lg_nom_size; has_slots = sym slots i; start = own.starting_theta; seed = own.seed; seed_hash = sym hash i }))
