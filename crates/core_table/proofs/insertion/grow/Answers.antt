use Rattle.std.proofs.Common.{◌≡◌, ℕ, ◌+◌, ◌<◌, map, length, refl, ap, ◌∙◌, arith}
use Rattle.core_laws.specs.Maps.{map_of, with_entry}
use Rattle.core_slots.specs.SlotLayout.{filled}
use Rattle.core_table.specs.HashTable.{threshold}
use Rattle.core_laws.proofs.maps.Ascending.{each-with_entry}
use Rattle.core_laws.proofs.cuts.Cuts.{below_all}
use Rattle.core_table.proofs.Tables.{grown, joined_count}
use Rattle.core_slots.proofs.Held.{length-content}
use Rattle.core_slots.proofs.SlotLayouts.{length-map_of}
use Rattle.core_table.proofs.insertion.grow.Goals as goal

pub overflow_add-sizes : goal.overflow_add-sizes
overflow_add-sizes g c = omega (arith, c.requires.place.sized.within, c.requires.place.sized.nom_high, c.requires.place.sized.grow_high)

pub put_spread-requires-clause-small : goal.put_spread-requires-clause-small
put_spread-requires-clause-small g c = omega (arith, c.min-lg_cur.ensures, c.requires.place.sized.nom_high)

pub put_spread-requires-clause-room : goal.put_spread-requires-clause-room
put_spread-requires-clause-room g c =
    let s = c.args.sizes in
    omega (arith, c.requires.place.counted, (grown s.lg_cur c.min-lg_cur.result s.lg_nom s.grow s.count c.requires.place.sized c.requires.growing c.min-lg_cur.ensures).fits)

pub threshold_of-requires : goal.threshold_of-requires
threshold_of-requires g c = omega (arith, c.min-lg_cur.ensures, c.requires.place.sized.nom_high)

pub returns-clause-after : goal.returns-clause-after
returns-clause-after g c =
    let key = g.E.SketchEntry.key in
    let m = map_of key (filled (map g.E.PathEntry.content c.args.slots.now.items)) in
    c.in_ok-put_spread.ensures.map ∙ below_all key (with_entry key m c.args.entry) c.args.sizes.theta (each-with_entry key (λ y. key y < c.args.sizes.theta) m c.args.entry c.requires.place.below_theta c.requires.place.low)

pub returns-clause-same : goal.returns-clause-same
returns-clause-same g c =
    let s = c.args.sizes in
    ap (λ (n : ℕ). record s { lg_cur = c.min-lg_cur.result; most = n; count = s.count + 1 }) c.threshold_of.ensures ∙ ap (λ (n : ℕ). record s { lg_cur = n; most = threshold n s.lg_nom; count = s.count + 1 }) c.min-lg_cur.ensures

pub returns-clause-ticked : goal.returns-clause-ticked
returns-clause-ticked g c =
    let key = g.E.SketchEntry.key in
    let content = g.E.PathEntry.content in
    let slots = map content c.args.slots.now.items in
    let after = map content c.put_spread.new.slots.items in
    let inside : c.args.at < length slots = omega (arith, c.requires.inside, length-content content c.args.slots.now.items) in
    let many : length (filled after) ≡ c.args.sizes.count + 1 =
    omega (arith, c.requires.place.counted, joined_count key c.args.sizes.lg_cur c.args.at c.args.entry slots c.requires.place.free_slot.laid_out inside c.requires.place.free_slot.free c.requires.place.free_slot.on_path, ap length (returns-clause-after g c), length-map_of key c.min-lg_cur.result after c.in_ok-put_spread.ensures.laid_out) in
    rw (c.tick.ensures, c.tick-2.ensures, c.in_ok-put_spread.ensures.placed, many) refl

pub returns-clause-looked : goal.returns-clause-looked
returns-clause-looked g c = c.in_ok-put_spread.ensures.looked
