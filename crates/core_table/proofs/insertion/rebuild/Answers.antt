use Rattle.std.proofs.Common.{◌^◌, ◌∷◌, map, length, refl, sym, ap, ◌∙◌, arith}
use Rattle.std.proofs.lemmas.List.{length-map}
use Rattle.core_slots.specs.SlotLayout.{filled}
use Rattle.core_slots.specs.Rank.{HasRank}
use Rattle.core_slots.proofs.SlotLayouts.{length-map_of}
use Rattle.core_slots.proofs.Ranks.{apart-more, apart-hashes, rebuilt_at, kept_count}
use Rattle.core_table.proofs.insertion.rebuild.Goals as goal

pub hash_of_rank-requires-clause-apart : goal.hash_of_rank-requires-clause-apart
hash_of_rank-requires-clause-apart g c =
    let key = g.E.SketchEntry.key in
    let slots = map g.E.PathEntry.content c.args.slots.now.items in
    rw (c.deref.ensures.value, c.hash.ensures) (apart-hashes key (c.args.entry ∷ filled slots) (apart-more key c.args.sizes.lg_cur c.args.at c.args.entry slots c.requires.place.free_slot.laid_out c.requires.place.free_slot.on_path c.requires.place.free_slot.free))

pub hash_of_rank-requires-clause-counted : goal.hash_of_rank-requires-clause-counted
hash_of_rank-requires-clause-counted g c =
    let slots = map g.E.PathEntry.content c.args.slots.now.items in
    rw c.deref.ensures.value (omega (arith, length-map (filled slots) g.E.SketchEntry.key, c.requires.place.counted))

pub hash_of_rank-requires-clause-inside : goal.hash_of_rank-requires-clause-inside
hash_of_rank-requires-clause-inside g c = omega (arith, c.requires.full, c.requires.large, c.nominal_size-nominal.ensures.power)

pub put_kept-requires-clause-kept : goal.put_kept-requires-clause-kept
put_kept-requires-clause-kept g c =
    let key = g.E.SketchEntry.key in
    let slots = map g.E.PathEntry.content c.args.slots.now.items in
    let reported : HasRank (c.hash.result ∷ map key (filled slots)) c.nominal_size-nominal.result c.in_ok-cut_theta.cut_theta = rw c.deref.ensures.value at c.in_ok-cut_theta.ensures.ranked in
    let ranked : HasRank (key c.args.entry ∷ map key (filled slots)) c.nominal_size-nominal.result c.in_ok-cut_theta.cut_theta = rw c.hash.ensures at reported in
    omega (arith, kept_count key c.nominal_size-nominal.result c.in_ok-cut_theta.cut_theta c.args.entry (filled slots) (apart-more key c.args.sizes.lg_cur c.args.at c.args.entry slots c.requires.place.free_slot.laid_out c.requires.place.free_slot.on_path c.requires.place.free_slot.free) ranked)

pub returns-clause-after : goal.returns-clause-after
returns-clause-after g c =
    let key = g.E.SketchEntry.key in
    let slots = map g.E.PathEntry.content c.args.slots.now.items in
    let reported : HasRank (c.hash.result ∷ map key (filled slots)) c.nominal_size-nominal.result c.in_ok-cut_theta.cut_theta = rw c.deref.ensures.value at c.in_ok-cut_theta.ensures.ranked in
    let ranked : HasRank (key c.args.entry ∷ map key (filled slots)) (2 ^ c.args.sizes.lg_nom) c.in_ok-cut_theta.cut_theta = rw (c.hash.ensures, c.nominal_size-nominal.ensures.power) at reported in
    ap (λ ys. record { entries = ys; theta = c.in_ok-cut_theta.cut_theta }) c.in_ok-put_kept.ensures.map
    ∙ sym (rebuilt_at key (2 ^ c.args.sizes.lg_nom) c.args.sizes.theta c.in_ok-cut_theta.cut_theta c.args.entry (filled slots) c.requires.large (omega (arith, c.requires.full, c.requires.place.counted))
    (apart-more key c.args.sizes.lg_cur c.args.at c.args.entry slots c.requires.place.free_slot.laid_out c.requires.place.free_slot.on_path c.requires.place.free_slot.free) c.requires.place.below_theta c.requires.place.low ranked)

pub returns-clause-count : goal.returns-clause-count
returns-clause-count g c =
    let key = g.E.SketchEntry.key in
    let slots = map g.E.PathEntry.content c.args.slots.now.items in
    let after = map g.E.PathEntry.content c.put_kept.new.slots.items in
    let reported : HasRank (c.hash.result ∷ map key (filled slots)) c.nominal_size-nominal.result c.in_ok-cut_theta.cut_theta = rw c.deref.ensures.value at c.in_ok-cut_theta.ensures.ranked in
    let ranked : HasRank (key c.args.entry ∷ map key (filled slots)) (2 ^ c.args.sizes.lg_nom) c.in_ok-cut_theta.cut_theta = rw (c.hash.ensures, c.nominal_size-nominal.ensures.power) at reported in
    sym (length-map_of key c.args.sizes.lg_cur after c.in_ok-put_kept.ensures.laid_out) ∙ ap length c.in_ok-put_kept.ensures.map
    ∙ kept_count key (2 ^ c.args.sizes.lg_nom) c.in_ok-cut_theta.cut_theta c.args.entry (filled slots) (apart-more key c.args.sizes.lg_cur c.args.at c.args.entry slots c.requires.place.free_slot.laid_out c.requires.place.free_slot.on_path c.requires.place.free_slot.free) ranked

pub returns-clause-ticked : goal.returns-clause-ticked
returns-clause-ticked g c =
    rw (c.tick.ensures, c.tick-2.ensures, c.new.ensures, c.in_ok-put_kept.ensures.placed, returns-clause-count g c) refl

pub returns-clause-looked : goal.returns-clause-looked
returns-clause-looked g c = c.in_ok-put_kept.ensures.looked
