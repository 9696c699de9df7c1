use Rattle.std.proofs.Common.{◌≡◌, ◌+◌, ◌++◌, ℕ, List, Option, length, map, take, drop, ap, ◌∙◌, arith}
use Rattle.core_laws.specs.Maps.{below, map_of}
use Rattle.core_slots.specs.SlotLayout.{filled}
use Rattle.core_slots.proofs.Gathers.{apart-below, below_few, front_gathered, map_of-below}
use Rattle.core_laws.proofs.cuts.Cuts.{length-below}
use Rattle.core_slots.proofs.slots.spread.Goals as goal

-- the packed entries are in front, and are kept
packed_front : {S X : Type 0} (key : X → ℕ) (content : S → Option X) (items old_items after kept : List S) (n count theta : ℕ) → old_items ≡ items → n ≡ length after
    → kept ≡ take count (take n (after ++ drop (length after) items)) → filled (map content (take count after)) ≡ below key (filled (map content old_items)) theta
    → filled (map content kept) ≡ below key (filled (map content items)) theta
packed_front key content items old_items after kept n count theta same long is taken =
    front_gathered key content old_items after items kept n count theta long is taken ∙ ap (λ xs. below key (filled (map content xs)) theta) same

pub settle_all-requires-clause-apart : goal.settle_all-requires-clause-apart
settle_all-requires-clause-apart g c =
    let key = g.E.SketchEntry.key in
    let content = g.E.PathEntry.content in
    let packed = packed_front key content c.args.from.now.items c.deref_mut.result.now c.pack_below-count.new.slots c.truncate.new.self.items c.args.from.now.len c.pack_below-count.result c.args.theta c.deref_mut.ensures.value (omega (arith, c.pack_below-count.ensures.size, c.deref_mut.ensures.len)) c.truncate.ensures.items c.pack_below-count.ensures.taken in
    rw packed (apart-below key (filled (map content c.args.from.now.items)) c.args.theta c.requires.apart)

pub settle_all-requires-clause-room : goal.settle_all-requires-clause-room
settle_all-requires-clause-room g c =
    let key = g.E.SketchEntry.key in
    let content = g.E.PathEntry.content in
    let packed = packed_front key content c.args.from.now.items c.deref_mut.result.now c.pack_below-count.new.slots c.truncate.new.self.items c.args.from.now.len c.pack_below-count.result c.args.theta c.deref_mut.ensures.value (omega (arith, c.pack_below-count.ensures.size, c.deref_mut.ensures.len)) c.truncate.ensures.items c.pack_below-count.ensures.taken in
    omega (arith, ap length packed, below_few key (filled (map content c.args.from.now.items)) c.args.theta, c.requires.room)

pub returns-clause-map : goal.returns-clause-map
returns-clause-map g c =
    let key = g.E.SketchEntry.key in
    let content = g.E.PathEntry.content in
    let packed = packed_front key content c.args.from.now.items c.deref_mut.result.now c.pack_below-count.new.slots c.truncate.new.self.items c.args.from.now.len c.pack_below-count.result c.args.theta c.deref_mut.ensures.value (omega (arith, c.pack_below-count.ensures.size, c.deref_mut.ensures.len)) c.truncate.ensures.items c.pack_below-count.ensures.taken in
    c.settle_all.ensures.map ∙ ap (map_of key) packed ∙ map_of-below key (filled (map content c.args.from.now.items)) c.args.theta

pub returns-clause-placed : goal.returns-clause-placed
returns-clause-placed g c =
    let key = g.E.SketchEntry.key in
    let content = g.E.PathEntry.content in
    let packed = packed_front key content c.args.from.now.items c.deref_mut.result.now c.pack_below-count.new.slots c.truncate.new.self.items c.args.from.now.len c.pack_below-count.result c.args.theta c.deref_mut.ensures.value (omega (arith, c.pack_below-count.ensures.size, c.deref_mut.ensures.len)) c.truncate.ensures.items c.pack_below-count.ensures.taken in
    c.settle_all.ensures.placed ∙ ap (λ xs. c.args.placed.now + length xs) packed ∙ ap (λ (n : ℕ). c.args.placed.now + n) (length-below key (filled (map content c.args.from.now.items)) c.args.theta)

pub returns-clause-looked : goal.returns-clause-looked
returns-clause-looked g c = c.settle_all.ensures.looked
