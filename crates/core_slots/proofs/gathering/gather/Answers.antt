use Rattle.std.proofs.Common.{◌+◌, ℕ, length, map, ap, ◌∙◌, arith}
use Rattle.core_laws.specs.Maps.{map_of}
use Rattle.core_slots.specs.SlotLayout.{filled}
use Rattle.core_slots.proofs.Held.{filled_most, length-content}
use Rattle.core_slots.proofs.Gathers.{apart-below, below_few, front_gathered, map_of-below}
use Rattle.core_slots.proofs.Ranks.{apart-laid_out}
use Rattle.core_laws.proofs.cuts.Cuts.{length-below}
use Rattle.core_slots.proofs.gathering.gather.Goals as goal

pub settle_all-requires-clause-apart : goal.settle_all-requires-clause-apart
settle_all-requires-clause-apart g c =
    let key = g.E.SketchEntry.key in
    let content = g.E.PathEntry.content in
    let gathered = front_gathered key content c.args.slots.now c.gather_below-count.new.others c.args.others.items c.truncate.new.self.items c.args.others.len c.gather_below-count.result c.args.theta (omega (arith, c.gather_below-count.ensures.size_others, c.deref_mut.ensures.len)) c.truncate.ensures.items c.gather_below-count.ensures.taken in
    rw gathered (apart-below key (filled (map content c.args.slots.now)) c.args.theta (apart-laid_out key c.args.lg (map content c.args.slots.now) c.requires.laid_out))

pub settle_all-requires-clause-room : goal.settle_all-requires-clause-room
settle_all-requires-clause-room g c =
    let slots = c.args.slots.now in
    omega (arith, filled_most g.E.PathEntry.content c.truncate.new.self.items, c.truncate.ensures.len, c.gather_below-count.ensures.number, below_few g.E.SketchEntry.key (filled (map g.E.PathEntry.content slots)) c.args.theta, filled_most g.E.PathEntry.content slots, length-content g.E.PathEntry.content slots, c.requires.laid_out.size)

pub returns-clause-map : goal.returns-clause-map
returns-clause-map g c =
    let key = g.E.SketchEntry.key in
    let content = g.E.PathEntry.content in
    let gathered = front_gathered key content c.args.slots.now c.gather_below-count.new.others c.args.others.items c.truncate.new.self.items c.args.others.len c.gather_below-count.result c.args.theta (omega (arith, c.gather_below-count.ensures.size_others, c.deref_mut.ensures.len)) c.truncate.ensures.items c.gather_below-count.ensures.taken in
    c.settle_all.ensures.map ∙ ap (map_of key) gathered ∙ map_of-below key (filled (map content c.args.slots.now)) c.args.theta

pub returns-clause-placed : goal.returns-clause-placed
returns-clause-placed g c =
    let key = g.E.SketchEntry.key in
    let content = g.E.PathEntry.content in
    let gathered = front_gathered key content c.args.slots.now c.gather_below-count.new.others c.args.others.items c.truncate.new.self.items c.args.others.len c.gather_below-count.result c.args.theta (omega (arith, c.gather_below-count.ensures.size_others, c.deref_mut.ensures.len)) c.truncate.ensures.items c.gather_below-count.ensures.taken in
    c.settle_all.ensures.placed ∙ ap (λ xs. c.args.placed.now + length xs) gathered ∙ ap (λ (n : ℕ). c.args.placed.now + n) (length-below key (filled (map content c.args.slots.now)) c.args.theta)

pub returns-clause-looked : goal.returns-clause-looked
returns-clause-looked g c = c.settle_all.ensures.looked
