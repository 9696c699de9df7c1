use Rattle.std.proofs.Common.{rules, map, refl, ap, ◌∙◌, arith}
use Rattle.std.proofs.lemmas.List.{places}
use Rattle.core_laws.specs.Maps.{below}
use Rattle.core_slots.proofs.Held.{map-set, length-content}
use Rattle.core_slots.proofs.SlotLayouts.{filled_new}
use Rattle.core_slots.proofs.Moves.{put_laid_out, put_map, kept_map, kept_count}
use Rattle.core_slots.proofs.Ranks.{apart-laid_out}
use Rattle.core_slots.proofs.slots.put_spread.Goals as goal

pub spread-requires-clause-apart : goal.spread-requires-clause-apart
spread-requires-clause-apart g c =
    let key = g.E.SketchEntry.key in
    let content = g.E.PathEntry.content in
    apart-laid_out key c.args.lg _ (put_laid_out key content _ _ _ _ _ c.requires.place.laid_out c.requires.inside c.requires.place.free c.requires.place.on_path c.into_slot.ensures _ refl)

pub spread-requires-clause-room : goal.spread-requires-clause-room
spread-requires-clause-room g c =
    let content = g.E.PathEntry.content in
    let slots = map content c.args.slots.now.items in
    rw (map-set content c.args.slots.now.items c.args.at c.into_slot.result, c.into_slot.ensures)
    (omega (arith, c.requires.room, filled_new slots c.args.at c.args.entry (omega (arith, c.requires.inside, length-content content c.args.slots.now.items)) c.requires.place.free))

pub returns-clause-map : goal.returns-clause-map
returns-clause-map g c =
    let key = g.E.SketchEntry.key in
    let content = g.E.PathEntry.content in
    let laid = put_laid_out key content _ _ _ _ _ c.requires.place.laid_out c.requires.inside c.requires.place.free c.requires.place.on_path c.into_slot.ensures _ refl in
    let written = put_map key content _ _ _ _ _ c.requires.place.laid_out c.requires.inside c.requires.place.free c.requires.place.on_path c.into_slot.ensures _ refl in
    kept_map key content c.args.lg c.args.theta _ _ laid refl _ _ (search (rules, places)) c.spread.ensures.map ∙ ap (λ xs. below key xs c.args.theta) written

pub returns-clause-placed : goal.returns-clause-placed
returns-clause-placed g c =
    let key = g.E.SketchEntry.key in
    let content = g.E.PathEntry.content in
    let laid = put_laid_out key content _ _ _ _ _ c.requires.place.laid_out c.requires.inside c.requires.place.free c.requires.place.on_path c.into_slot.ensures _ refl in
    kept_count key content c.args.lg c.args.theta _ _ laid refl _ _ (search (rules, places)) c.spread.ensures.map _ _ _ c.spread.ensures.laid_out c.spread.ensures.placed

pub returns-clause-looked : goal.returns-clause-looked
returns-clause-looked g c = c.spread.ensures.looked
