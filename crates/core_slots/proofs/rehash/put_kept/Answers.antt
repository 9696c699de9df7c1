use Rattle.std.proofs.Common.{set, ap, ◌∙◌}
use Rattle.std.proofs.lemmas.List.{set-set, set-get_or}
use Rattle.core_laws.specs.Maps.{below}
use Rattle.core_slots.proofs.Moves.{put_laid_out, put_map}
use Rattle.core_slots.proofs.rehash.put_kept.Goals as goal

pub keep_below-requires-clause-laid_out : goal.keep_below-requires-clause-laid_out
keep_below-requires-clause-laid_out g c =
    put_laid_out g.E.SketchEntry.key g.E.PathEntry.content _ _ _ _ _ c.requires.place.laid_out c.requires.inside c.requires.place.free c.requires.place.on_path c.into_slot.ensures _ (ap (set c.args.slots.now.items c.args.at) c.replace-free.ensures.after)

pub keep_below-requires-clause-kept : goal.keep_below-requires-clause-kept
keep_below-requires-clause-kept g c =
    let written = put_map g.E.SketchEntry.key g.E.PathEntry.content _ _ _ _ _ c.requires.place.laid_out c.requires.inside c.requires.place.free c.requires.place.on_path c.into_slot.ensures _ (ap (set c.args.slots.now.items c.args.at) c.replace-free.ensures.after) in
    rw written c.requires.kept

pub returns-clause-map : goal.returns-clause-map
returns-clause-map g c =
    let written = put_map g.E.SketchEntry.key g.E.PathEntry.content _ _ _ _ _ c.requires.place.laid_out c.requires.inside c.requires.place.free c.requires.place.on_path c.into_slot.ensures _ (ap (set c.args.slots.now.items c.args.at) c.replace-free.ensures.after) in
    c.in_default.ensures.map ∙ ap (λ xs. below g.E.SketchEntry.key xs c.args.theta) written

pub returns-in-Err-clause-err : goal.returns-in-Err-clause-err
returns-in-Err-clause-err g c =
    let items = c.args.slots.now.items in
    ap (λ xs. set xs c.args.at c.replace-free.result) c.in-Err.ensures.err ∙ set-set items c.args.at c.replace-free.new.dest c.replace-free.result
    ∙ ap (set items c.args.at) (c.replace-free.ensures.value ∙ c.index_mut.ensures.value) ∙ set-get_or items c.args.at _
