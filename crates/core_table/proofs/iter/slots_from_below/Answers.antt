use Rattle.std.proofs.Common.{◌≡◌, ◌++◌, map, sym, ap, ◌∙◌}
use Rattle.std.proofs.lemmas.List.{take-append-drop, map-append}
use Rattle.core_slots.specs.SlotLayout.{filled}
use Rattle.core_slots.proofs.SlotLayouts.{filled-append}
use Rattle.core_table.specs.Gathering.{from_below}
use Rattle.core_table.proofs.ListedBelow.{from_below-behind}
use Rattle.core_table.proofs.iter.slots_from_below.Goals as goal

pub pass_blocks-preserved : goal.pass_blocks-preserved
pass_blocks-preserved g c =
    let key = g.E.SketchEntry.key in
    let content = g.E.PathEntry.content in
    let left = c.pass_blocks.left.now in
    let block = c.split_at.result.0.now in
    let after = c.split_at.result.1.now in
    let whole : left ≡ block ++ after = rw (c.split_at.ensures.front, c.split_at.ensures.back) (sym (take-append-drop 8 left)) in
    let parts : filled (map content left) ≡ filled (map content block) ++ filled (map content after) =
    ap (λ xs. filled (map content xs)) whole ∙ ap filled (map-append content block after) ∙ filled-append (map content block) (map content after) in
    sym (ap (from_below key c.args.theta) parts ∙ from_below-behind key c.args.theta (filled (map content block)) (filled (map content after)) (c.any_below.ensures c.if-any_below.false)) ∙ c.pass_blocks.invariant
