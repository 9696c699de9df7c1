use Rattle.std.proofs.Common.{◌≡◌, ℕ, ◌+◌, ◌∷◌, [], ◌++◌, map, take, sym, ap, ◌∙◌}
use Rattle.core_slots.specs.SlotLayout.{filled}
use Rattle.core_slots.proofs.Held.{filled-next, take_whole}
use Rattle.core_table.proofs.ListedBelow.{none_below-next}
use Rattle.core_table.proofs.iter.any_below.Goals as goal

pub loop-slot-preserved : goal.loop-slot-preserved
loop-slot-preserved g c =
    let key = g.E.SketchEntry.key in
    let content = g.E.PathEntry.content in
    let block = c.args.block.now in
    let i : ℕ = c.loop-slot.slot-index in
    let s = c.slot-item.result in
    let seen = filled (map content (take i block)) in
    let more : filled (map content (take (i + 1) block)) ≡ seen ++ filled (content s ∷ []) = filled-next content block i s c.loop-slot-test.true ∙ ap (λ t. seen ++ filled (content t ∷ [])) (sym c.slot-item.is) in
    λ none. rw more (none_below-next key c.args.theta c.loop-slot.any c.holds_below-any.result seen (content s) c.loop-slot.invariant c.holds_below-any.ensures none)

pub returns : goal.returns
returns g c = λ none.
    rw (sym (take_whole g.E.PathEntry.content c.args.block.now c.loop-slot.slot-index c.loop-slot-test.false)) (c.loop-slot.invariant none)
