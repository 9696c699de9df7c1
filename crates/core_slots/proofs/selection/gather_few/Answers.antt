use Rattle.std.proofs.Common.{◌≡◌, ◌+◌, ◌<◌, ◌++◌, ℕ, List, [], ◌∷◌, length, length-set, map, take, sym, ap, ◌∙◌, arith}
use Rattle.std.proofs.lemmas.List.{map-append}
use Rattle.core_slots.specs.SlotLayout.{filled}
use Rattle.core_slots.specs.Rank.{within}
use Rattle.core_slots.proofs.Held.{filled-next}
use Rattle.core_slots.proofs.Windows.{rank-append, within-append, within_slot, rank_slot, kept_next}
use Rattle.core_slots.proofs.selection.gather_few.Goals as goal

pub loop-at-preserved : goal.loop-at-preserved
loop-at-preserved g c =
    let key = g.E.SketchEntry.key in
    let content = g.E.PathEntry.content in
    let slots = c.args.slots.now in
    let low : ℕ = c.args.low in
    let high : ℕ = c.args.high in
    let at : ℕ = c.loop-at.at in
    let count : ℕ = c.loop-at.count in
    let found = c.loop-at.found in
    let s = c.index-slots-at.result in
    let h : ℕ = c.hash_or_greatest-hash.result in
    let was = c.loop-at.invariant in
    let before = filled (map content (take at slots)) in
    let seen : List ℕ = map key before in
    let more = filled-next content slots at s c.loop-at-test.true ∙ ap (λ t. before ++ filled (content t ∷ [])) (sym c.index-slots-at.is) in
    let one : List ℕ = map key (filled (content s ∷ [])) in
    let is : map key (filled (map content (take (at + 1) slots))) ≡ seen ++ one = ap (map key) more ∙ map-append key before (filled (content s ∷ [])) in
    let kept : within low high (h ∷ []) ≡ within low high one = within_slot key low high (content s) h c.hash_or_greatest-hash.ensures c.requires.far in
    let inside : count < length found = omega (arith, was.limited, was.long, c.requires.room, c.loop-at-test.true) in
    record {
      long = length-set found count h ∙ was.long;
      limited = omega (arith, was.limited, c.number_within-count.ensures.small);
      gathered = rw (is, c.number_within-count.ensures.number)
          (kept_next low high found count h inside ∙ ap (λ xs. xs ++ within low high (h ∷ [])) was.gathered ∙ ap (λ xs. within low high seen ++ xs) kept ∙ sym (within-append low high seen one));
      counted = rw is (omega (arith, was.counted, c.number_less-less.ensures.number, rank_slot key low high (content s) h c.hash_or_greatest-hash.ensures c.requires.ordered c.requires.far, rank-append seen one low));
      less_few = omega (arith, was.less_few, c.number_less-less.ensures.small);
    }
