use Rattle.std.proofs.Common.{rules, ◌≡◌, ℕ, ◌+◌, ◌<◌, ◌≤◌, ◌^◌, List, [], ◌∷◌, ◌++◌, length, length-append, append_assoc, map, take, drop, sym, ap, ◌∙◌, arith}
use Rattle.std.proofs.lemmas.List.{length-drop, take-take}
use Rattle.core_laws.specs.Entries.{hash_key}
use Rattle.core_laws.specs.Maps.{rank}
use Rattle.core_slots.specs.SlotLayout.{filled}
use Rattle.core_slots.specs.Rank.{within}
use Rattle.core_slots.proofs.Windows.{rank-append, rank_few, within-append, hashes_parts, part_kept, part_long}
use Rattle.core_slots.proofs.selection.gather_window.Goals as goal

pub overflow_add-less : goal.overflow_add-less
overflow_add-less g c =
    let key = g.E.SketchEntry.key in
    let content = g.E.PathEntry.content in
    let low : ℕ = c.args.low in
    let left = c.loop-left.left.now in
    let n : ℕ = c.min.result in
    let first : List ℕ = filled (c.args.also ∷ []) in
    let all : List ℕ = map key (filled (map content c.args.slots.now)) in
    let block : List ℕ = map key (filled (map content (take n left))) in
    let behind : List ℕ = map key (filled (map content (drop n left))) in
    let parts = ap (λ xs. rank hash_key xs low) (hashes_parts key content left n) ∙ rank-append block behind low in
    let smaller : c.gather_few-kept.result.1 ≡ rank hash_key block low = rw c.split_at.ensures.front at c.gather_few-kept.ensures.below in
    let most : c.loop-left.less + c.gather_few-kept.result.1 < 2 ^ 64 = omega (arith, parts, smaller, c.loop-left.invariant.counted, rank_few all low, length-append first all, c.requires.fits) in
    search (rules, most)

pub loop-left-preserved : goal.loop-left-preserved
loop-left-preserved g c =
    let key = g.E.SketchEntry.key in
    let content = g.E.PathEntry.content in
    let low : ℕ = c.args.low in
    let high : ℕ = c.args.high in
    let was = c.loop-left.invariant in
    let n : ℕ = c.min.result in
    let left = c.loop-left.left.now in
    let items = c.loop-left.hashes.items in
    let block : List ℕ = map key (filled (map content (take n left))) in
    let behind : List ℕ = map key (filled (map content (drop n left))) in
    let count : ℕ = c.loop-left.count in
    let kept : ℕ = c.gather_few-kept.result.0 in
    let found = c.gather_few-kept.new.found in
    let now = c.deref_mut.result.now in
    let long = c.in_ok-lengthen-2.ensures.long in
    let inside : count ≤ length now = omega (arith, long, ap length c.deref_mut.ensures.value) in
    let limited : kept ≤ length found = omega (arith, c.gather_few-kept.ensures.limited, c.gather_few-kept.ensures.size, long, inside, length-drop count now, ap length c.deref_mut.ensures.value) in
    let room : count + kept ≤ c.lengthen-in-loop-left.new.list.len = omega (arith, c.gather_few-kept.ensures.limited, long, c.deref_mut.ensures.len, ap length c.deref_mut.ensures.value) in
    let parts : map key (filled (map content left)) ≡ block ++ behind = hashes_parts key content left n in
    let smaller : c.gather_few-kept.result.1 ≡ rank hash_key block low = rw c.split_at.ensures.front at c.gather_few-kept.ensures.below in
    let came : take kept found ≡ within low high block = rw c.split_at.ensures.front at c.gather_few-kept.ensures.gathered in
    let stood : take count now ≡ take count items =
    ap (take count) c.deref_mut.ensures.value ∙ sym (take-take count (length items) c.lengthen-in-loop-left.new.list.items was.short) ∙ ap (take count) c.in_ok-lengthen-2.ensures.front in
    record {
      short = part_long now found _ _ count kept _ inside limited room;
      gathered = rw c.split_at.ensures.back
          (ap (λ xs. xs ++ within low high behind) (part_kept now found _ _ count kept _ inside limited room ∙ ap (λ xs. xs ++ take kept found) stood ∙ ap (λ xs. take count items ++ xs) came)
          ∙ append_assoc (take count items) (within low high block) (within low high behind)
          ∙ ap (λ xs. take count items ++ xs) (sym (within-append low high block behind) ∙ ap (within low high) (sym parts))
          ∙ was.gathered);
      counted = rw c.split_at.ensures.back (omega (arith, was.counted, ap (λ xs. rank hash_key xs low) parts, rank-append block behind low, smaller));
    }
