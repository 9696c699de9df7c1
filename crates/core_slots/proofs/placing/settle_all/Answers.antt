use Rattle.std.proofs.Common.{◌≡◌, ℕ, [], eqb, length, length-append, map, take, drop, ap, ◌∙◌, subst, arith}
use Rattle.std.proofs.lemmas.List.{nil_from_length}
use Rattle.core_slots.specs.SlotLayout.{filled}
use Rattle.core_slots.specs.Rounds.{IsInRound, hash_count}
use Rattle.core_slots.proofs.Held.{length-content, two_parts}
use Rattle.core_slots.proofs.SlotLayouts.{laid_out_empty}
use Rattle.core_slots.proofs.Moves.{count-append}
use Rattle.core_slots.proofs.HashCounts.{apart_once}
use Rattle.core_slots.proofs.Settled.{all_wait, rest_part, part_settled, part_done, settled_map, looks_part}
use Rattle.core_slots.proofs.placing.settle_all.Goals as goal

pub loop-lg-init : goal.loop-lg-init
loop-lg-init g c =
    let key = g.E.SketchEntry.key in
    let content = g.E.PathEntry.content in
    let left = filled (map content c.args.left.now.items) in
    let slots = map content c.args.slots.now in
    (0, omega arith, omega arith, omega arith, all_wait key c.args.lg left slots (laid_out_empty key c.args.lg slots (length-content content c.args.slots.now ∙ c.requires.size) c.requires.free) c.requires.free (λ q. apart_once key left q c.requires.apart))

pub returns-then-count-eq0-clause-map : goal.returns-then-count-eq0-clause-map
returns-then-count-eq0-clause-map g c =
    let key = g.E.SketchEntry.key in
    let content = g.E.PathEntry.content in
    let i = c.loop-lg.invariant in
    let whole = filled (map content c.args.left.now.items) in
    let slots = map content c.loop-lg.slots in
    let none : c.loop-lg.left.items ≡ [] = nil_from_length c.loop-lg.left.items (omega (arith, c.len-count.ensures, c.if-count-eq0.true)) in
    let is : IsInRound key c.args.lg whole [] [] slots 0 0 i.0 0 = subst (λ xs. IsInRound key c.args.lg whole [] (filled (map content xs)) slots 0 0 i.0 0) none i.4 in
    settled_map key c.args.lg whole slots 0 0 i.0 0 is

pub returns-then-count-eq0-clause-looked : goal.returns-then-count-eq0-clause-looked
returns-then-count-eq0-clause-looked g c = omega (arith, c.loop-lg.invariant.1, c.loop-lg.invariant.2)

pub settle-rounds-requires-clause-once : goal.settle-rounds-requires-clause-once
settle-rounds-requires-clause-once g c =
    let key = g.E.SketchEntry.key in
    let content = g.E.PathEntry.content in
    let i = c.loop-lg.invariant in
    let now = c.deref_mut.result.now in
    let from : ℕ = c.saturating_sub-from.result in
    let front = filled (map content (take from now)) in
    let part = filled (map content (drop from now)) in
    rw (rest_part now from) (λ q. omega (arith, i.4.all q, i.4.once q, ap (λ xs. hash_count key q (filled (map content xs))) c.deref_mut.ensures.value, ap (hash_count key q) (two_parts content now from), count-append (λ x. eqb (key x) q) front part))

pub settle-rounds-requires-clause-room : goal.settle-rounds-requires-clause-room
settle-rounds-requires-clause-room g c =
    let is = c.loop-lg.invariant.4 in
    let content = g.E.PathEntry.content in
    let now = c.deref_mut.result.now in
    let from : ℕ = c.saturating_sub-from.result in
    let front = filled (map content (take from now)) in
    let part = filled (map content (drop from now)) in
    rw (rest_part now from) (omega (arith, c.requires.room, is.counted, is.all_put, ap (λ xs. length (filled (map content xs))) c.deref_mut.ensures.value, ap length (two_parts content now from), length-append front part))

pub put_along_paths-requires-clause-once : goal.put_along_paths-requires-clause-once
put_along_paths-requires-clause-once g c =
    let key = g.E.SketchEntry.key in
    let content = g.E.PathEntry.content in
    let i = c.loop-lg.invariant in
    let whole = filled (map content c.args.left.now.items) in
    let now = c.deref_mut.result.now in
    let from : ℕ = c.saturating_sub-from.result in
    let settled = c.settle-rounds.ensures in
    let is = part_done content key c.args.lg whole c.loop-lg.left.items now _ _ c.truncate.new.self.items from c.loop-lg.left.len (map content c.loop-lg.slots) (map content c.settle-rounds.new.slots) i.0 c.deref_mut.ensures.value c.truncate.ensures.items (omega (arith, c.saturating_sub-from.ensures, c.len-count.ensures, ap length c.deref_mut.ensures.value)) (omega (arith, c.saturating_sub-from.ensures, c.len-count.ensures, c.deref_mut.ensures.len)) i.4 settled.laid_out settled.found settled.all settled.count in
    λ q. omega (arith, is.all q, is.once q)

pub put_along_paths-requires-clause-room : goal.put_along_paths-requires-clause-room
put_along_paths-requires-clause-room g c =
    let key = g.E.SketchEntry.key in
    let content = g.E.PathEntry.content in
    let i = c.loop-lg.invariant in
    let whole = filled (map content c.args.left.now.items) in
    let now = c.deref_mut.result.now in
    let from : ℕ = c.saturating_sub-from.result in
    let settled = c.settle-rounds.ensures in
    let is = part_done content key c.args.lg whole c.loop-lg.left.items now _ _ c.truncate.new.self.items from c.loop-lg.left.len (map content c.loop-lg.slots) (map content c.settle-rounds.new.slots) i.0 c.deref_mut.ensures.value c.truncate.ensures.items (omega (arith, c.saturating_sub-from.ensures, c.len-count.ensures, ap length c.deref_mut.ensures.value)) (omega (arith, c.saturating_sub-from.ensures, c.len-count.ensures, c.deref_mut.ensures.len)) i.4 settled.laid_out settled.found settled.all settled.count in
    omega (arith, is.counted, c.requires.room)

pub returns-then-rounds-gt-NEAR-clause-map : goal.returns-then-rounds-gt-NEAR-clause-map
returns-then-rounds-gt-NEAR-clause-map g c =
    let key = g.E.SketchEntry.key in
    let content = g.E.PathEntry.content in
    let i = c.loop-lg.invariant in
    let whole = filled (map content c.args.left.now.items) in
    let now = c.deref_mut.result.now in
    let from : ℕ = c.saturating_sub-from.result in
    let after = map content c.settle-rounds.new.slots in
    let end = map content c.put_along_paths.new.slots in
    let settled = c.settle-rounds.ensures in
    let is = part_done content key c.args.lg whole c.loop-lg.left.items now _ _ c.truncate.new.self.items from c.loop-lg.left.len (map content c.loop-lg.slots) (map content c.settle-rounds.new.slots) i.0 c.deref_mut.ensures.value c.truncate.ensures.items (omega (arith, c.saturating_sub-from.ensures, c.len-count.ensures, ap length c.deref_mut.ensures.value)) (omega (arith, c.saturating_sub-from.ensures, c.len-count.ensures, c.deref_mut.ensures.len)) i.4 settled.laid_out settled.found settled.all settled.count in
    let put = c.put_along_paths.ensures in
    settled_map key c.args.lg whole end 0 0 (length (filled end)) 0 (part_settled key c.args.lg whole [] (filled (map content c.truncate.new.self.items)) after end (length (filled after)) is put.laid_out put.found put.all put.count)

pub returns-then-rounds-gt-NEAR-clause-placed : goal.returns-then-rounds-gt-NEAR-clause-placed
returns-then-rounds-gt-NEAR-clause-placed g c =
    let key = g.E.SketchEntry.key in
    let content = g.E.PathEntry.content in
    let i = c.loop-lg.invariant in
    let whole = filled (map content c.args.left.now.items) in
    let now = c.deref_mut.result.now in
    let from : ℕ = c.saturating_sub-from.result in
    let settled = c.settle-rounds.ensures in
    let is = part_done content key c.args.lg whole c.loop-lg.left.items now _ _ c.truncate.new.self.items from c.loop-lg.left.len (map content c.loop-lg.slots) (map content c.settle-rounds.new.slots) i.0 c.deref_mut.ensures.value c.truncate.ensures.items (omega (arith, c.saturating_sub-from.ensures, c.len-count.ensures, ap length c.deref_mut.ensures.value)) (omega (arith, c.saturating_sub-from.ensures, c.len-count.ensures, c.deref_mut.ensures.len)) i.4 settled.laid_out settled.found settled.all settled.count in
    omega (arith, i.1, i.4.all_put, is.counted, settled.placed, settled.count, c.put_along_paths.ensures.placed)

pub loop-lg-preserved : goal.loop-lg-preserved
loop-lg-preserved g c =
    let key = g.E.SketchEntry.key in
    let content = g.E.PathEntry.content in
    let i = c.loop-lg.invariant in
    let whole = filled (map content c.args.left.now.items) in
    let now = c.deref_mut.result.now in
    let from : ℕ = c.saturating_sub-from.result in
    let slots = map content c.loop-lg.slots in
    let after = map content c.settle-rounds.new.slots in
    let settled = c.settle-rounds.ensures in
    let is = part_done content key c.args.lg whole c.loop-lg.left.items now _ _ c.truncate.new.self.items from c.loop-lg.left.len (map content c.loop-lg.slots) (map content c.settle-rounds.new.slots) i.0 c.deref_mut.ensures.value c.truncate.ensures.items (omega (arith, c.saturating_sub-from.ensures, c.len-count.ensures, ap length c.deref_mut.ensures.value)) (omega (arith, c.saturating_sub-from.ensures, c.len-count.ensures, c.deref_mut.ensures.len)) i.4 settled.laid_out settled.found settled.all settled.count in (
      length (filled after),
      omega (arith, i.1, i.4.all_put, settled.count, settled.placed),
      omega (arith, i.2, settled.looked, i.4.all_put, settled.count, settled.placed),
      looks_part c.settle-rounds.new.looks c.loop-lg.looks c.args.looks.now (length (filled after)) (length (filled slots)) i.0 i.4.all_put settled.looks i.3,
      is,
    )
