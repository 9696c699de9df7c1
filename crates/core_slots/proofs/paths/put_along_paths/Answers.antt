use Rattle.std.proofs.Common.{◌≡◌, ℕ, ◌+◌, ◌≤◌, ◌^◌, ◌++◌, [], ◌∷◌, Some, None, eqb, length, length-append, map, set, subst, sym, ap, ◌∙◌, arith}
use Rattle.std.proofs.lemmas.List.{nil_from_length}
use Rattle.std.proofs.lemmas.List.Sorted.{IsPermutation-map}
use Rattle.std.proofs.Math.Pow.{pow_mono}
use Rattle.core_laws.specs.Maps.{entry_at}
use Rattle.core_slots.specs.SlotLayout.{filled, slot, HasOthers}
use Rattle.core_slots.specs.Probe.{probe}
use Rattle.core_slots.specs.Rounds.{IsInRound, hash_count}
use Rattle.core_slots.proofs.Held.{map-set, some_of, none_of}
use Rattle.core_slots.proofs.Moves.{count-append}
use Rattle.core_slots.proofs.SharedPaths.{ArePassed, last_taken, last_free, passed_none, passed_put, others_known, paths_start, waits_absent, waits_room, path_puts, looked_more}
use Rattle.core_slots.proofs.paths.put_along_paths.Goals as goal

pub loop-entry-init : goal.loop-entry-init
loop-entry-init g c =
    let key = g.E.SketchEntry.key in
    let content = g.E.PathEntry.content in
    let before = map content c.args.left.now.items in
    let slots = map content c.args.slots.now in
    let moved = IsPermutation-map content _ _ c.sort_unstable_by_key.ensures.permutation in (
      length (filled slots),
      omega arith,
      omega arith,
      omega arith,
      paths_start key c.args.lg before (map content c.sort_unstable_by_key.new.self.items) slots moved c.requires.laid_out c.requires.once,
      passed_none c.args.lg slots 0,
      omega arith,
    )

pub steps_to_free-steps-requires-clause-room : goal.steps_to_free-steps-requires-clause-room
steps_to_free-steps-requires-clause-room g c =
    let key = g.E.SketchEntry.key in
    let content = g.E.PathEntry.content in
    let i = c.loop-entry.invariant in
    let before = filled (map content c.args.left.now.items) in
    let begun = filled (map content c.args.slots.now) in
    let rest = filled (map content c.pop.new.self.items) in
    let slots = map content c.loop-entry.slots in
    let one = some_of key (content c.in-Some.entry) c.in-Some-hash_in.hash (sym c.hash_in.ensures ∙ c.in-Some-hash_in.is) in
    let last = last_taken content c.loop-entry.left.items c.pop.new.self.items c.in-Some.entry one.0 c.in-Some.ensures.items one.1 in
    let is : IsInRound key c.args.lg (before ++ begun) [] (rest ++ one.0 ∷ []) slots 0 0 i.0 0 = subst (λ xs. IsInRound key c.args.lg (before ++ begun) [] xs slots 0 0 i.0 0) last i.4 in
    waits_room key c.args.lg (before ++ begun) rest one.0 slots i.0 is (omega (arith, length-append before begun, c.requires.room))

pub steps_to_free-steps-requires-clause-absent : goal.steps_to_free-steps-requires-clause-absent
steps_to_free-steps-requires-clause-absent g c =
    let key = g.E.SketchEntry.key in
    let content = g.E.PathEntry.content in
    let i = c.loop-entry.invariant in
    let whole = filled (map content c.args.left.now.items) ++ filled (map content c.args.slots.now) in
    let rest = filled (map content c.pop.new.self.items) in
    let slots = map content c.loop-entry.slots in
    let one = some_of key (content c.in-Some.entry) c.in-Some-hash_in.hash (sym c.hash_in.ensures ∙ c.in-Some-hash_in.is) in
    let last = last_taken content c.loop-entry.left.items c.pop.new.self.items c.in-Some.entry one.0 c.in-Some.ensures.items one.1 in
    let is : IsInRound key c.args.lg whole [] (rest ++ one.0 ∷ []) slots 0 0 i.0 0 = subst (λ xs. IsInRound key c.args.lg whole [] xs slots 0 0 i.0 0) last i.4 in
    ap (λ (h : ℕ). entry_at key (filled slots) h) (sym one.2) ∙ waits_absent key c.args.lg whole rest one.0 slots i.0 is

pub steps_to_free-steps-requires-clause-known : goal.steps_to_free-steps-requires-clause-known
steps_to_free-steps-requires-clause-known g c =
    let key = g.E.SketchEntry.key in
    let content = g.E.PathEntry.content in
    let i = c.loop-entry.invariant in
    let whole = filled (map content c.args.left.now.items) ++ filled (map content c.args.slots.now) in
    let rest = filled (map content c.pop.new.self.items) in
    let slots = map content c.loop-entry.slots in
    let one = some_of key (content c.in-Some.entry) c.in-Some-hash_in.hash (sym c.hash_in.ensures ∙ c.in-Some-hash_in.is) in
    let last = last_taken content c.loop-entry.left.items c.pop.new.self.items c.in-Some.entry one.0 c.in-Some.ensures.items one.1 in
    let is : IsInRound key c.args.lg whole [] (rest ++ one.0 ∷ []) slots 0 0 i.0 0 = subst (λ xs. IsInRound key c.args.lg whole [] xs slots 0 0 i.0 0) last i.4 in
    let absent = ap (λ (h : ℕ). entry_at key (filled slots) h) (sym one.2) ∙ waits_absent key c.args.lg whole rest one.0 slots i.0 is in
    others_known key c.args.lg slots c.in-Some-hash_in.hash c.loop-entry.last c.loop-entry.taken c.steps_known-known.result absent i.5 c.steps_known-known.ensures.known

pub slot_after-at-requires-clause-limited : goal.slot_after-at-requires-clause-limited
slot_after-at-requires-clause-limited g c =
    let most : 2 ^ c.args.lg ≤ 2 ^ 40 = pow_mono {i = c.args.lg} {j = 40} (omega (arith, c.requires.small)) in
    omega (arith, most, c.steps_to_free-steps.ensures.low)

pub loop-entry-preserved-in-Some-hash_in : goal.loop-entry-preserved-in-Some-hash_in
loop-entry-preserved-in-Some-hash_in g c =
    let key = g.E.SketchEntry.key in
    let content = g.E.PathEntry.content in
    let i = c.loop-entry.invariant in
    let lg : ℕ = c.args.lg in
    let hash : ℕ = c.in-Some-hash_in.hash in
    let steps : ℕ = c.steps_to_free-steps.result in
    let at : ℕ = c.slot_after-at.result in
    let begun = filled (map content c.args.slots.now) in
    let whole = filled (map content c.args.left.now.items) ++ begun in
    let rest = filled (map content c.pop.new.self.items) in
    let slots = map content c.loop-entry.slots in
    let one = some_of key (content c.in-Some.entry) hash (sym c.hash_in.ensures ∙ c.in-Some-hash_in.is) in
    let last = last_taken content c.loop-entry.left.items c.pop.new.self.items c.in-Some.entry one.0 c.in-Some.ensures.items one.1 in
    let is : IsInRound key lg whole [] (rest ++ one.0 ∷ []) slots 0 0 i.0 0 = subst (λ xs. IsInRound key lg whole [] xs slots 0 0 i.0 0) last i.4 in
    let written : map content (set c.loop-entry.slots at c.in-Some.entry) ≡ set slots at (Some one.0) = map-set content c.loop-entry.slots at c.in-Some.entry ∙ ap (set slots at) one.1 in
    let there = c.steps_to_free-steps.ensures in
    let found : at ≡ probe (key one.0) lg steps = c.slot_after-at.ensures.value ∙ ap (λ (h : ℕ). probe h lg steps) (sym one.2) in
    let free : slot slots (probe (key one.0) lg steps) ≡ None = ap (λ (h : ℕ). slot slots (probe h lg steps)) one.2 ∙ there.free in
    let others : HasOthers key lg slots (key one.0) steps = subst (λ (h : ℕ). HasOthers key lg slots h steps) (sym one.2) there.others in
    rw written (
      i.0 + 1,
      omega (arith, i.1, c.tick.ensures),
      omega (arith, i.2, there.looked),
      looked_more i.0 (length begun) c.loop-entry.looks c.args.looks.now c.steps_to_free-steps.new.looks (length (filled slots)) i.3 there.looks is.all_put,
      path_puts key lg whole rest one.0 slots i.0 is at steps found there.low free others,
      subst (λ (p : ℕ). ArePassed lg (set slots p (Some one.0)) hash (steps + 1)) (sym c.slot_after-at.ensures.value) (passed_put key lg slots hash steps one.0 is.laid_out.size there.others),
      omega (arith, there.low),
    )

pub loop-entry-preserved : goal.loop-entry-preserved
loop-entry-preserved g c =
    let key = g.E.SketchEntry.key in
    let content = g.E.PathEntry.content in
    let i = c.loop-entry.invariant in
    let whole = filled (map content c.args.left.now.items) ++ filled (map content c.args.slots.now) in
    let slots = map content c.loop-entry.slots in
    let none : content c.in-Some.entry ≡ None = none_of key (content c.in-Some.entry) (λ h e. c.in_default-hash_in.not-Some h (c.hash_in.ensures ∙ e)) in
    let last = last_free content c.loop-entry.left.items c.pop.new.self.items c.in-Some.entry c.in-Some.ensures.items none in
    (i.0, i.1, i.2, i.3, subst (λ xs. IsInRound key c.args.lg whole [] xs slots 0 0 i.0 0) last i.4, i.5, i.6)

pub returns-clause-all : goal.returns-clause-all
returns-clause-all g c =
    let key = g.E.SketchEntry.key in
    let content = g.E.PathEntry.content in
    let before = filled (map content c.args.left.now.items) in
    let begun = filled (map content c.args.slots.now) in
    let none : c.loop-entry.left.items ≡ [] = nil_from_length c.loop-entry.left.items (omega (arith, c.in_default.ensures.cases, c.loop-entry.left.ok)) in
    λ q. omega (arith, c.loop-entry.invariant.4.all q, ap (λ xs. hash_count key q (filled (map content xs))) none, count-append (λ x. eqb (key x) q) before begun)
