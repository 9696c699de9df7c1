use Rattle.std.proofs.Common.{◌≡◌, ℕ, ◌+◌, ◌*◌, ◌<◌, ◌≤◌, ◌^◌, ◌++◌, [], ◌∷◌, refl, List, Option, Some, None, eqb, length, length-append, map, set, subst, sym, ap, ◌∙◌, arith}
use Rattle.std.proofs.lemmas.List.{length-set}
use Rattle.std.proofs.lemmas.Nat.{pow_pos}
use Rattle.std.proofs.Math.Pow.{pow_mono}
use Rattle.core_slots.specs.SlotLayout.{filled, slot}
use Rattle.core_slots.specs.Probe.{probe}
use Rattle.core_slots.specs.Rounds.{IsInRound}
use Rattle.core_slots.proofs.Held.{length-content, some_of, none_of}
use Rattle.core_slots.proofs.Moves.{count-append}
use Rattle.core_slots.proofs.Settled.{in_front, in_wait, waits_next, front_before, wait_behind, front_more, front_none, front_whole, front_is, none_behind, round_starts, round_next, round_short, round_puts, round_keeps, is_free, is_taken, looks_next, looks_put, looks_kept, looks_end}
use Rattle.core_slots.proofs.placing.settle.Goals as goal
use Rattle.core_slots.proofs.placing.settle.Goals.{in-Some+then-is_settled, in-Some+else-is_settled, in_default}

-- with no entries in front, none is left
last_round : {S X : Type 0} {key : X → ℕ} {lg begun round put looked : ℕ} {whole : List X} {slots : List (Option X)} (content : S → Option X) (left : List S) (n : ℕ) → n ≡ 0 → IsInRound key lg whole [] (in_front content n left) slots begun round put looked → IsInRound key lg whole [] [] slots begun round put looked
last_round content left n none is = let first : in_front content n left ≡ [] = ap (λ (m : ℕ). in_front content m left) none ∙ front_none content left in rw first at is

pub rounds-init : goal.rounds-init
rounds-init g c =
    let key = g.E.SketchEntry.key in
    let content = g.E.PathEntry.content in
    let left = c.args.left.now in
    let slots = map content c.args.slots.now in
    let begun : ℕ = length (filled slots) in
    let all : in_front content (length left) left ≡ filled (map content left) = front_whole content left (length left) (omega arith) in
    rw all (
      begun,
      0,
      omega arith,
      omega arith,
      omega arith,
      round_starts key c.args.lg (filled (map content left)) slots c.requires.laid_out c.requires.once,
      λ some. pow_pos c.args.lg,
      omega arith,
      refl,
    )

pub returns-then-count-eq0-clause-found : goal.returns-then-count-eq0-clause-found
returns-then-count-eq0-clause-found g c = λ q. (last_round g.E.PathEntry.content c.rounds.left c.rounds.count c.if-count-eq0.true c.rounds.invariant.5).found q

pub returns-then-count-eq0-clause-all : goal.returns-then-count-eq0-clause-all
returns-then-count-eq0-clause-all g c =
    let is = last_round g.E.PathEntry.content c.rounds.left c.rounds.count c.if-count-eq0.true c.rounds.invariant.5 in
    λ q. omega (arith, is.all q, count-append (λ x. eqb (g.E.SketchEntry.key x) q) (filled (map g.E.PathEntry.content c.args.left.now)) (filled (map g.E.PathEntry.content c.args.slots.now)))

pub returns-then-count-eq0-clause-count : goal.returns-then-count-eq0-clause-count
returns-then-count-eq0-clause-count g c =
    let is = last_round g.E.PathEntry.content c.rounds.left c.rounds.count c.if-count-eq0.true c.rounds.invariant.5 in
    omega (arith, is.counted, is.all_put, length-append (filled (map g.E.PathEntry.content c.args.left.now)) (filled (map g.E.PathEntry.content c.args.slots.now)))

pub returns-then-count-eq0-clause-placed : goal.returns-then-count-eq0-clause-placed
returns-then-count-eq0-clause-placed g c =
    let i = c.rounds.invariant in
    let is = last_round g.E.PathEntry.content c.rounds.left c.rounds.count c.if-count-eq0.true i.5 in
    omega (arith, i.2, is.counted, length-append (filled (map g.E.PathEntry.content c.args.left.now)) (filled (map g.E.PathEntry.content c.args.slots.now)))

pub returns-then-count-eq0-clause-looked : goal.returns-then-count-eq0-clause-looked
returns-then-count-eq0-clause-looked g c =
    let is = last_round g.E.PathEntry.content c.rounds.left c.rounds.count c.if-count-eq0.true c.rounds.invariant.5 in
    omega (arith, c.rounds.invariant.2, c.rounds.invariant.3, is.counted, length-append (filled (map g.E.PathEntry.content c.args.left.now)) (filled (map g.E.PathEntry.content c.args.slots.now)))

pub returns-then-count-eq0-clause-looks : goal.returns-then-count-eq0-clause-looks
returns-then-count-eq0-clause-looks g c =
    let key = g.E.SketchEntry.key in
    let content = g.E.PathEntry.content in
    let i = c.rounds.invariant in
    let none : in_front content c.rounds.count c.rounds.left ≡ [] = ap (λ (n : ℕ). in_front content n c.rounds.left) c.if-count-eq0.true ∙ front_none content c.rounds.left in
    looks_end c.rounds.looks c.args.looks.now i.1 c.rounds.round (length (in_front content c.rounds.count c.rounds.left)) i.0 (length (filled (map content c.rounds.slots))) (length (filled (map content c.args.slots.now))) i.4 (ap length none) i.5.looked_few i.5.all_put

pub slot_in_round-next-requires-clause-limited : goal.slot_in_round-next-requires-clause-limited
slot_in_round-next-requires-clause-limited g c =
    let most : 2 ^ c.args.lg ≤ 2 ^ 40 = pow_mono {i = c.args.lg} {j = 40} (omega (arith, c.requires.small)) in
    omega (arith, most, c.rounds.invariant.6 (omega (arith, c.look_on-test.true)))

pub put_if_free-is_settled-requires : goal.put_if_free-is_settled-requires
put_if_free-is_settled-requires g c =
    let content = g.E.PathEntry.content in
    omega (arith, c.slot_in_round-next.ensures.below, c.look_on.invariant.5.laid_out.size, length-content content c.look_on.slots)

pub look_on-init : goal.look_on-init
look_on-init g c =
    let content = g.E.PathEntry.content in
    let i = c.rounds.invariant in
    rw (front_none content c.rounds.left, front_is content c.rounds.left c.rounds.count) (i.0, i.1, i.2, i.3, i.4, i.5, refl, omega arith, refl)

pub look_on-preserved : goal.look_on-preserved
look_on-preserved g c =
    let key = g.E.SketchEntry.key in
    let content = g.E.PathEntry.content in
    let i = c.look_on.invariant in
    let lg : ℕ = c.args.lg in
    let begun = filled (map content c.args.slots.now) in
    let whole = filled (map content c.args.left.now) ++ begun in
    let left = c.look_on.left in
    let slots = map content c.look_on.slots in
    let at : ℕ = c.look_on.at in
    let kept : ℕ = c.look_on.kept in
    let round : ℕ = c.rounds.round in
    let count : ℕ = c.rounds.count in
    let entry = c.take_out-entry.result in
    let dest = c.take_out-entry.new.slot in
    let stay = in_front content kept left in
    let wait = in_wait content (at + 1) count left in
    let within : count ≤ length left = omega (arith, i.6, c.rounds.invariant.7) in
    let low : round < 2 ^ lg = c.rounds.invariant.6 (omega (arith, c.look_on-test.true)) in
    let next_waits : in_wait content at count left ≡ filled (content entry ∷ []) ++ wait =
    waits_next content left at count c.index-left-at.result c.look_on-test.true within ∙ ap (λ o. filled (o ∷ []) ++ wait) (sym c.take_out-entry.ensures) in
    let cleared_stay : in_front content kept (set left at dest) ≡ stay = front_before content left kept at dest i.7 in
    let cleared_wait : in_wait content (at + 1) count (set left at dest) ≡ wait = wait_behind content left at count at dest (omega arith) in
    let long : length (set left at dest) ≡ length left = length-set left at dest in
    elim c.match-hash_in.branch [
      | in-Some+then-is_settled w ↦
          let one = some_of key (content entry) w.in-Some.hash (sym c.hash_in.ensures ∙ w.in-Some.is) in
          let next : ℕ = w.slot_in_round-next.result in
          let way : next ≡ probe (key one.0) lg round = w.slot_in_round-next.ensures.value ∙ ap (λ (n : ℕ). probe n lg round) (sym one.2) in
          let put = w.put_if_free-is_settled in
          let free : slot slots next ≡ None = is_free (slot slots next) (sym put.ensures.free ∙ w.if-is_settled.true) in
          let written : map content put.new.slots ≡ set slots next (Some one.0) = (rw w.if-is_settled.true at put.ensures.written) ∙ ap (λ o. set slots next o) one.1 in
          let first : in_wait content at count left ≡ one.0 ∷ wait = next_waits ∙ ap (λ o. filled (o ∷ []) ++ wait) one.1 in
          let is : IsInRound key lg whole stay (one.0 ∷ wait) slots (length begun) round i.0 i.1 = subst (λ xs. IsInRound key lg whole stay xs slots (length begun) round i.0 i.1) first i.5 in
          let looks = looks_put (c.args.looks.now + i.1) round (length stay) (length (in_wait content at count left)) (length wait) c.look_on.looks (omega (arith, ap length first)) i.4 in
          let stay_is : in_front content kept (set (set left at dest) kept put.new.waiting) ≡ stay = front_before content (set left at dest) kept kept put.new.waiting (omega arith) ∙ cleared_stay in
          let wait_is : in_wait content (at + 1) count (set (set left at dest) kept put.new.waiting) ≡ wait = wait_behind content (set left at dest) at count kept put.new.waiting i.7 ∙ cleared_wait in
          rw (w.left-is, w.slots-is, w.placed-is, w.looks-is, w.kept-is, stay_is, wait_is, written) (
            i.0 + 1,
            i.1 + round + 1,
            omega (arith, i.2, w.tick.ensures),
            omega (arith, i.3, put.ensures.looks),
            omega (arith, looks, put.ensures.looks),
            round_puts key lg whole stay slots (length begun) round i.0 i.1 one.0 wait is next way low free,
            length-set (set left at dest) kept put.new.waiting ∙ long ∙ i.6,
            omega (arith, i.7),
            i.8,
          )
      | in-Some+else-is_settled w ↦
          let one = some_of key (content entry) w.in-Some.hash (sym c.hash_in.ensures ∙ w.in-Some.is) in
          let next : ℕ = w.slot_in_round-next.result in
          let way : next ≡ probe (key one.0) lg round = w.slot_in_round-next.ensures.value ∙ ap (λ (n : ℕ). probe n lg round) (sym one.2) in
          let put = w.put_if_free-is_settled in
          let other = is_taken (slot slots next) (sym put.ensures.free ∙ w.if-is_settled.false) in
          let written : map content put.new.slots ≡ slots = rw w.if-is_settled.false at put.ensures.written in
          let same : content put.new.waiting ≡ Some one.0 = ap content (rw w.if-is_settled.false at put.ensures.waits) ∙ one.1 in
          let first : in_wait content at count left ≡ one.0 ∷ wait = next_waits ∙ ap (λ o. filled (o ∷ []) ++ wait) one.1 in
          let is : IsInRound key lg whole stay (one.0 ∷ wait) slots (length begun) round i.0 i.1 = subst (λ xs. IsInRound key lg whole stay xs slots (length begun) round i.0 i.1) first i.5 in
          let looks = looks_kept (c.args.looks.now + i.1) round (length stay) (length (in_wait content at count left)) (length wait) c.look_on.looks (omega (arith, ap length first)) i.4 in
          let more : length (stay ++ one.0 ∷ []) ≡ length stay + 1 = length-append stay (one.0 ∷ []) in
          let inside : kept < length (set left at dest) = omega (arith, i.7, c.look_on-test.true, within, long) in
          let stay_is : in_front content (kept + 1) (set (set left at dest) kept put.new.waiting) ≡ stay ++ one.0 ∷ [] =
          front_more content (set left at dest) kept put.new.waiting inside ∙ ap (λ xs. xs ++ filled (content put.new.waiting ∷ [])) cleared_stay ∙ ap (λ o. stay ++ filled (o ∷ [])) same in
          let wait_is : in_wait content (at + 1) count (set (set left at dest) kept put.new.waiting) ≡ wait = wait_behind content (set left at dest) at count kept put.new.waiting i.7 ∙ cleared_wait in
          rw (w.left-is, w.slots-is, w.placed-is, w.looks-is, w.kept-is, stay_is, wait_is, written) (
            i.0,
            i.1,
            i.2,
            omega (arith, i.3, put.ensures.looks),
            rw more (omega (arith, looks, put.ensures.looks)),
            round_keeps key lg whole stay slots (length begun) round i.0 i.1 one.0 wait is next way other.0 other.1,
            length-set (set left at dest) kept put.new.waiting ∙ long ∙ i.6,
            omega (arith, i.7),
            omega (arith, more, i.8),
          )
      | in_default w ↦
          let none : content entry ≡ None = none_of key (content entry) (λ h e. w.in_default.not-Some h (c.hash_in.ensures ∙ e)) in
          let first : in_wait content at count left ≡ wait = next_waits ∙ ap (λ o. filled (o ∷ []) ++ wait) none in
          let looks : c.look_on.looks ≤ c.args.looks.now + i.1 + round * (length stay + length wait) + length stay = subst (λ xs. c.look_on.looks ≤ c.args.looks.now + i.1 + round * (length stay + length xs) + length stay) first i.4 in
          let is : IsInRound key lg whole stay wait slots (length begun) round i.0 i.1 = subst (λ xs. IsInRound key lg whole stay xs slots (length begun) round i.0 i.1) first i.5 in
          rw (w.left-is, w.slots-is, w.placed-is, w.looks-is, w.kept-is, cleared_stay, cleared_wait) (i.0, i.1, i.2, i.3, looks, is, long ∙ i.6, omega (arith, i.7), i.8)
    ]

pub rounds-preserved : goal.rounds-preserved
rounds-preserved g c =
    let key = g.E.SketchEntry.key in
    let content = g.E.PathEntry.content in
    let i = c.look_on.invariant in
    let begun = filled (map content c.args.slots.now) in
    let left = filled (map content c.args.left.now) in
    let slots = map content c.look_on.slots in
    let kept : ℕ = c.look_on.kept in
    let round : ℕ = c.rounds.round in
    let count : ℕ = c.rounds.count in
    let stay = in_front content kept c.look_on.left in
    let none : in_wait content c.look_on.at count c.look_on.left ≡ [] = none_behind content c.look_on.left c.look_on.at count (omega (arith, c.look_on-test.false)) in
    let is : IsInRound key c.args.lg (left ++ begun) stay [] slots (length begun) round i.0 i.1 = rw none at i.5 in
    let some : 0 < count = omega (arith, c.if-count-eq0.false) in (
      i.0,
      i.1,
      i.2,
      i.3,
      looks_next (c.args.looks.now + i.1) round (length (in_wait content c.look_on.at count c.look_on.left)) (length stay) c.look_on.looks i.4 (ap length none),
      round_next key c.args.lg (left ++ begun) stay slots (length begun) round i.0 i.1 is,
      λ more. round_short key c.args.lg (left ++ begun) stay slots (length begun) round i.0 i.1 [] is (omega (arith, c.requires.room, length-append left begun)) (c.rounds.invariant.6 some) (omega (arith, more, i.8)),
      omega (arith, i.7, c.look_on.auto.at-end, c.look_on.auto.left, c.rounds.invariant.7),
      i.6 ∙ c.rounds.invariant.8,
    )
