use Rattle.std.proofs.Common.{ℕ, ◌≡◌, ◌+◌, ◌<◌, cond, ltb, leb, ◌-◌, ◌≤◌, ◌∙◌, length, take, drop, List, arith}
use Rattle.std.proofs.lemmas.List.{length-set, length-drop}
use Rattle.core_operators.proofs.ReadPast.{behind, some_first, no_first, counted_few, counted_some}
use Rattle.core_operators.proofs.DifferenceEntries.{IsSifting, sifted_on, whole_at_end, whole_with_none, whole_past}
use Rattle.std.proofs.lemmas.Bool.Decides.{nat_tests}
use Rattle.core_operators.proofs.scan.sift.Goals as goal
use Rattle.core_operators.proofs.scan.sift.Goals.{else-loop-count-test, then-loop-count-test+in_default, then-loop-count-test+in-Some+in_default-first, then-loop-count-test+in-Some+in-Some-first+then-hash-theta}

in_slices : {X Y : Type 0} (key : X → ℕ) (other : Y → ℕ) (theta : ℕ) (whole left : List X) (others : List Y) (kept : List X) (n m : ℕ) → IsSifting key other theta whole (drop n left) (drop m others) kept → IsSifting key other theta whole (take (length left - n) (drop n left)) (take (length others - m) (drop m others)) kept
in_slices key other theta whole left others kept n m is = rw (behind left n, behind others m) is

-- a kept entry is also read past
kept_is_passed : (hash other_hash : ℕ) → cond (ltb hash other_hash) 1 0 ≤ cond (leb hash other_hash) 1 0
kept_is_passed hash other_hash = grind (arith, nat_tests)

at_most_one : (hash other_hash : ℕ) → cond (leb hash other_hash) 1 0 ≤ 1
at_most_one hash other_hash = grind (arith, nat_tests)

fewer_left : {X : Type 0} (left : List X) (count more passed total hash other_hash : ℕ) → more ≡ cond (ltb hash other_hash) 1 0 → passed ≡ cond (leb hash other_hash) 1 0 → 0 < length left → count + length left ≤ total → (count + more) + length (take (length left - passed) (drop passed left)) ≤ total
fewer_left left count more passed total hash other_hash more_is passed_is some was =
    let less : more ≤ passed = rw (more_is, passed_is) (kept_is_passed hash other_hash) in
    let one : passed ≤ 1 = rw passed_is (at_most_one hash other_hash) in
    let n = length-drop passed left in
    rw (behind left passed) (omega (arith, n, less, one, some, was))

pub loop-count-preserved : goal.loop-count-preserved
loop-count-preserved g c =
    let key = g.E.SketchEntry.key in
    let other = g.F.SketchEntry.key in
    record {
      so_far = in_slices key other c.args.theta _ c.loop-count.left.now c.loop-count.others_left.now _ c.number_if.result c.number_if-in-loop-count.result
          (sifted_on key other c.args.theta (λ r. r.now) _ c.loop-count.left.now c.loop-count.others_left.now c.in-Some.entry c.in-Some-first.other.now c.loop-count.kept c.loop-count.count c.hash-hash.result c.hash-known.result c.number_if-count.result c.number_if.result c.number_if-in-loop-count.result
          c.in-Some.ensures.value c.in-Some-first.ensures.value (omega (arith, c.loop-count.invariant.room, c.loop-count-test.true)) c.hash-hash.ensures c.hash-known.ensures (omega (arith, c.if-hash-theta.false)) c.number_if-count.ensures.value c.number_if.ensures.value c.number_if-in-loop-count.ensures.value c.loop-count.invariant.so_far);
      room = length-set _ _ _ ∙ c.loop-count.invariant.room;
      limited = omega (arith, c.number_if-count.ensures.small, c.loop-count-test.true);
      fewer = fewer_left c.loop-count.left.now c.loop-count.count c.number_if-count.result c.number_if.result (length c.args.entries.now) c.hash-hash.result c.hash-known.result c.number_if-count.ensures.value c.number_if.ensures.value (some_first c.loop-count.left.now c.in-Some.entry.now c.in-Some.ensures.value) c.loop-count.invariant.fewer;
      some = counted_some c.loop-count.left.now c.loop-count.others_left.now c.loop-count.compared c.tick.new.self c.hash-hash.result c.hash-known.result c.number_if.result c.number_if-in-loop-count.result c.tick.ensures (some_first c.loop-count.left.now c.in-Some.entry.now c.in-Some.ensures.value) (some_first c.loop-count.others_left.now c.in-Some-first.other.now c.in-Some-first.ensures.value) c.number_if.ensures.value c.number_if-in-loop-count.ensures.value c.number_if.ensures.small c.number_if-in-loop-count.ensures.small _ c.loop-count.invariant.some;
      few = counted_few c.loop-count.left.now c.loop-count.others_left.now c.loop-count.compared c.tick.new.self c.hash-hash.result c.hash-known.result c.number_if.result c.number_if-in-loop-count.result c.tick.ensures (some_first c.loop-count.left.now c.in-Some.entry.now c.in-Some.ensures.value) (some_first c.loop-count.others_left.now c.in-Some-first.other.now c.in-Some-first.ensures.value) c.number_if.ensures.value c.number_if-in-loop-count.ensures.value c.number_if.ensures.small c.number_if-in-loop-count.ensures.small _ c.loop-count.invariant.few;
    }

pub returns-clause-whole : goal.returns-clause-whole
returns-clause-whole g c = λ limited.
    let key = g.E.SketchEntry.key in
    let other = g.F.SketchEntry.key in
    let left = c.loop-count.left.now in
    let others = c.loop-count.others_left.now in
    elim c.loop-count-test.branch [
      | else-loop-count-test w ↦ absurd (omega (arith, limited, w.loop-count-test.false))
      | then-loop-count-test+in_default w ↦ whole_at_end key other c.args.theta left others (no_first (λ r. r.now) w.first.result left w.in_default.not-Some w.first.ensures.value)
      | then-loop-count-test+in-Some+in_default-first w ↦ whole_with_none key other c.args.theta left others (no_first (λ r. r.now) w.first-in-loop-count.result others w.in_default-first.not-Some w.first-in-loop-count.ensures.value)
      | then-loop-count-test+in-Some+in-Some-first+then-hash-theta w ↦ whole_past key other c.args.theta left others w.in-Some.entry.now w.in-Some.ensures.value c.loop-count.invariant.so_far.ascending (rw (← w.hash-hash.ensures) (omega (arith, w.if-hash-theta.true)))
    ]
