use Rattle.std.proofs.Common.{◌≡◌, ℕ, ◌+◌, ◌-◌, ◌<◌, ◌≤◌, eqb, List, get_or, length, map, drop, arith}
use Rattle.std.specs.Prelude.{min, not}
use Rattle.std.specs.List.{prefix_len}
use Rattle.std.specs.Simd.Lanes.{chunk, mask_l}
use Rattle.std.proofs.lemmas.Bool.Decides.{nat_tests}
use Rattle.std.proofs.lemmas.Simd.{length-chunk}
use Rattle.keys_lines.proofs.KeyPlaces.{NoneIn, none_before, at_next, key_whole, key_missing, key_ended, key_last, field_passed}
use Rattle.keys_lines.proofs.field.key_place.Goals as goal

-- what the next mark says of a line whose first `most` bytes are in the lanes
record IsNext (c : ℕ) (text : List ℕ) (count most start next : ℕ) : Type 0 where
  behind : start ≤ next
  inside : next < most → next < count
  ended : next < most → get_or text next 0 ≡ c
  none_to_next : next < most → NoneIn c text start next
  none_to_end : most ≤ next → count < 32 → NoneIn c text start count

next_of : (c : ℕ) (text : List ℕ) (count most marks start next : ℕ) → 32 ≤ length text → most ≡ min count 32 → start ≤ most → marks ≡ mask_l (map (λ x. eqb x c) (chunk 0 32 text))
    → ((byte : ℕ) (lanes : List ℕ) → length lanes ≡ 32 → marks ≡ mask_l (map (λ x. eqb x byte) lanes) → min next 32 ≡ start + prefix_len (λ x. not (eqb x byte)) (drop start lanes))
    → IsNext c text count most start next
next_of c text count most marks start next enough is_most near marked found =
    let at : min next 32 ≡ start + prefix_len (λ x. not (eqb x c)) (drop start (chunk 0 32 text)) = found c (chunk 0 32 text) (length-chunk 0 32 text enough) marked in
    let low : start ≤ 32 = grind (arith, nat_tests, is_most, near) in
    record {
      behind = grind (arith, nat_tests, at);
      inside = λ lt. grind (arith, nat_tests, is_most, lt);
      ended = λ lt. at_next c text start next enough low at (grind (arith, nat_tests, is_most, lt));
      none_to_next = λ lt k ge below. none_before c text start next enough low at k ge (grind (arith, nat_tests, is_most, lt, below));
      none_to_end = λ le few k ge below. none_before c text start next enough low at k ge (grind (arith, nat_tests, is_most, le, few, below));
    }

pub returns-then-start-eq0-clause-key : goal.returns-then-start-eq0-clause-key
returns-then-start-eq0-clause-key c =
    let a = c.args in
    let now = c.loop-left in
    let next = c.next_mark-next.result in
    let is = next_of a.separator a.text.now a.count c.min-most.result c.marks_of-marks.result now.start next c.requires.enough c.min-most.ensures now.invariant.near c.marks_of-marks.ensures c.next_mark-next.ensures in
    key_whole a.separator a.text.now a.count c.requires.whole a.before now.start now.left next (now.invariant.place c.requires.whole) c.if-start-eq0.true (is.none_to_end c.if-next-most.true (omega arith))

pub returns-else-start-eq0-clause-key : goal.returns-else-start-eq0-clause-key
returns-else-start-eq0-clause-key c =
    let a = c.args in
    let now = c.loop-left in
    let next = c.next_mark-next.result in
    let is = next_of a.separator a.text.now a.count c.min-most.result c.marks_of-marks.result now.start next c.requires.enough c.min-most.ensures now.invariant.near c.marks_of-marks.ensures c.next_mark-next.ensures in
    key_missing a.separator a.text.now a.count c.requires.whole a.before now.start now.left next (now.invariant.place c.requires.whole) (now.left - 1) (omega arith) c.if-start-eq0.false (is.none_to_end c.if-next-most.true (omega arith))

pub loop-left-preserved : goal.loop-left-preserved
loop-left-preserved c =
    let a = c.args in
    let now = c.loop-left in
    let next = c.next_mark-next.result in
    let is = next_of a.separator a.text.now a.count c.min-most.result c.marks_of-marks.result now.start next c.requires.enough c.min-most.ensures now.invariant.near c.marks_of-marks.ensures c.next_mark-next.ensures in
    let lt : next < c.min-most.result = omega arith in
    record {
      near = omega arith;
      place = λ whole. field_passed a.separator a.text.now a.count whole a.before now.start now.left next (now.invariant.place whole) (now.left - 1) (omega arith) is.behind (is.inside lt) (is.none_to_next lt) (is.ended lt);
    }

pub returns-then-next-most-2-clause-key : goal.returns-then-next-most-2-clause-key
returns-then-next-most-2-clause-key c =
    let a = c.args in
    let now = c.loop-left in
    let next = c.next_mark-next-2.result in
    let is = next_of a.separator a.text.now a.count c.min-most.result c.marks_of-marks.result now.start next c.requires.enough c.min-most.ensures now.invariant.near c.marks_of-marks.ensures c.next_mark-next-2.ensures in
    let lt : next < c.min-most.result = c.if-next-most-2.true in
    key_ended a.separator a.text.now a.count c.requires.whole a.before now.start now.left next (now.invariant.place c.requires.whole) (omega arith) is.behind (is.inside lt) (is.none_to_next lt) (is.ended lt)

pub returns-then-next-most-2-clause-ordered : goal.returns-then-next-most-2-clause-ordered
returns-then-next-most-2-clause-ordered c =
    let a = c.args in
    let now = c.loop-left in
    let is = next_of a.separator a.text.now a.count c.min-most.result c.marks_of-marks.result now.start c.next_mark-next-2.result c.requires.enough c.min-most.ensures now.invariant.near c.marks_of-marks.ensures c.next_mark-next-2.ensures in
    is.behind

pub returns-then-count-lt-LANES-clause-key : goal.returns-then-count-lt-LANES-clause-key
returns-then-count-lt-LANES-clause-key c =
    let a = c.args in
    let now = c.loop-left in
    let next = c.next_mark-next-2.result in
    let is = next_of a.separator a.text.now a.count c.min-most.result c.marks_of-marks.result now.start next c.requires.enough c.min-most.ensures now.invariant.near c.marks_of-marks.ensures c.next_mark-next-2.ensures in
    key_last a.separator a.text.now a.count c.requires.whole a.before now.start now.left next (now.invariant.place c.requires.whole) (omega arith) (is.none_to_end (omega arith) c.if-count-lt-LANES.true)
