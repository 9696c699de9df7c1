use Rattle.std.proofs.Common.{◌≡◌, ◌/◌, ◌∷◌, length, drop, sym, ◌∙◌, arith}
use Rattle.core_operators.proofs.Halving.{halve, middle_found, behind_same, before_same, behind_ascends, before_ascends, behind_short, before_short, some_left}
use Rattle.core_operators.proofs.search.found_by_halves.Goals as goal

pub returns-then-known-hash-clause-found : goal.returns-then-known-hash-clause-found
returns-then-known-hash-clause-found g c =
    let key = g.E.SketchEntry.key in
    let left = c.loop-entry.left.now in
    let rest : drop (length left / 2) left ≡ c.in-Some.entry.now ∷ c.in-Some.behind.now = sym c.split_at.ensures.back ∙ c.in-Some.ensures.cases.0 in
    sym (middle_found key left _ c.in-Some.entry.now c.in-Some.behind.now c.args.hash c.loop-entry.invariant.ascending c.split_at.ensures.front rest (sym c.hash-known.ensures ∙ c.if-known-hash.true)) ∙ c.loop-entry.invariant.same

pub loop-entry-preserved-then-known-hash-2 : goal.loop-entry-preserved-then-known-hash-2
loop-entry-preserved-then-known-hash-2 g c =
    let key = g.E.SketchEntry.key in
    let left = c.loop-entry.left.now in
    let was = c.loop-entry.invariant in
    let rest : drop (length left / 2) left ≡ c.in-Some.entry.now ∷ c.in-Some.behind.now = sym c.split_at.ensures.back ∙ c.in-Some.ensures.cases.0 in
    record {
      ascending = behind_ascends key left _ c.in-Some.entry.now c.in-Some.behind.now c.args.hash was.ascending c.split_at.ensures.front rest;
      same = behind_same key left _ c.in-Some.entry.now c.in-Some.behind.now c.args.hash was.ascending c.split_at.ensures.front rest (omega (arith, c.hash-known.ensures, c.if-known-hash-2.true)) ∙ was.same;
      grows = omega (arith, was.grows, c.tick.ensures);
      few = λ k within. rw c.tick.ensures (halve (length left) (length c.in-Some.behind.now) c.args.compared.now c.loop-entry.compared k (behind_short key left _ c.in-Some.entry.now c.in-Some.behind.now c.args.hash was.ascending c.split_at.ensures.front rest) (some_left key left _ c.in-Some.entry.now c.in-Some.behind.now c.args.hash was.ascending c.split_at.ensures.front rest) (was.few k within));
    }

pub loop-entry-preserved : goal.loop-entry-preserved
loop-entry-preserved g c =
    let key = g.E.SketchEntry.key in
    let left = c.loop-entry.left.now in
    let was = c.loop-entry.invariant in
    let before = c.split_at.result.0.now in
    let rest : drop (length left / 2) left ≡ c.in-Some.entry.now ∷ c.in-Some.behind.now = sym c.split_at.ensures.back ∙ c.in-Some.ensures.cases.0 in
    record {
      ascending = before_ascends key left before c.in-Some.entry.now c.in-Some.behind.now c.args.hash was.ascending c.split_at.ensures.front rest;
      same = before_same key left before c.in-Some.entry.now c.in-Some.behind.now c.args.hash was.ascending c.split_at.ensures.front rest (omega (arith, c.hash-known.ensures, c.if-known-hash-2.false, c.if-known-hash.false)) ∙ was.same;
      grows = omega (arith, was.grows, c.tick.ensures);
      few = λ k within. rw c.tick.ensures (halve (length left) (length before) c.args.compared.now c.loop-entry.compared k (before_short key left before c.in-Some.entry.now c.in-Some.behind.now c.args.hash was.ascending c.split_at.ensures.front rest) (some_left key left before c.in-Some.entry.now c.in-Some.behind.now c.args.hash was.ascending c.split_at.ensures.front rest) (was.few k within));
    }
