use Rattle.std.proofs.Common.{◌≡◌, ◌≤◌, ◌<◌, ◌∷◌, sym, ◌∙◌, ap, arith}
use Rattle.core_laws.proofs.maps.Ascending.{ascending-tail}
use Rattle.core_operators.specs.Union.{at_or_above}
use Rattle.core_operators.proofs.MergedListing.{at_or_above_passed, at_or_above_ascending}
use Rattle.core_operators.proofs.merge.entries_from.Goals as goal

pub loop-first-preserved : goal.loop-first-preserved
loop-first-preserved g c =
    let key = g.E.SketchEntry.key in
    let first = c.in-Some.first.now in
    let others = c.in-Some.others.now in
    let shape : c.loop-first.left.now ≡ first ∷ others = c.in-Some.ensures.cases.0 in
    let low : key first < c.args.from = omega (arith, c.hash.ensures, c.if-hash-from.false) in
    record {
      left = sym (at_or_above_passed key c.args.from others first low) ∙ ap (λ ys. at_or_above key ys c.args.from) (sym shape) ∙ c.loop-first.invariant.left;
      ascending = ascending-tail key first others (rw (← shape) c.loop-first.invariant.ascending);
    }

pub returns-then-hash-from : goal.returns-then-hash-from
returns-then-hash-from g c =
    let key = g.E.SketchEntry.key in
    let first = c.in-Some.first.now in
    let others = c.in-Some.others.now in
    let shape : c.loop-first.left.now ≡ first ∷ others = c.in-Some.ensures.cases.0 in
    let high : c.args.from ≤ key first = omega (arith, c.hash.ensures, c.if-hash-from.true) in
    shape ∙ sym (at_or_above_ascending key c.args.from others first (rw (← shape) c.loop-first.invariant.ascending) high) ∙ ap (λ ys. at_or_above key ys c.args.from) (sym shape) ∙ c.loop-first.invariant.left
