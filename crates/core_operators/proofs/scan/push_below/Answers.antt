use Rattle.std.proofs.Common.{◌≡◌, ◌+◌, ◌++◌, ℕ, true, ltb, [], ◌∷◌, drop, ap, sym, refl, ◌∙◌, arith}
use Rattle.std.proofs.lemmas.Bool.Decides.{nat_tests}
use Rattle.std.proofs.lemmas.List.{append-nil, append_assoc, drop_more}
use Rattle.core_laws.specs.Maps.{below}
use Rattle.core_laws.proofs.maps.Ascending.{ascending-tail}
use Rattle.core_operators.proofs.DifferenceEntries.{stops}
use Rattle.core_operators.proofs.scan.push_below.Goals as goal

pub loop-entry-preserved : goal.loop-entry-preserved
loop-entry-preserved g c =
    let key = g.E.SketchEntry.key in
    let was = c.loop-entry.invariant in
    let theta = c.args.theta in
    let i : ℕ = c.loop-entry.entry-index in
    let x = c.entry-item.result in
    let left = drop (i + 1) c.args.entries.now in
    let shape : drop i c.args.entries.now ≡ x ∷ left = drop_more c.args.entries.now i x c.loop-entry-test.true ∙ ap (λ y. y ∷ left) (sym c.entry-item.is) in
    let low : ltb (key x) theta ≡ true = grind (arith, nat_tests, c.hash.ensures, c.if-hash-theta.false) in
    let same : c.in_ok-clone.field-0 ≡ x = c.requires.clones_equal x c.in_ok-clone.field-0 c.in_ok-clone.ensures.cases in
    let more : below key (x ∷ left) theta ≡ x ∷ below key left theta = rw low refl in
    record {
      rest = rw (c.in_ok-push.ensures.items, same) (append_assoc c.loop-entry.kept.items (x ∷ []) (below key left theta) ∙ ap (λ zs. c.loop-entry.kept.items ++ zs) (sym more) ∙ rw shape at was.rest);
      ascending = ascending-tail key x left (rw shape at was.ascending);
    }

pub returns-then-hash-theta : goal.returns-then-hash-theta
returns-then-hash-theta g c =
    let i : ℕ = c.loop-entry.entry-index in
    let x = c.entry-item.result in
    let left = drop (i + 1) c.args.entries.now in
    let shape : drop i c.args.entries.now ≡ x ∷ left = drop_more c.args.entries.now i x c.loop-entry-test.true ∙ ap (λ y. y ∷ left) (sym c.entry-item.is) in
    let was = c.loop-entry.invariant in
    let none : below g.E.SketchEntry.key (x ∷ left) c.args.theta ≡ [] = stops g.E.SketchEntry.key x left c.args.theta (rw shape at was.ascending) (omega (arith, c.hash.ensures, c.if-hash-theta.true)) in
    sym (append-nil c.loop-entry.kept.items) ∙ ap (λ zs. c.loop-entry.kept.items ++ zs) (sym none) ∙ rw shape at was.rest
