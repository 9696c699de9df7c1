use Rattle.std.proofs.Common.{◌≡◌, ltb, true, ◌∷◌, ◌++◌, [], refl, sym, ap, ◌∙◌, arith}
use Rattle.std.proofs.lemmas.Bool.Decides.{nat_tests}
use Rattle.std.proofs.lemmas.List.{append-nil, append_assoc}
use Rattle.core_laws.specs.Maps.{below}
use Rattle.core_laws.proofs.maps.Ascending.{ascending-tail}
use Rattle.core_operators.proofs.DifferenceEntries.{stops}
use Rattle.core_operators.proofs.ascending.entries_below.Goals as goal
use Rattle.core_operators.proofs.ascending.entries_below.Goals.{in-None, in-Some+then-is_past}

pub loop-entry-init : goal.loop-entry-init
loop-entry-init g c =
    let all : c.into_iter-entry-iterator.result.rest ≡ c.args.items.rest = ap (λ i. i.rest) c.into_iter-entry-iterator.ensures.into_iter_gives in
    rw (all, c.in_ok-entries.ensures.items) (record { rest = refl; in_order = c.requires.in_order })

pub loop-entry-preserved : goal.loop-entry-preserved
loop-entry-preserved g c =
    let key = g.E.SketchEntry.key in
    let was = c.loop-entry.invariant in
    let theta = c.args.theta in
    let x = c.in-Some.entry.now in
    let left = c.next.new.self.rest in
    let shape : c.loop-entry.entry-iterator.rest ≡ x ∷ left = c.in-Some.ensures.steps.0 in
    let low : ltb (key x) theta ≡ true = grind (arith, nat_tests, c.hash-hash.ensures, c.if-hash-theta.false) in
    let same : c.in_ok-clone.field-0 ≡ x = c.requires.clones_equal x c.in_ok-clone.field-0 c.in_ok-clone.ensures.cases in
    let more : below key (x ∷ left) theta ≡ x ∷ below key left theta = rw low refl in
    record {
      rest = rw (c.in_ok-push.ensures.items, same) (append_assoc c.loop-entry.entries.items (x ∷ []) (below key left theta) ∙ ap (λ zs. c.loop-entry.entries.items ++ zs) (sym more) ∙ rw shape at was.rest);
      in_order = λ e. ascending-tail key x left (rw shape at (was.in_order e));
    }

pub returns-clause-ok : goal.returns-clause-ok
returns-clause-ok g c =
    let key = g.E.SketchEntry.key in
    let was = c.loop-entry.invariant in
    let done = c.loop-entry.entries.items in
    sym (append-nil done) ∙
    elim c.match-next.branch [
      | in-None w ↦ let none = w.in-None.ensures.steps.0 in rw none.0 at was.rest
      | in-Some+then-is_past w ↦
          let x = w.in-Some.entry.now in
          let left = c.next.new.self.rest in
          let shape : c.loop-entry.entry-iterator.rest ≡ x ∷ left = w.in-Some.ensures.steps.0 in
          let past = w.is_past.ensures.0 w.if-is_past.true in
          ap (λ zs. done ++ zs) (sym (stops key x left c.args.theta (rw shape at (was.in_order past.0)) (rw (← w.hash-hash.ensures) past.1))) ∙ rw shape at was.rest
    ]
