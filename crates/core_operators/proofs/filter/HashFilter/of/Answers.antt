use Rattle.std.proofs.Common.{◌≡◌, ◌∙◌, length, take, sym, ap, subst, arith}
use Rattle.std.specs.List.{AllByRecursion}
use Rattle.std.proofs.lemmas.List.{take_all, with_items_is}
use Rattle.core_operators.proofs.Admitted.{Passes, one_more, still_admitted, admits_below}
use Rattle.core_operators.proofs.filter.HashFilter.of.Goals as goal
use Rattle.core_operators.proofs.filter.HashFilter.of.Goals.{then-hash-theta, else-hash-theta}

pub loop-entry-preserved : goal.loop-entry-preserved
loop-entry-preserved g c =
    let was = c.loop-entry.invariant in
    let key = g.E.SketchEntry.key in
    let theta = c.args.theta in
    let shift = c.shift_for-shift.result in
    let entries = c.args.entries.now in
    let i = c.loop-entry.entry-index in
    let x = c.entry-item.result in
    elim c.if-hash-theta.branch [
      | then-hash-theta w ↦
          let next = w.set_bit.new.words in
          let same : length next ≡ length c.loop-entry.words.items = w.set_bit.ensures.room ∙ ap length w.deref_mut.ensures.value in
          rw (w.words-is, with_items_is c.loop-entry.words next (same ∙ sym c.loop-entry.words.ok.0)) (record {
            room = was.room ∙ sym same;
            so_far = one_more key theta shift next entries i x c.loop-entry-test.true c.entry-item.is (still_admitted key theta shift c.loop-entry.words.items next (take i entries) (λ other e. w.set_bit.ensures.kept other (rw w.deref_mut.ensures.value e)) was.so_far) (λ _. rw (← c.hash-hash.ensures) w.set_bit.ensures.set);
          })
      | else-hash-theta w ↦ rw w.words-is (record {
        room = was.room;
        so_far = one_more key theta shift c.loop-entry.words.items entries i x c.loop-entry-test.true c.entry-item.is was.so_far (λ low. absurd (omega (arith, low, c.hash-hash.ensures, w.if-hash-theta.false)));
      })
    ]

pub returns-clause-admits : goal.returns-clause-admits
returns-clause-admits g c =
    let was = c.loop-entry.invariant in
    let key = g.E.SketchEntry.key in
    let entries = c.args.entries.now in
    admits_below key c.args.theta c.shift_for-shift.result c.loop-entry.words.items entries
    (subst (AllByRecursion (Passes key c.args.theta c.shift_for-shift.result c.loop-entry.words.items)) (take_all c.loop-entry.entry-index entries (omega (arith, c.loop-entry-test.false))) was.so_far)
