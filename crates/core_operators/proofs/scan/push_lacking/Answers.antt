use Rattle.std.proofs.Common.{◌≡◌, ◌+◌, ◌∙◌, ◌++◌, drop, sym, ap, arith}
use Rattle.std.proofs.lemmas.List.{append-nil}
use Rattle.core_laws.proofs.maps.Ascending.{ascending-tail}
use Rattle.core_operators.proofs.DifferenceEntries.{kept_on, dropped_on, keeps_stop, unfound, was_found}
use Rattle.core_operators.proofs.ReadPast.{left_at}
use Rattle.core_operators.proofs.scan.push_lacking.Goals as goal
use Rattle.core_operators.proofs.scan.push_lacking.Goals.{then-is_none+in_ok-clone+in_ok-push, else-is_none}

pub loop-entry-preserved : goal.loop-entry-preserved
loop-entry-preserved g c =
    let was = c.loop-entry.invariant in
    let x = c.entry-item.result in
    let left = drop (c.loop-entry.entry-index + 1) c.args.entries.now in
    let shape = left_at c.args.entries.now c.loop-entry.entry-index x c.loop-entry-test.true c.entry-item.is in
    let found = c.found_by_halves in
    let key = g.E.SketchEntry.key in
    let other = g.F.SketchEntry.key in
    let theta = c.args.theta in
    record {
      rest = elim c.if-is_none.branch [
        | then-is_none+in_ok-clone+in_ok-push w ↦
            let same : w.in_ok-clone.field-0 ≡ x = c.requires.clones_equal x w.in_ok-clone.field-0 w.in_ok-clone.ensures.cases in
            let absent = unfound (λ r. r.now) found.result c.is_none.result c.is_none.ensures w.if-is_none.true _ found.ensures.found in
            rw (w.kept-is, w.in_ok-push.ensures.items, same) (kept_on key other theta c.loop-entry.kept.items x left c.args.others.now c.hash-hash.result c.hash-hash.ensures (omega (arith, c.if-hash-theta.false)) absent ∙ rw shape at was.rest)
        | else-is_none w ↦
            let there = was_found (λ r. r.now) found.result c.is_none.result c.is_none.ensures w.if-is_none.false _ found.ensures.found in
            rw w.kept-is (dropped_on key other theta c.loop-entry.kept.items x left c.args.others.now c.hash-hash.result c.hash-hash.ensures (omega (arith, c.if-hash-theta.false)) there ∙ rw shape at was.rest)
      ];
      ascending = ascending-tail key x left (rw shape at was.ascending);
      grows = omega (arith, was.grows, found.ensures.grows);
      few = λ k within. let before = was.few k within in let more = found.ensures.compared k within in omega (arith, before, more);
    }

pub returns-then-hash-theta-clause-kept : goal.returns-then-hash-theta-clause-kept
returns-then-hash-theta-clause-kept g c =
    let was = c.loop-entry.invariant in
    let x = c.entry-item.result in
    let done = c.loop-entry.kept.items in
    let shape = left_at c.args.entries.now c.loop-entry.entry-index x c.loop-entry-test.true c.entry-item.is in
    let stops = keeps_stop g.E.SketchEntry.key g.F.SketchEntry.key c.args.theta x _ c.args.others.now (rw shape at was.ascending) (rw (← c.hash-hash.ensures) (omega (arith, c.if-hash-theta.true))) in
    sym (append-nil done) ∙ ap (λ zs. done ++ zs) (sym stops) ∙ rw shape at was.rest
