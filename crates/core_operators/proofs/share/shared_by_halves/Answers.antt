use Rattle.std.proofs.Common.{ℕ, ◌≡◌, ◌+◌, ◌∙◌, ◌∷◌, ◌++◌, [], true, drop, map, sym, ap, refl, inl, inr, arith}
use Rattle.std.specs.Prelude.{option_copied}
use Rattle.std.proofs.lemmas.List.{drop_all, append-nil}
use Rattle.std.proofs.lemmas.Result.{err_from_is_err_and}
use Rattle.core_laws.specs.Folds.{Value}
use Rattle.core_laws.proofs.maps.MapsOfLists.{ascending-apart}
use Rattle.core_operators.proofs.ReadPast.{left_at}
use Rattle.core_operators.proofs.SharedEntries.{IsReading, reading-start, reading-next, found_none, found_more, found_past, found_in_all, found_refused, unpaired, found_few}
use Rattle.core_operators.proofs.share.shared_by_halves.Goals as goal
use Rattle.core_operators.proofs.share.shared_by_halves.Goals.{else-loop-entry-test, then-loop-entry-test+then-hash-theta}

pub loop-entry-init : goal.loop-entry-init
loop-entry-init g c =
    let key = g.E.SketchEntry.key in
    let short = c.args.short.now in
    rw c.new-entries.ensures.items (record {
      rest = refl;
      reading = reading-start key short true (ascending-apart key short c.requires.ascending) (λ _. c.requires.ascending);
      some = omega arith;
      few = λ k within. omega arith;
    })

pub returns-in_err-found-clause-refused : goal.returns-in_err-found-clause-refused
returns-in_err-found-clause-refused g c =
    let p = err_from_is_err_and c.from_residual.result c.from_residual.ensures.1 in
    let keeps = g.met.P.IntersectionMergePolicy.keeps_hash c.args.policy.now in
    let other = c.found_by_halves-other in
    let reading = rw (left_at c.args.short.now c.loop-entry.entry-index c.entry-item.result c.loop-entry-test.true c.entry-item.is) at c.loop-entry.invariant.reading in
    rw (p.1, p.2) (elim c.in_err-found.ensures.refused [
      | inl o ↦ inl o
      | inr r ↦ inr (r.0, found_refused _ _ _ keeps c.args.arrives c.args.short.now _ c.args.long.now c.entry-item.result c.args.theta c.hash-hash.result (option_copied other.result) reading other.ensures.found c.hash-hash.ensures (omega (arith, c.if-hash-theta.false)) r.1)
    ])

pub loop-entry-preserved : goal.loop-entry-preserved
loop-entry-preserved g c =
    let was = c.loop-entry.invariant in
    let key = g.E.SketchEntry.key in
    let merges = g.P.IntersectionMergePolicy.merges c.args.policy.now in
    let refuses = g.P.IntersectionMergePolicy.refuses c.args.policy.now in
    let keeps = g.met.P.IntersectionMergePolicy.keeps_hash c.args.policy.now in
    let short = c.args.short.now in
    let x = c.entry-item.result in
    let left = drop (c.loop-entry.entry-index + 1) short in
    let shape = left_at short c.loop-entry.entry-index x c.loop-entry-test.true c.entry-item.is in
    let reading : IsReading key short (x ∷ left) true = rw shape at was.reading in
    let items = c.loop-entry.entries.items in
    let found = c.in_ok-found.found in
    let other = c.found_by_halves-other in
    record {
      rest = rw c.in_ok-push_found.ensures (found_more key merges refuses keeps c.args.arrives items left c.args.long.now x c.args.theta c.hash-hash.result (option_copied other.result) found _ other.ensures.found c.hash-hash.ensures (omega (arith, c.if-hash-theta.false)) c.in_ok-found.ensures.combined (rw shape at was.rest));
      reading = reading-next key short left x true reading;
      some = rw c.in_ok-push_found.ensures (found_few items found other.result c.args.compared.now c.loop-entry.compared other.new.compared (unpaired key merges refuses keeps (λ r. r.now) other.result c.args.arrives x found c.in_ok-found.ensures.combined) other.ensures.looks other.ensures.grows was.some);
      few = λ k within. let before = was.few k within in let more = other.ensures.compared k within in omega (arith, before, more);
    }

pub returns-clause-all : goal.returns-clause-all
returns-clause-all g c =
    let was = c.loop-entry.invariant in
    let short = c.args.short.now in
    let i : ℕ = c.loop-entry.entry-index in
    let so_far = map Value c.loop-entry.entries.items in
    let key = g.E.SketchEntry.key in
    let merges = g.P.IntersectionMergePolicy.merges c.args.policy.now in
    let refuses = g.P.IntersectionMergePolicy.refuses c.args.policy.now in
    let keeps = g.met.P.IntersectionMergePolicy.keeps_hash c.args.policy.now in
    sym (append-nil so_far) ∙
    (elim c.loop-entry-test.branch [
      | else-loop-entry-test w ↦
          let none : drop i short ≡ [] = drop_all i short (omega (arith, w.loop-entry-test.false)) in
          ap (λ us. so_far ++ us) (sym (found_none key merges refuses keeps c.args.arrives c.args.long.now c.args.theta)) ∙ rw none at was.rest
      | then-loop-entry-test+then-hash-theta w ↦
          let x = w.entry-item.result in
          let left = drop (i + 1) short in
          let shape = left_at short i x w.loop-entry-test.true w.entry-item.is in
          let reading : IsReading key short (x ∷ left) true = rw shape at was.reading in
          ap (λ us. so_far ++ us) (sym (found_past key merges refuses keeps c.args.arrives short left c.args.long.now x c.args.theta reading (rw (← w.hash-hash.ensures) (omega (arith, w.if-hash-theta.true))))) ∙ rw shape at was.rest
    ])
    ∙ found_in_all key merges refuses keeps c.args.arrives short c.args.long.now c.args.theta c.requires.ascending c.requires.long_ascends
