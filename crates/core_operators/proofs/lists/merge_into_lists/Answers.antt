use Rattle.std.proofs.Common.{◌≡◌, ℕ, [], length, min, inl, inr, refl, ap, ◌∙◌, arith}
use Rattle.std.proofs.lemmas.List.{nil_from_length}
use Rattle.std.proofs.lemmas.Result.{err_from_is_err_and}
use Rattle.core_laws.proofs.maps.ApartEntries.{apart-filter}
use Rattle.core_table.proofs.FilledTables.{made_with_next}
use Rattle.core_operators.specs.Union.{at_or_above}
use Rattle.core_operators.specs.Lists.{with_lists}
use Rattle.core_operators.proofs.MergedListing.{IsNext, merge_starts, is_next, at_or_above_front, skipped, merged_from}
use Rattle.core_operators.proofs.lists.merge_into_lists.Goals as goal
use Rattle.core_operators.proofs.lists.merge_into_lists.Goals.{else-hash-from-via-then-hash-from+else-hash-theta, else-hash-from-via-else-hash-from, in-Some+then-is_past, in_default}

pub loop-first-init : goal.loop-first-init
loop-first-init g c = record {
  lists = c.requires.lists;
  merged = merge_starts (apart-filter g.E.SketchEntry.key _ c.args.entries.now c.requires.apart) c.requires.in_order;
  made_with = refl;
}

pub merge_into-requires-clause-lists : goal.merge_into-requires-clause-lists
merge_into-requires-clause-lists g c = c.loop-first.invariant.lists

pub returns-in_err-merge_into-clause-made_with : goal.returns-in_err-merge_into-clause-made_with
returns-in_err-merge_into-clause-made_with g c = made_with_next c.args.table.now.map c.loop-first.table.map c.merge_into.new.table.map _ c.loop-first.invariant.made_with c.in_err-merge_into.ensures.made_with

pub returns-in_err-merge_into-clause-refused : goal.returns-in_err-merge_into-clause-refused
returns-in_err-merge_into-clause-refused g c =
    let key = g.E.SketchEntry.key in
    let was = c.loop-first.invariant in
    let it : IsNext was.merged (with_lists key c.loop-first.lists.held.items c.loop-first.lists.added.items c.loop-first.table.map) c.hash-hash.result c.in-Some.first.now (at_or_above key c.in-Some.others.now c.args.from) =
    is_next was.merged (g.met.P.UnionMergePolicy.keeps_hash c.args.policy.now) (at_or_above_front key c.args.from _ c.in-Some.others.now c.in-Some.first.now c.in-Some.ensures.cases.0 (omega (arith, c.hash-hash.ensures, c.if-hash-from.true))) c.hash-hash.ensures c.if-hash-theta.true in
    let p = err_from_is_err_and c.from_residual.result c.from_residual.ensures.1 in
    rw (p.1, p.2) (it.refused _ c.in_err-merge_into.ensures.refused)

pub loop-first-smaller-in_ok-merge_into : goal.loop-first-smaller-in_ok-merge_into
loop-first-smaller-in_ok-merge_into g c = omega (arith, ap length c.in-Some.ensures.cases.0)

pub loop-first-preserved-in_ok-merge_into : goal.loop-first-preserved-in_ok-merge_into
loop-first-preserved-in_ok-merge_into g c =
    let key = g.E.SketchEntry.key in
    let was = c.loop-first.invariant in
    let it : IsNext was.merged (with_lists key c.loop-first.lists.held.items c.loop-first.lists.added.items c.loop-first.table.map) c.hash-hash.result c.in-Some.first.now (at_or_above key c.in-Some.others.now c.args.from) =
    is_next was.merged (g.met.P.UnionMergePolicy.keeps_hash c.args.policy.now) (at_or_above_front key c.args.from _ c.in-Some.others.now c.in-Some.first.now c.in-Some.ensures.cases.0 (omega (arith, c.hash-hash.ensures, c.if-hash-from.true))) c.hash-hash.ensures c.if-hash-theta.true in
    record {
      lists = c.in_ok-merge_into.ensures.lists;
      merged = it.merged _ c.in_ok-merge_into.ensures.after c.in_ok-merge_into.ensures.allowed;
      made_with = made_with_next c.args.table.now.map c.loop-first.table.map c.merge_into.new.table.map _ was.made_with c.in_ok-merge_into.ensures.made_with;
    }

pub loop-first-smaller : goal.loop-first-smaller
loop-first-smaller g c = omega (arith, ap length c.in-Some.ensures.cases.0)

pub loop-first-preserved : goal.loop-first-preserved
loop-first-preserved g c = record {
  lists = c.loop-first.invariant.lists;
  merged = skipped c.args.from c.hash-hash.result c.in-Some.first.now c.loop-first.left.now c.in-Some.others.now c.loop-first.invariant.merged c.in-Some.ensures.cases.0 c.hash-hash.ensures (elim c.else-hash-from.branch [
    | else-hash-from-via-then-hash-from+else-hash-theta w ↦ inr w.if-hash-theta.false
    | else-hash-from-via-else-hash-from w ↦ inl w.if-hash-from.false
  ]);
  made_with = c.loop-first.invariant.made_with;
}

pub returns-clause-lists : goal.returns-clause-lists
returns-clause-lists g c = c.loop-first.invariant.lists

pub returns-clause-after : goal.returns-clause-after
returns-clause-after g c =
    let was = c.loop-first.invariant in
    elim c.match-split_first.branch [
      | in-Some+then-is_past w ↦
          merged_from c.args.from w.min.result w.in-Some.first.now c.loop-first.left.now w.in-Some.others.now was.merged (w.min.ensures ∙ ap (λ (t : ℕ). min c.args.theta t) w.retention_theta.ensures.theta) w.in-Some.ensures.cases.0
          (let past = w.is_past.ensures.0 w.if-is_past.true in (past.0, rw (← w.hash-hash.ensures) past.1))
      | in_default w ↦
          let none : c.loop-first.left.now ≡ [] = nil_from_length c.loop-first.left.now w.in_default.ensures.cases in
          rw none at was.merged.rest
    ]

pub returns-clause-made_with : goal.returns-clause-made_with
returns-clause-made_with g c = c.loop-first.invariant.made_with
