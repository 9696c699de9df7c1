use Rattle.std.proofs.Common.{◌≡◌, ◌<◌, ◌≤◌, flat_map, min, ap, arith}
use Rattle.std.proofs.lemmas.Result.{err_from_is_err_and}
use Rattle.core_table.proofs.FilledTables.{made_with_next}
use Rattle.core_operators.proofs.JoinedRanges.{HasMergedBelow, merged-start, merged-range, merged-trimmed, merged-all, nonzero_listed, all_refused}
use Rattle.core_operators.proofs.ranges.merge_all.Goals as goal
use Rattle.core_operators.proofs.ranges.merge_all.Goals.{then-ordered, else-ordered, then-to-theta+in_ok-trim, else-to-theta}

pub loop-from-init : goal.loop-from-init
loop-from-init g c =
    let merges = g.P.UnionMergePolicy.merges c.args.policy.now in
    let refuses = g.P.UnionMergePolicy.refuses c.args.policy.now in
    record {
      within = omega arith;
      more = λ lt. elim c.if-ordered.branch [
        | then-ordered w ↦ omega (arith, w.to-is, w.bound_of-to.ensures.low)
        | else-ordered w ↦ omega (arith, w.to-is, lt)
      ];
      high = elim c.if-ordered.branch [
        | then-ordered w ↦ omega (arith, w.to-is, w.bound_of-to.ensures.high)
        | else-ordered w ↦ omega (arith, w.to-is)
      ];
      merged = merged-start g.S.Entry.SketchEntry.key merges refuses c.args.table.now.map _ c.retention_theta-own.ensures.sound.kept;
    }

pub merge_range-requires-clause-of_sketch : goal.merge_range-requires-clause-of_sketch
merge_range-requires-clause-of_sketch g c =
    let lg : c.loop-from.table.map.lg_nom ≡ c.args.table.now.map.lg_nom = ap (λ t. t.lg_nom) c.loop-from.invariant.merged.made_with in
    rw lg c.requires.of_sketch

pub returns-in_err-merge_range-clause-made_with : goal.returns-in_err-merge_range-clause-made_with
returns-in_err-merge_range-clause-made_with g c =
    let was = c.loop-from.invariant.merged.made_with in
    made_with_next c.args.table.now.map c.loop-from.table.map c.merge_range.new.table.map _ was c.in_err-merge_range.ensures.made_with

pub returns-in_err-merge_range-clause-refused : goal.returns-in_err-merge_range-clause-refused
returns-in_err-merge_range-clause-refused g c =
    let p = err_from_is_err_and c.from_residual.result c.from_residual.ensures.1 in
    let merges = g.P.UnionMergePolicy.merges c.args.policy.now in
    let refuses = g.P.UnionMergePolicy.refuses c.args.policy.now in
    let keeps = g.met.P.UnionMergePolicy.keeps_hash c.args.policy.now in
    let was = c.loop-from.invariant in
    rw (p.1, p.2)
    (all_refused g.S.Entry.SketchEntry.key g.S.KeySketch.shown g.S.EntrySketch.listing merges refuses keeps
    c.args.table.now.map c.loop-from.table.map c.args.theta c.loop-from.from c.loop-from.to _ c.args.sketches.now _
    c.requires.inputs was.high c.requires.high was.merged c.in_err-merge_range.ensures.refused)

pub returns-in_err-trim-clause-made_with : goal.returns-in_err-trim-clause-made_with
returns-in_err-trim-clause-made_with g c =
    let was = c.loop-from.invariant.merged.made_with in
    rw c.in_err-trim.ensures.err
    (made_with_next c.args.table.now.map c.loop-from.table.map c.merge_range.new.table.map _ was c.in_ok-merge_range.ensures.made_with)

pub next_bound-to-requires-clause-low : goal.next_bound-to-requires-clause-low
next_bound-to-requires-clause-low g c =
    let before : c.loop-from.from < c.args.theta = omega (arith, c.loop-from-test.true, c.min.ensures) in
    omega (arith, c.loop-from.invariant.more before)

pub next_bound-to-requires-clause-high : goal.next_bound-to-requires-clause-high
next_bound-to-requires-clause-high g c = c.loop-from.invariant.high

pub loop-from-smaller : goal.loop-from-smaller
loop-from-smaller g c =
    let before : c.loop-from.from < c.args.theta = omega (arith, c.loop-from-test.true, c.min.ensures) in
    let further : c.loop-from.from < c.loop-from.to = c.loop-from.invariant.more before in
    omega (arith, before, further)

pub loop-from-preserved : goal.loop-from-preserved
loop-from-preserved g c =
    let key = g.S.Entry.SketchEntry.key in
    let merges = g.P.UnionMergePolicy.merges c.args.policy.now in
    let refuses = g.P.UnionMergePolicy.refuses c.args.policy.now in
    let keeps = g.met.P.UnionMergePolicy.keeps_hash c.args.policy.now in
    let sketches = c.args.sketches.now in
    let xs = flat_map g.S.EntrySketch.listing sketches in
    let first = c.args.table.now.map in
    let next = c.merge_range.new.table.map in
    let from = c.loop-from.from in
    let to = c.loop-from.to in
    let good = c.retention_theta-own.ensures.sound.kept in
    let nonzero = nonzero_listed key g.S.KeySketch.shown g.S.EntrySketch.listing sketches c.requires.inputs in
    let ensures = c.in_ok-merge_range.ensures in
    let was = c.loop-from.invariant in
    let before : from < c.args.theta = omega (arith, c.loop-from-test.true, c.min.ensures) in
    let further : from < to = was.more before in
    let merged : HasMergedBelow key merges refuses first next xs to =
    merged-range key merges refuses keeps first c.loop-from.table.map next xs from to good nonzero
    (omega (arith, further)) (omega (arith, was.high, c.requires.high)) was.merged ensures.after ensures.made_with in
    record {
      within = was.high;
      more = c.next_bound-to.ensures.more;
      high = c.next_bound-to.ensures.high;
      merged = elim c.if-to-theta.branch [
        | then-to-theta+in_ok-trim w ↦ rw w.table-is (merged-trimmed key merges refuses first next w.trim.new.self.map xs to merged w.in_ok-trim.ensures.after)
        | else-to-theta w ↦ rw w.table-is merged
      ];
    }

pub returns-clause-whole : goal.returns-clause-whole
returns-clause-whole g c =
    let merges = g.P.UnionMergePolicy.merges c.args.policy.now in
    let refuses = g.P.UnionMergePolicy.refuses c.args.policy.now in
    let keeps = g.met.P.UnionMergePolicy.keeps_hash c.args.policy.now in
    let good = c.retention_theta-own.ensures.sound.kept in
    let now = c.loop-from.table.map in
    let reached : min c.args.theta now.kept.theta ≤ c.loop-from.from = omega (arith, c.loop-from-test.false, c.min.ensures, c.retention_theta.ensures.theta) in
    merged-all g.S.Entry.SketchEntry.key merges refuses keeps c.args.table.now.map now _ c.args.theta c.loop-from.from
    good c.requires.high reached c.loop-from.invariant.merged

pub returns-clause-made_with : goal.returns-clause-made_with
returns-clause-made_with g c = c.loop-from.invariant.merged.made_with
