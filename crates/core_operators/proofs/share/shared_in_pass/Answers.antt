use Rattle.std.proofs.Common.{inl, inr, arith}
use Rattle.std.proofs.lemmas.Result.{err_from_is_err_and}
use Rattle.core_operators.proofs.ReadPast.{behind, some_first, no_first, counted_few}
use Rattle.core_operators.proofs.SharedEntries.{fewer_than, sharing-start, shared_on, refused_on, shared_end, end_arriving, end_retained, end_past}
use Rattle.core_operators.proofs.share.shared_in_pass.Goals as goal
use Rattle.core_operators.proofs.share.shared_in_pass.Goals.{in_default, in-Some+in_default-first, in-Some+in-Some-first+then-hash-theta}

pub loop-incoming-init : goal.loop-incoming-init
loop-incoming-init g c =
    rw c.new-entries.ensures.items (record {
      so_far = sharing-start g.E.SketchEntry.key (g.P.IntersectionMergePolicy.merges c.args.policy.now) (g.P.IntersectionMergePolicy.refuses c.args.policy.now) (g.met.P.IntersectionMergePolicy.keeps_hash c.args.policy.now) c.args.content.now c.args.arriving.now c.args.theta c.requires.ascending c.requires.arriving_ascend;
      some = omega arith;
      few = omega arith;
    })

pub returns-in_err-found-clause-refused : goal.returns-in_err-found-clause-refused
returns-in_err-found-clause-refused g c =
    let key = g.E.SketchEntry.key in
    let p = err_from_is_err_and c.from_residual.result c.from_residual.ensures.1 in
    let merges = g.P.IntersectionMergePolicy.merges c.args.policy.now in
    let refuses = g.P.IntersectionMergePolicy.refuses c.args.policy.now in
    let keeps = g.met.P.IntersectionMergePolicy.keeps_hash c.args.policy.now in
    rw (p.1, p.2) (elim c.in_err-found.ensures.refused [
      | inl o ↦ inl o
      | inr r ↦ inr (r.0, refused_on key merges refuses keeps c.args.content.now c.loop-incoming.left.now c.args.arriving.now c.loop-incoming.arriving_left.now c.in-Some-first.existing.now c.in-Some.incoming.now c.args.theta c.loop-incoming.entries.items c.hash-hash.result c.hash-known.result c.in-Some-first.ensures.value c.in-Some.ensures.value c.hash-hash.ensures c.hash-known.ensures (omega (arith, c.if-hash-theta.false)) r.1 r.2 c.loop-incoming.invariant.so_far)
    ])

pub loop-incoming-preserved : goal.loop-incoming-preserved
loop-incoming-preserved g c =
    let left = c.loop-incoming.left.now in
    let right = c.loop-incoming.arriving_left.now in
    let key = g.E.SketchEntry.key in
    let merges = g.P.IntersectionMergePolicy.merges c.args.policy.now in
    let refuses = g.P.IntersectionMergePolicy.refuses c.args.policy.now in
    let keeps = g.met.P.IntersectionMergePolicy.keeps_hash c.args.policy.now in
    let more = fewer_than c.loop-incoming.entries.items c.in_ok-found.found in
    let on = shared_on key merges refuses keeps c.args.content.now left c.args.arriving.now right c.in-Some-first.existing.now c.in-Some.incoming.now c.args.theta c.loop-incoming.entries.items c.in_ok-found.found c.hash-hash.result c.hash-known.result c.number_if.result c.number_if-in-Some.result
    c.in-Some-first.ensures.value c.in-Some.ensures.value c.hash-hash.ensures c.hash-known.ensures (omega (arith, c.if-hash-theta.false)) c.number_if.ensures.value c.number_if-in-Some.ensures.value c.in_ok-found.ensures.combined c.loop-incoming.invariant.so_far in
    record {
      so_far = rw (behind left c.number_if.result, behind right c.number_if-in-Some.result, c.in_ok-push_found.ensures) on;
      some = rw c.in_ok-push_found.ensures (omega (arith, more, c.tick.ensures, c.loop-incoming.invariant.some));
      few = counted_few left right c.loop-incoming.compared c.tick.new.self c.hash-known.result c.hash-hash.result c.number_if.result c.number_if-in-Some.result c.tick.ensures (some_first left c.in-Some-first.existing.now c.in-Some-first.ensures.value) (some_first right c.in-Some.incoming.now c.in-Some.ensures.value) c.number_if.ensures.value c.number_if-in-Some.ensures.value c.number_if.ensures.small c.number_if-in-Some.ensures.small _ c.loop-incoming.invariant.few;
    }

pub returns-clause-all : goal.returns-clause-all
returns-clause-all g c =
    let right = c.loop-incoming.arriving_left.now in
    let key = g.E.SketchEntry.key in
    let merges = g.P.IntersectionMergePolicy.merges c.args.policy.now in
    let refuses = g.P.IntersectionMergePolicy.refuses c.args.policy.now in
    let keeps = g.met.P.IntersectionMergePolicy.keeps_hash c.args.policy.now in
    let left = c.loop-incoming.left.now in
    shared_end key merges refuses keeps c.args.content.now left c.args.arriving.now right c.args.theta c.loop-incoming.entries.items c.loop-incoming.invariant.so_far
    (elim c.match-first.branch [
      | in_default w ↦ end_arriving key merges refuses keeps left right c.args.theta (no_first (λ r. r.now) c.first.result right w.in_default.not-Some c.first.ensures.value)
      | in-Some+in_default-first w ↦ end_retained key merges refuses keeps left right c.args.theta (no_first (λ r. r.now) w.first-in-Some.result left w.in_default-first.not-Some w.first-in-Some.ensures.value)
      | in-Some+in-Some-first+then-hash-theta w ↦ end_past key merges refuses keeps c.args.arriving.now left right w.in-Some.incoming.now c.args.theta w.in-Some.ensures.value c.loop-incoming.invariant.so_far.incoming (rw (← w.hash-hash.ensures) (omega (arith, w.if-hash-theta.true)))
    ])
