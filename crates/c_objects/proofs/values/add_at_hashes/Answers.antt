use Rattle.std.proofs.Common.{◌≡◌, ◌<◌, length, refl, subst, ◌∙◌, arith}
use Rattle.c_objects.proofs.Summed.{turn_given}
use Rattle.c_objects.specs.Sums.{sums_sketch, sums_mode}
use Rattle.c_objects.proofs.Turns.{IsInTurn, none_yet, all_added, one_refused, one_more}
use Rattle.c_objects.proofs.values.add_at_hashes.Goals as goal

pub loop-at-init : goal.loop-at-init
loop-at-init c = record { same = (refl, refl); turn = none_yet _ _ _ _ }

pub returns-then-status-ne-OK : goal.returns-then-status-ne-OK
returns-then-status-ne-OK c =
    let one = c.add_at_hash-status.ensures in let refused = one.2 c.if-status-ne-OK.true in let first = c.loop-at-test.true in
    let second : c.loop-at.at < length c.args.values.now = omega (arith, first, c.if-hashes-values.false) in
    let kept = c.loop-at.invariant.same in
    let turn = one_refused _ _ _ _ _ _ (sums_sketch c.add_at_hash-status.new.sums) c.loop-at.invariant.turn first second _ kept.1 _ c.if-status-ne-OK.true refused.0 (refused.1, refused.2, refused.3) in
    ((λ same. ((one.0.0 ∙ kept.0, one.0.1 ∙ kept.1), turn, λ ok. absurd (c.if-status-ne-OK.true ok))), (λ differ. absurd (differ c.if-hashes-values.false)))

pub loop-at-preserved : goal.loop-at-preserved
loop-at-preserved c =
    let first = c.loop-at-test.true in let second : c.loop-at.at < length c.args.values.now = omega (arith, first, c.if-hashes-values.false) in
    let one = c.add_at_hash-status.ensures in let kept = c.loop-at.invariant.same in
    let turn = one_more _ _ _ _ _ _ (sums_sketch c.add_at_hash-status.new.sums) c.loop-at.invariant.turn first second _ kept.1 (one.1 c.if-status-ne-OK.false) in
    record { same = (one.0.0 ∙ kept.0, one.0.1 ∙ kept.1); turn = turn }

pub returns : goal.returns
returns c =
    let done : c.loop-at.at ≡ length c.args.hashes.now = omega (arith, c.loop-at-test.false, c.loop-at.auto.at-end) in
    let turn = subst (λ n. IsInTurn (sums_mode c.args.sums.now) c.args.hashes.now c.args.values.now (sums_sketch c.args.sums.now) n (sums_sketch c.loop-at.sums)) done c.loop-at.invariant.turn in
    let all = all_added _ _ _ _ _ turn in
    ((λ same. (c.loop-at.invariant.same, all, turn_given _ _ _ _ _ _ _ all)), (λ differ. absurd (differ c.if-hashes-values.false)))
