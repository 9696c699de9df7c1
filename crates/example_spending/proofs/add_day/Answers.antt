use Rattle.std.proofs.Common.{◌≤◌, length, Some, sym, ap, ◌∙◌, subst, arith}
use Rattle.std.proofs.Math.Seq.{take_all}
use Rattle.std.proofs.lemmas.List.{map_more}
use Rattle.tuple_sketches.specs.Streams.{IsSketchOf, IsUnionOf, given_sums, unsigned_sum}
use Rattle.tuple_sketches.proofs.GivenValues.{no_values, one_more}
use Rattle.tuple_sketches.proofs.Sums.{sums_united}
use Rattle.example_spending.proofs.add_day.Goals as goal

pub loop-purchase-init : goal.loop-purchase-init
loop-purchase-init c = subst (IsSketchOf _ _ _ _) (sym (no_values (Some 0) (unsigned_sum 64))) (rw (c.lg_k.ensures, c.new.ensures) at c.in_ok-sketch.ensures.given)

pub loop-purchase-preserved : goal.loop-purchase-preserved
loop-purchase-preserved c =
    subst (IsSketchOf _ _ _ _) (sym (ap given_sums (map_more _ _ _ _ c.loop-purchase-test.true) ∙ one_more (Some 0) (unsigned_sum 64) _ _)) (c.in_ok-update.ensures.given _ _ _ _ c.loop-purchase.invariant)

pub returns : goal.returns
returns c before is =
    let end : length c.args.purchases.now ≤ c.loop-purchase.purchase-index = omega (arith, c.loop-purchase-test.false) in
    subst (IsUnionOf _ _ _ _) (sums_united _ _) (c.in_ok-update-2.ensures.given _ _ _ _ _ is (c.as_view.ensures.part _ _ _ _ (rw take_all at c.loop-purchase.invariant)))
