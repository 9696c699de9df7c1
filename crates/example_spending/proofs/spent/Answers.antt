use Rattle.std.proofs.Common.{◌≤◌, length, Some, sym, subst, arith, refl}
use Rattle.std.proofs.Math.Seq.{take_all}
use Rattle.tuple_sketches.specs.Streams.{IsUnionOf, unsigned_sum}
use Rattle.tuple_sketches.proofs.GivenValues.{no_values}
use Rattle.tuple_sketches.proofs.Sums.{sums_retained}
use Rattle.example_spending.proofs.spent.Goals as goal

pub loop-purchases-init : goal.loop-purchases-init
loop-purchases-init c = subst (IsUnionOf _ _ _ _) (sym (no_values (Some 0) (unsigned_sum 64))) (rw (c.lg_k.ensures, c.new.ensures) at c.in_ok-union.ensures.given)

pub returns : goal.returns
returns c =
    let end : length c.args.days.now ≤ c.loop-purchases.purchases-index = omega (arith, c.loop-purchases-test.false) in
    sums_retained _ _ _ _ (c.in_ok-sums.ensures.kmin _ _ (rw take_all at c.loop-purchases.invariant) refl)
