use Rattle.std.proofs.Common.{◌∙◌, sym, arith}
use Rattle.core_operators.proofs.Halving.{few_in_all}
use Rattle.core_operators.proofs.share.shared_entries.Goals as goal

pub returns-then-is_much_longer-clause-compared : goal.returns-then-is_much_longer-clause-compared
returns-then-is_much_longer-clause-compared g c =
    let few = few_in_all _ _ _ _ c.is_much_longer.ensures.fits (sym c.is_much_longer.ensures.value ∙ c.if-is_much_longer.true) c.shared_by_halves.ensures.compared in
    omega (arith, few)

pub returns-then-is_much_longer-2-clause-compared : goal.returns-then-is_much_longer-2-clause-compared
returns-then-is_much_longer-2-clause-compared g c =
    let few = few_in_all _ _ _ _ c.is_much_longer-2.ensures.fits (sym c.is_much_longer-2.ensures.value ∙ c.if-is_much_longer-2.true) c.shared_by_halves-then-is_much_longer-2.ensures.compared in
    omega (arith, few)
