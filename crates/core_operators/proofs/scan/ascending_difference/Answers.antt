use Rattle.std.proofs.Common.{◌∙◌, sym, arith}
use Rattle.core_operators.proofs.Halving.{few_in_all}
use Rattle.core_operators.proofs.scan.ascending_difference.Goals as goal

pub returns-then-is_much_longer-clause-compared : goal.returns-then-is_much_longer-clause-compared
returns-then-is_much_longer-clause-compared g c =
    let few = few_in_all _ _ _ _ c.is_much_longer.ensures.fits (sym c.is_much_longer.ensures.value ∙ c.if-is_much_longer.true) c.push_lacking.ensures.compared in
    omega (arith, few)
