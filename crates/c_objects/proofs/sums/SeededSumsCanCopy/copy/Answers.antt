use Rattle.std.proofs.Common.{refl, ap}
use Rattle.c_objects.proofs.Summed.{none_given}
use Rattle.c_objects.proofs.sums.SeededSumsCanCopy.copy.Goals as goal

pub returns-in-Ok-clause-copied : goal.returns-in-Ok-clause-copied
returns-in-Ok-clause-copied c = let e = c.in-Ok.ensures in ((refl, ap (λ p. p.mode) e.same_policy), e.empty, e.copied, none_given _ _ e.given)
