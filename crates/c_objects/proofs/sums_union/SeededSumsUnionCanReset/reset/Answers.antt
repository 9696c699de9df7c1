use Rattle.std.proofs.Common.{refl}
use Rattle.c_objects.proofs.Summed.{bare_union}
use Rattle.c_objects.proofs.sums_union.SeededSumsUnionCanReset.reset.Goals as goal

pub returns : goal.returns
returns c = let e = c.reset.ensures in (refl, refl, e.after, λ mode k start enough starts. bare_union mode _ k start _ (e.given k start enough starts))
