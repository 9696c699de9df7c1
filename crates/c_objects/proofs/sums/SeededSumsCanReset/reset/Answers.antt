use Rattle.std.proofs.Common.{refl, ap}
use Rattle.tuple_sketches.specs.Streams.{given_numbers}
use Rattle.c_objects.proofs.Summed.{bare}
use Rattle.c_objects.proofs.sums.SeededSumsCanReset.reset.Goals as goal

pub returns : goal.returns
returns c =
    let e = c.reset.ensures in (refl, (refl, ap (λ p. p.mode) e.same_policy), e.empty, e.map, λ mode lg_k start seed stream is. bare mode lg_k start seed _ (e.given lg_k start seed (given_numbers mode stream) is))
