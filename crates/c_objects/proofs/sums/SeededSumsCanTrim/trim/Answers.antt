use Rattle.std.proofs.Common.{refl, ap, arith}
use Rattle.tuple_sketches.specs.Streams.{given_numbers}
use Rattle.c_objects.proofs.Summed.{none_given, memory_asked}
use Rattle.c_objects.proofs.sums.SeededSumsCanTrim.trim.Goals as goal

pub returns-in-Ok : goal.returns-in-Ok
returns-in-Ok c =
    let e = c.in-Ok.ensures in (
      (refl, ap (λ p. p.mode) e.same_policy),
      e.same_emptiness,
      λ ok. e.after,
      λ failed. absurd (failed refl),
      λ ok mode lg_k start seed stream is. e.given lg_k start seed (given_numbers mode stream) is,
      λ failed. absurd (failed refl),
    )

pub returns-in-Err : goal.returns-in-Err
returns-in-Err c =
    let e = c.in-Err.ensures in (
      (refl, ap (λ p. p.mode) e.same_policy),
      e.same_emptiness,
      λ ok. absurd (omega (arith, ok)),
      λ failed. (refl, e.err, memory_asked _ _ e.refused),
      λ ok. absurd (omega (arith, ok)),
      λ failed. none_given _ _ e.err_given,
    )
