use Rattle.std.proofs.Common.{refl, ap, ◌∙◌}
use Rattle.c_objects.specs.Status.{status_of}
use Rattle.c_objects.specs.Sums.{sums_mode}
use Rattle.c_objects.proofs.Summed.{value_given, none_given}
use Rattle.c_objects.proofs.sums.add_at_hash.Goals as goal

pub returns-in-Ok : goal.returns-in-Ok
returns-in-Ok c =
    let e = c.in-Ok.ensures in
    ((refl, ap (λ p. p.mode) e.same_policy), (λ ok. (e.nonempty, e.after, e.refused, value_given (sums_mode c.args.sums.now) c.args.hash c.args.value _ _ e.given)), (λ failed. absurd (failed refl)))

pub returns-in-Err : goal.returns-in-Err
returns-in-Err c =
    let e = c.in-Err.ensures in (
      (refl, ap (λ p. p.mode) e.same_policy),
      λ ok. absurd (c.status_of.ensures.refused ok),
      λ failed. ((c.in-Err.error, c.status_of.ensures.status ∙ ap status_of c.kind.ensures, e.refused), e.err_empty, e.err, none_given _ _ e.err_given),
    )
