use Rattle.std.proofs.Common.{rules, of_calls, refl}
use Rattle.std.proofs.lemmas.Result.{IfOk-weaker}
use Rattle.core_compact.specs.Mapped.{made_of_each}
use Rattle.tests_sketches.proofs.mapped.mark_all.Goals as goal

pub returns : goal.returns
returns g c =
    IfOk-weaker c.map_retained_entries.result _ _
    (λ s ran. made_of_each _ (λ h. record { hash = h; summary = c.args.mark }) _ _ _ _ _ (λ x y next called. search (of_calls, rules)) refl ran.1)
    c.map_retained_entries.ensures.entries
