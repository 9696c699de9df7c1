use Rattle.std.proofs.Common.{Some, [], refl, sym, ap, ◌∙◌}
use Rattle.std.proofs.lemmas.List.{take_more_set}
use Rattle.keys_records.specs.Steps.{shown_end}
use Rattle.keys_records.specs.Stages.{rest_of}
use Rattle.keys_records.proofs.stage.finish.Goals as goal

pub returns-in-Ends-clause-ends : goal.returns-in-Ends-clause-ends
returns-in-Ends-clause-ends c = λ form.
    (ap (λ s. rest_of form s []) c.in-Reading.is ∙ ap shown_end (sym c.end.ensures ∙ c.in-Ends.is) ∙ ap Some (sym (take_more_set c.args.buf.now 0 10 c.requires.room)), refl)
