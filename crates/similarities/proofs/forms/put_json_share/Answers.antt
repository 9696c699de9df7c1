use Rattle.std.proofs.Common.{◌++◌, append_assoc, ap, ◌∙◌}
use Rattle.std.proofs.lemmas.Result.{on_ok_weaker}
use Rattle.std.specs.Prelude.{codes}
use Rattle.similarities.specs.Forms.{bounded_text}
use Rattle.similarities.proofs.forms.put_json_share.Goals as goal

pub returns : goal.returns
returns g c =
    let bounded = bounded_text (codes ",\"lower\":") (codes ",\"upper\":") c.args.similarity in
    on_ok_weaker c.put_bounded.result
    (λ is. is ∙ ap (λ text. text ++ bounded) c.in_ok-push_str.ensures.bytes ∙ append_assoc _ (codes "\"similarity\":") bounded) c.put_bounded.ensures
