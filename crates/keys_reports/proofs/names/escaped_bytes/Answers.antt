use Rattle.std.proofs.Common.{◌≡◌, string_bytes, ap, sym, subst, ◌∙◌}
use Rattle.std.specs.Prelude.{IfOk}
use Rattle.keys_reports.specs.Names.{escaped_name}
use Rattle.keys_reports.proofs.OddNames.{escaped_others, escaped_text}
use Rattle.keys_reports.proofs.names.escaped_bytes.Goals as goal

pub returns-in-Ok : goal.returns-in-Ok
returns-in-Ok g c =
    subst (λ xs. IfOk c.escaped_name.result (λ text. string_bytes text ≡ xs))
    (ap escaped_name c.in-Ok.ensures.cases.0 ∙ sym (escaped_text c.args.name.now c.in-Ok.ensures.cases.1)) c.escaped_name.ensures

pub returns-in-Err : goal.returns-in-Err
returns-in-Err g c =
    subst (λ xs. IfOk c.spelled_bytes.result (λ text. string_bytes text ≡ xs)) (sym (escaped_others c.args.name.now c.in-Err.ensures.cases.0)) c.spelled_bytes.ensures
