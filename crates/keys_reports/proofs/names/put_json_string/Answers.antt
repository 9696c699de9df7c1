use Rattle.std.proofs.Common.{sym, ◌∙◌, append_assoc, append-nil}
use Rattle.std.proofs.lemmas.Str.{IsUtf8-past_char}
use Rattle.keys_reports.specs.Names.{json_char}
use Rattle.keys_reports.proofs.Respellings.{respelled_empty, respelled_step}
use Rattle.keys_reports.proofs.names.put_json_string.Goals as goal

pub loop-c-preserved : goal.loop-c-preserved
loop-c-preserved g c =
    let was = c.loop-c.invariant in
    (IsUtf8-past_char _ _ c.in-Some.c was.0 c.in-Some.ensures.steps.0, rw (c.in_ok-put_json_char.ensures, append_assoc) (rw (respelled_step json_char _ _ c.in-Some.c was.0 c.in-Some.ensures.steps.0) at was.1))

pub returns : goal.returns
returns g c =
    let whole = sym (append-nil _) ∙ rw (respelled_empty json_char _ c.in-None.ensures.steps.0.0) at c.loop-c.invariant.1 in
    rw (c.in_ok-push_str-2.ensures.bytes, whole) (simp append_assoc)
