use Rattle.std.proofs.Common.{sym, ◌∙◌, append_assoc, append-nil}
use Rattle.std.proofs.lemmas.Str.{IsUtf8-past_char}
use Rattle.keys_reports.specs.Names.{line_char}
use Rattle.keys_reports.proofs.Respellings.{respelled_empty, respelled_step}
use Rattle.keys_reports.proofs.names.escaped_name.Goals as goal

pub loop-c-preserved : goal.loop-c-preserved
loop-c-preserved g c =
    let was = c.loop-c.invariant in
    (IsUtf8-past_char _ _ c.in-Some.c was.0 c.in-Some.ensures.steps.0, rw (c.in_ok-put_line_char.ensures, append_assoc) (rw (respelled_step line_char _ _ c.in-Some.c was.0 c.in-Some.ensures.steps.0) at was.1))

pub returns : goal.returns
returns g c = sym (append-nil _) ∙ rw (respelled_empty line_char _ c.in-None.ensures.steps.0.0) at c.loop-c.invariant.1
