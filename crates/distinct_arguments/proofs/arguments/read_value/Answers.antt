use Rattle.std.proofs.Common.{map, string_bytes, None, ap, ◌∙◌, subst, arith}
use Rattle.std.proofs.lemmas.List.{length-map}
use Rattle.distinct_arguments.specs.Settings.{with_value}
use Rattle.distinct_arguments.specs.Arguments.{Awaiting, command_action}
use Rattle.distinct_arguments.specs.Faults.{options_of, ReportsMistake}
use Rattle.distinct_arguments.proofs.Meanings.{accepted_at, refused_at, missing_at, value_action}
use Rattle.distinct_arguments.proofs.arguments.read_value.Goals as goal

pub returns-in_default : goal.returns-in_default
returns-in_default c =
    let words = map (λ word. string_bytes word) c.args.words.now in
    let awaiting : Awaiting = record { option = c.args.option; name = c.args.name.now } in
    subst (ReportsMistake c.quoting.result) (missing_at c.args.command (options_of c.args.options) awaiting words (length-map c.args.words.now (λ word. string_bytes word) ∙ c.in_default.ensures.cases)) c.quoting.ensures

pub returns-in-Ok : goal.returns-in-Ok
returns-in-Ok c =
    let options = options_of c.args.options in
    let words = map (λ word. string_bytes word) c.args.words.now in
    let rest = map (λ word. string_bytes word) c.in-Some.behind.now in
    let awaiting : Awaiting = record { option = c.args.option; name = c.args.name.now } in (
      omega (arith, c.in-Some.ensures.cases.1),
      accepted_at (with_value options c.args.option c.args.name.now c.as_str.result.now) c.in-Ok.changed (λ next. command_action c.args.command next None rest) c.in-Ok.ensures
          ∙ value_action c.args.command options awaiting words (string_bytes c.in-Some.value.now) c.as_str.result.now rest (ap (map (λ word. string_bytes word)) c.in-Some.ensures.cases.0) c.as_str.ensures.value,
    )

pub returns-in-Err : goal.returns-in-Err
returns-in-Err c =
    let options = options_of c.args.options in
    let words = map (λ word. string_bytes word) c.args.words.now in
    let rest = map (λ word. string_bytes word) c.in-Some.behind.now in
    let awaiting : Awaiting = record { option = c.args.option; name = c.args.name.now } in
    subst (ReportsMistake c.in-Err.fault)
    (value_action c.args.command options awaiting words (string_bytes c.in-Some.value.now) c.as_str.result.now rest (ap (map (λ word. string_bytes word)) c.in-Some.ensures.cases.0) c.as_str.ensures.value)
    (refused_at (with_value options c.args.option c.args.name.now c.as_str.result.now) c.in-Err.fault (λ next. command_action c.args.command next None rest) c.in-Err.ensures)
