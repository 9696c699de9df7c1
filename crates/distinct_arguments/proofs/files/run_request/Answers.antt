use Rattle.std.proofs.Common.{◌≡◌, true, false, sym, ◌∙◌, subst}
use Rattle.distinct_arguments.specs.Settings.{options_of}
use Rattle.distinct_arguments.specs.Words.{words_of}
use Rattle.distinct_arguments.specs.Arguments.{has_one_expression, lacks_value, broken, listed_action}
use Rattle.distinct_arguments.specs.Faults.{ParsesAs, ReportsMistake}
use Rattle.distinct_arguments.proofs.Rules.{third_of, broken_at, unbroken_at}
use Rattle.distinct_arguments.proofs.files.run_request.Goals as goal

pub returns-in-Some : goal.returns-in-Some
returns-in-Some c =
    let one : has_one_expression c.args.command (words_of c.args.files.now) ≡ true = sym c.has_one_expression.ensures ∙ c.if-not-has_one_expression.false in
    let none : lacks_value c.args.command (options_of c.args.options) ≡ false = sym c.lacks_value.ensures ∙ c.if-lacks_value.false in
    subst (ReportsMistake c.in-Some.fault) (sym (third_of _ _ _ _ _ one none))
    (broken_at c.in-Some.fault (broken c.args.command (options_of c.args.options)) (listed_action c.args.command (options_of c.args.options) (words_of c.args.files.now)) c.in-Some.ensures)

pub returns-in-None : goal.returns-in-None
returns-in-None c =
    let one : has_one_expression c.args.command (words_of c.args.files.now) ≡ true = sym c.has_one_expression.ensures ∙ c.if-not-has_one_expression.false in
    let none : lacks_value c.args.command (options_of c.args.options) ≡ false = sym c.lacks_value.ensures ∙ c.if-lacks_value.false in
    subst (ParsesAs c.listed_request.result)
    (unbroken_at (broken c.args.command (options_of c.args.options)) (listed_action c.args.command (options_of c.args.options) (words_of c.args.files.now)) c.in-None.ensures ∙ sym (third_of _ _ _ _ _ one none))
    c.listed_request.ensures
