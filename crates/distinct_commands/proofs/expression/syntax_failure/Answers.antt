use Rattle.std.proofs.Common.{rules, ◌≡◌, ◌∙◌, true, false, sym, ap, string_bytes}
use denote.Enum.Bare.{sameb}
use Rattle.expression_text.specs.contracts.fault.Reason.{the_type}
use Rattle.expression_text.specs.declared.fault.Reason.TheVariants.{Memory}
use Rattle.distinct_commands.proofs.expression.syntax_failure.Goals as goal

pub returns-in-Ok : goal.returns-in-Ok
returns-in-Ok c =
    let copied : string_bytes c.in-Ok.text ≡ c.args.text.now = search rules in
    (copied, c.requires (λ memory. let both : false ≡ true = sym c.if-eq.false ∙ c.eq.ensures ∙ ap (λ r. sameb the_type r Memory) memory in absurd (cc)))
