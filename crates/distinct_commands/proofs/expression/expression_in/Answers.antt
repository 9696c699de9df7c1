use Rattle.std.proofs.Common.{subst}
use Rattle.expression_text.specs.Grammar.{SpellsNothing}
use Rattle.distinct_commands.proofs.expression.expression_in.Goals as goal

pub syntax_failure-requires : goal.syntax_failure-requires
syntax_failure-requires c = λ other. subst SpellsNothing c.as_bytes.ensures.value (c.in-Err.ensures.unspelled other)
