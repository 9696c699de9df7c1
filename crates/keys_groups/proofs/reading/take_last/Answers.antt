use mathlib.Core.Bool.{false≢true}
use Rattle.std.proofs.Common.{sym, ap, ◌∙◌}
use Rattle.std.specs.Prelude.{◌==◌}
use Rattle.keys_groups.proofs.TakenLines.{one_last}
use Rattle.keys_groups.proofs.reading.take_last.Goals as goal

pub returns-clause-taken : goal.returns-clause-taken
returns-clause-taken g c = λ before grouped.
    one_last c.args.grouping before c.args.line.now c.args.groups.now.entries.items c.add_line.new.self.entries.items (λ none. absurd (false≢true (sym c.if-is_empty.false ∙ c.is_empty.ensures ∙ ap (λ n. n == 0) none))) grouped c.in_ok-add_line.ensures.added
