use Rattle.std.proofs.Common.{rules, ◌≡◌, ◌++◌, None, sym, ap, ◌∙◌}
use Rattle.std.proofs.lemmas.List.{append-nil}
use Rattle.core_table.proofs.Marks.{filled-under}
use Rattle.core_table.proofs.answering.entries_below.Goals as goal

pub returns : goal.returns
returns g c =
    let none : c.first_in.result.0 ≡ None = search rules in
    let reported = ap (λ xs. c.loop-entry.clones.items ++ xs) (sym (c.first_in.ensures.none none)) ∙ c.loop-entry.invariant.reported in
    record { listed = sym (append-nil c.loop-entry.clones.items) ∙ reported ∙ filled-under g.E.SketchEntry.key g.E.PathEntry.content c.args.theta c.args.slots.now }
