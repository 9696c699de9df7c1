use Rattle.std.proofs.Common.{ℕ, List, refl, sym, ap, subst, ◌∙◌}
use mathlib.Core.Bool.{false≢true}
use Rattle.core_compact.specs.CompactState.{Compact}
use Rattle.keys_groups.specs.Names.{texts_of}
use Rattle.keys_joins.specs.Tables.{AreTablesOf}
use Rattle.keys_joins.specs.Evaluated.{evaluated_group}
use Rattle.keys_joins.proofs.EvaluatedTexts.{no_entries}
use Rattle.keys_joins.proofs.evaluated.EvaluatedGroupsSketchedGroups.take_group.Goals as goal

pub returns-in_default-clause-next : goal.returns-in_default-clause-next
returns-in_default-clause-next c = λ sketch names listed. listed.6 ∙ no_entries c.args.self.now.names.entries (λ some. absurd (false≢true (c.in_default.ensures.variant.1 some)))

pub returns-clause-next : goal.returns-clause-next
returns-clause-next c = λ sketch names listed.
    let groups = c.args.self.now in
    let name = c.in-Some.name.items in
    let files = listed.0 in
    let result : List ℕ → Compact ℕ = evaluated_group groups.seed groups.lg_k listed.1 files in
    let have = subst (AreTablesOf files) (sym c.as_slice.ensures.value) listed.2 in (
      texts_of c.pop_first.new.self.entries,
      listed.6 ∙ ap (λ entries. texts_of entries) c.in-Some.ensures.removal,
      c.in_ok-sketch.ensures.sketch files listed.1 have listed.3 listed.4 ∙ ap result c.as_slice-2.ensures.value ∙ sym (ap (λ (f : List ℕ → Compact ℕ). f name) listed.5),
      (files, listed.1, listed.2, listed.3, listed.4, listed.5, refl),
    )
