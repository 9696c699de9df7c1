use Rattle.std.proofs.Common.{◌≡◌, ℕ, Some, subst}
use Rattle.std.specs.Prelude.{slice_get}
use Rattle.std.proofs.lemmas.Result.{on_ok_weaker}
use Rattle.keys_sketches.specs.Keys.{new_state, with_line}
use Rattle.keys_groups.specs.Names.{texts_of}
use Rattle.keys_groups.specs.States.{Changes}
use Rattle.keys_groups.proofs.LinesInGroups.{added_new}
use Rattle.keys_groups.proofs.groups.Table.add_line.Goals as goal

pub returns-in-None-clause-added : goal.returns-in-None-clause-added
returns-in-None-clause-added c =
    let grouping = c.args.grouping in
    let line = c.args.line.now in
    let old = c.args.self.now.entries.items in
    let new = c.begin.new.self.entries.items in
    let absent = subst (λ es. (number : ℕ) → slice_get (texts_of es) number ≡ Some c.key_in-name.result.now → ⊥) c.as_slice.ensures.value c.in-None.ensures.absent in
    on_ok_weaker c.begin.result
    (λ changes.
    added_new grouping line old new (subst (λ name. (number : ℕ) → slice_get (texts_of old) number ≡ Some name → ⊥) c.key_in-name.ensures absent)
    (subst (λ name. Changes name (Some (with_line grouping.hashing (new_state grouping.hashing.seed grouping.lg_k) line)) old new) c.key_in-name.ensures changes))
    c.begin.ensures.begun
