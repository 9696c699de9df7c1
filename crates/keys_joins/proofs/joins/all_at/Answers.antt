use Rattle.std.proofs.Common.{ℕ, ◌≡◌, length, List, [], ◌∷◌, ◌++◌, refl, sym, ap, ◌∙◌, append_assoc, append-nil, arith}
use Rattle.std.specs.Option.{option_copied}
use Rattle.core_compact.specs.CompactState.{Compact}
use Rattle.keys_joins.specs.Joins.{all_have, sketches_at}
use Rattle.keys_joins.proofs.Lookups.{first_table, found_at, missing_at, no_tables_left}
use Rattle.keys_joins.proofs.joins.all_at.Goals as goal

pub loop-table-init : goal.loop-table-init
loop-table-init c = λ files are. (
  files,
  are,
  refl,
  ap (λ (items : List (Compact ℕ)). items ++ sketches_at files c.args.name.now) (sym (c.in_ok-push.ensures.items ∙ ap (λ (items : List (Compact ℕ)). items ++ c.args.sketch ∷ []) c.new-sketches.ensures.items)),
)

pub loop-table-preserved : goal.loop-table-preserved
loop-table-preserved c = λ files are.
    let name = c.args.name.now in
    let items = c.loop-table.sketches.items in
    let so_far = c.loop-table.invariant files are in
    let first = first_table so_far.0 c.loop-table.left.now c.in-Some.table.now c.in-Some.more.now c.in-Some.ensures.cases.0 so_far.1 in
    let found = found_at name first.file first.more (option_copied c.sketch_of.result) c.in-Some-sketch_of.other.now (ap option_copied c.in-Some-sketch_of.is) (c.sketch_of.ensures ∙ first.has name) in
    let copy = c.in_ok-copy.copy in
    let rest = sketches_at first.more name in
    let copied : copy ≡ first.file.sketch name = c.in_ok-copy.ensures.ok ∙ found.1 in (
      first.more,
      first.others,
      so_far.2 ∙ ap (λ files. all_have files name) first.parted ∙ found.0,
      so_far.3 ∙ ap (λ files. items ++ sketches_at files name) first.parted
          ∙ ap (λ (s : Compact ℕ). items ++ s ∷ rest) (sym copied)
          ∙ sym (append_assoc items (copy ∷ []) rest)
          ∙ ap (λ (all : List (Compact ℕ)). all ++ rest) (sym c.in_ok-push-2.ensures.items),
    )

pub returns-in_default-sketch_of-clause-all : goal.returns-in_default-sketch_of-clause-all
returns-in_default-sketch_of-clause-all c = λ files are.
    let name = c.args.name.now in
    let so_far = c.loop-table.invariant files are in
    let first = first_table so_far.0 c.loop-table.left.now c.in-Some.table.now c.in-Some.more.now c.in-Some.ensures.cases.0 so_far.1 in
    so_far.2 ∙ ap (λ files. all_have files name) first.parted
    ∙ missing_at name first.file first.more (option_copied c.sketch_of.result) (ap option_copied c.in_default-sketch_of.is) (c.sketch_of.ensures ∙ first.has name)

pub returns-clause-all : goal.returns-clause-all
returns-clause-all c = λ files are.
    let name = c.args.name.now in
    let so_far = c.loop-table.invariant files are in
    let none : length c.loop-table.left.now ≡ 0 = grind (arith, c.in_default.ensures.cases, c.in_default.ensures.variant, c.in_default.not-Some) in
    let no_files = no_tables_left so_far.0 c.loop-table.left.now none so_far.1 in (
      so_far.2 ∙ ap (λ files. all_have files name) no_files,
      sym (so_far.3 ∙ ap (λ files. c.loop-table.sketches.items ++ sketches_at files name) no_files ∙ append-nil c.loop-table.sketches.items),
    )
