use Rattle.std.proofs.Common.{ℕ, ◌≡◌, length, List, [], ◌∷◌, ◌++◌, sym, ap, ◌∙◌, append_assoc, append-nil, arith}
use Rattle.core_compact.specs.CompactState.{Compact}
use Rattle.keys_joins.specs.Evaluated.{groups_in}
use Rattle.keys_joins.proofs.Lookups.{first_table, no_tables_left}
use Rattle.keys_joins.proofs.evaluated.groups_in.Goals as goal

pub loop-table-init : goal.loop-table-init
loop-table-init c = λ files are. (
  files,
  are,
  ap (λ (items : List (Compact ℕ)). items ++ groups_in c.args.seed files c.args.name.now) (sym c.new-sketches.ensures.items),
)

pub loop-table-preserved : goal.loop-table-preserved
loop-table-preserved c = λ files are.
    let seed = c.args.seed in
    let name = c.args.name.now in
    let items = c.loop-table.sketches.items in
    let so_far = c.loop-table.invariant files are in
    let first = first_table so_far.0 c.loop-table.left.now c.in-Some.table.now c.in-Some.more.now c.in-Some.ensures.cases.0 so_far.1 in
    let rest = groups_in seed first.more name in (
      first.more,
      first.others,
      so_far.2 ∙ ap (λ files. items ++ groups_in seed files name) first.parted
          ∙ ap (λ (s : Compact ℕ). items ++ s ∷ rest) (sym (c.in_ok-sketch.ensures.sketch first.file first.has))
          ∙ sym (append_assoc items (c.in_ok-sketch.sketch ∷ []) rest)
          ∙ ap (λ (all : List (Compact ℕ)). all ++ rest) (sym c.in_ok-push.ensures.items),
    )

pub returns-clause-all : goal.returns-clause-all
returns-clause-all c = λ files are.
    let seed = c.args.seed in
    let name = c.args.name.now in
    let so_far = c.loop-table.invariant files are in
    let none : length c.loop-table.left.now ≡ 0 = grind (arith, c.in_default.ensures.cases, c.in_default.ensures.variant, c.in_default.not-Some) in
    let no_files = no_tables_left so_far.0 c.loop-table.left.now none so_far.1 in
    sym (so_far.2 ∙ ap (λ files. c.loop-table.sketches.items ++ groups_in seed files name) no_files ∙ append-nil c.loop-table.sketches.items)
