use Rattle.std.proofs.Common.{ℕ, List, [], ◌++◌, ◌∷◌, sym, ap, ◌∙◌, subst}
use Rattle.keys_groups.specs.Reading.{TakesLines}
use Rattle.keys_groups.specs.States.{AddsLine}
use Rattle.keys_groups.proofs.TakenLines.{takes_lacking, takes_block, first_more}
use Rattle.keys_groups.proofs.reading.take_block.Goals as goal

pub returns-in_default-clause-takes : goal.returns-in_default-clause-takes
returns-in_default-clause-takes g c = λ before grouped.
    let now = c.args.groups.now.entries.items in
    subst (TakesLines c.args.grouping before c.args.begun.now.items c.args.block.now now) (sym c.in_ok-extend_from_slice.ensures.items)
    (takes_lacking c.args.grouping before c.args.begun.now.items c.args.block.now now grouped c.in_default.ensures.none)

pub returns-clause-takes : goal.returns-clause-takes
returns-clause-takes g c = λ before grouped.
    let grouping = c.args.grouping in
    let front = c.args.begun.now.items in
    let line = front ++ c.in-Some.first.now in
    let old = c.args.groups.now.entries.items in
    let mid = c.add_line.new.self.entries.items in
    let new = c.take_lines.new.groups.entries.items in
    let added = subst (λ (text : List ℕ). AddsLine grouping text old mid) (c.as_slice.ensures.value ∙ c.in_ok-extend_from_slice-2.ensures.items) c.in_ok-add_line.ensures.added in
    takes_block grouping before front c.args.block.now c.in-Some.first.now c.in-Some.others.now c.in_ok-rest.rest.now c.extend_from_slice-3.new.self.items new
    c.in-Some.ensures.parts c.in-Some.ensures.line
    (c.in_ok-rest.ensures.leaves (before ++ line ∷ []) (first_more grouping before line old mid grouped added))
    c.in_ok-rest.ensures.lacks
    (c.in_ok-extend_from_slice-3.ensures.items ∙ ap (λ bs. bs ++ c.in_ok-rest.rest.now) c.clear.ensures.items)
