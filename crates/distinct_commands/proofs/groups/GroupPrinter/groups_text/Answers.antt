use Rattle.std.proofs.Common.{ℕ, ◌∷◌, ◌++◌, Option, sym, ap, subst, ◌∙◌}
use Rattle.keys_groups.proofs.NamedLines.{line_added, all_lines}
use Rattle.distinct_arguments.specs.Faults.{options_of}
use Rattle.distinct_commands.specs.Groups.{counted_names, group_line, groups_text, IsNextCounted}
use Rattle.distinct_commands.specs.Ranked.{first_items}
use Rattle.distinct_commands.proofs.FirstItems.{first_of_none, none_first, one_first}
use Rattle.distinct_commands.proofs.groups.GroupPrinter.groups_text.Goals as goal

pub loop-init : goal.loop-init
loop-init g c = record {
  sound = c.requires.sound;
  printed = λ sketch names left.
      let options = options_of c.args.self.options.now in
      (names, left, ap (λ items. items ++ groups_text c.args.self.listing options sketch (first_items options.most (counted_names options sketch names))) (sym c.new-printed.ensures.items));
}

pub loop-preserved : goal.loop-preserved
loop-preserved g c = record {
  sound = c.next_counted.ensures.sound;
  printed = λ sketch names all_left.
      let options = options_of c.args.self.options.now in
      let listing = c.args.self.listing in
      let room = c.loop.room in
      let so_far = c.loop.invariant.printed sketch names all_left in
      let next = subst (IsNextCounted (g.G.SketchedGroups.lists sketch) options sketch so_far.0 c.next_counted.new.groups) c.in-Ok-Some.field-0-is (c.in-Ok-Some.ensures.next sketch so_far.0 so_far.1) in
      let name = c.in-Ok-Some.group.name.items in
      let counted = counted_names options sketch in
      let all = groups_text listing options sketch (first_items options.most (counted names)) in
      let line = c.in_ok-line-in-Ok-Some.ensures.line ∙ ap (λ text. group_line listing options text c.in-Ok-Some.group.sketch) c.as_slice.ensures.value ∙ ap (group_line listing options name) next.2 in
      let parted = ap (first_items room) next.1 ∙ one_first room name (counted next.0) (sym c.is_full.ensures ∙ c.if-is_full.false)
      ∙ ap (λ (more : Option ℕ). name ∷ first_items more (counted next.0)) (sym c.one_less-room.ensures) in (
        next.0,
        next.3,
        line_added (λ text. group_line listing options text (sketch text)) all c.loop.printed.items c.in_ok-line-in-Ok-Some.line.items
            (first_items room (counted so_far.0)) (first_items c.one_less-room.result (counted next.0)) name so_far.2 parted line
            ∙ ap (λ items. items ++ groups_text listing options sketch (first_items c.one_less-room.result (counted next.0)))
            (sym (c.in_ok-extend_from_slice-in-Ok-Some.ensures.items ∙ ap (λ bytes. c.loop.printed.items ++ bytes) c.as_slice-in-Ok-Some.ensures.value)),
      );
}

pub returns-in-Ok-None-clause-printed : goal.returns-in-Ok-None-clause-printed
returns-in-Ok-None-clause-printed g c = λ sketch names all_left.
    let options = options_of c.args.self.options.now in
    let counted = counted_names options sketch in
    let so_far = c.loop.invariant.printed sketch names all_left in
    let none = subst (IsNextCounted (g.G.SketchedGroups.lists sketch) options sketch so_far.0 c.next_counted.new.groups) c.in-Ok-None.field-0-is (c.in-Ok-None.ensures.next sketch so_far.0 so_far.1) in
    all_lines (λ text. group_line c.args.self.listing options text (sketch text))
    (groups_text c.args.self.listing options sketch (first_items options.most (counted names))) c.loop.printed.items
    (first_items c.loop.room (counted so_far.0)) so_far.2 (first_of_none c.loop.room (counted so_far.0) none)

pub returns-then-is_full-clause-printed : goal.returns-then-is_full-clause-printed
returns-then-is_full-clause-printed g c = λ sketch names all_left.
    let options = options_of c.args.self.options.now in
    let counted = counted_names options sketch in
    let so_far = c.loop.invariant.printed sketch names all_left in
    all_lines (λ text. group_line c.args.self.listing options text (sketch text))
    (groups_text c.args.self.listing options sketch (first_items options.most (counted names))) c.loop.printed.items
    (first_items c.loop.room (counted so_far.0)) so_far.2 (none_first c.loop.room (counted so_far.0) (sym c.is_full.ensures ∙ c.if-is_full.true))
