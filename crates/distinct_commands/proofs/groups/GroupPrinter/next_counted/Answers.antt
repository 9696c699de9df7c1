use Rattle.std.proofs.Common.{refl, sym, ap, subst, ◌∙◌}
use Rattle.std.specs.List.{filter}
use Rattle.keys_groups.specs.Groups.{IsFirst}
use Rattle.distinct_arguments.specs.Faults.{options_of}
use Rattle.distinct_commands.specs.Groups.{group_estimate}
use Rattle.distinct_commands.specs.Ranked.{reaches}
use Rattle.distinct_commands.specs.Texts.{report_by}
use Rattle.distinct_commands.proofs.GroupLines.{name_kept, name_dropped}
use Rattle.distinct_commands.proofs.groups.GroupPrinter.next_counted.Goals as goal

pub loop-init : goal.loop-init
loop-init g c = record {
  sound = c.requires.sound;
  next = λ sketch names left. (names, left, refl);
}

pub loop-preserved : goal.loop-preserved
loop-preserved g c = record {
  sound = c.take_group.ensures.sound;
  next = λ sketch names all_left.
      let options = options_of c.args.self.options.now in
      let so_far = c.loop.invariant.next sketch names all_left in
      let next = subst (IsFirst (g.G.SketchedGroups.lists sketch) sketch so_far.0 c.take_group.new.self) c.in-Ok-Some.field-0-is (c.in-Ok-Some.ensures.next sketch so_far.0 so_far.1) in
      let name = c.in-Ok-Some.group.name.items in (
        next.0,
        next.3,
        so_far.2 ∙ name_dropped (λ text. reaches options.least (group_estimate options sketch text)) so_far.0 next.0 name next.1
            (ap (λ s. reaches options.least (report_by options s).estimate) (sym next.2) ∙ sym c.is_counted.ensures ∙ c.if-is_counted.false),
      );
}

pub returns-then-is_counted-clause-next : goal.returns-then-is_counted-clause-next
returns-then-is_counted-clause-next g c = λ sketch names all_left.
    let options = options_of c.args.self.options.now in
    let so_far = c.loop.invariant.next sketch names all_left in
    let next = subst (IsFirst (g.G.SketchedGroups.lists sketch) sketch so_far.0 c.take_group.new.self) c.in-Ok-Some.field-0-is (c.in-Ok-Some.ensures.next sketch so_far.0 so_far.1) in
    let name = c.in-Ok-Some.group.name.items in (
      next.0,
      so_far.2 ∙ name_kept (λ text. reaches options.least (group_estimate options sketch text)) so_far.0 next.0 name next.1
          (ap (λ s. reaches options.least (report_by options s).estimate) (sym next.2) ∙ sym c.is_counted.ensures ∙ c.if-is_counted.true),
      next.2,
      next.3,
    )

pub returns-in-Ok-None-clause-next : goal.returns-in-Ok-None-clause-next
returns-in-Ok-None-clause-next g c = λ sketch names all_left.
    let options = options_of c.args.self.options.now in
    let so_far = c.loop.invariant.next sketch names all_left in
    let none = subst (IsFirst (g.G.SketchedGroups.lists sketch) sketch so_far.0 c.take_group.new.self) c.in-Ok-None.field-0-is (c.in-Ok-None.ensures.next sketch so_far.0 so_far.1) in
    so_far.2 ∙ ap (filter (λ text. reaches options.least (group_estimate options sketch text))) none
