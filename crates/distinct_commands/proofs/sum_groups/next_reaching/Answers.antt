use Rattle.std.proofs.Common.{refl, sym, ap, subst, ◌∙◌}
use Rattle.std.specs.List.{filter}
use Rattle.keys_totals.specs.Totals.{IsNextTotal}
use Rattle.distinct_commands.specs.Ranked.{reaches}
use Rattle.distinct_commands.proofs.GroupLines.{name_kept, name_dropped}
use Rattle.distinct_commands.proofs.sum_groups.next_reaching.Goals as goal

pub loop-init : goal.loop-init
loop-init c = λ total names left. (names, left, refl)

pub loop-preserved : goal.loop-preserved
loop-preserved c = λ total names all_left.
    let least = c.args.least in
    let so_far = c.loop.invariant total names all_left in
    let next = subst (IsNextTotal total so_far.0 c.next_total.new.self) c.in-Some.is (c.next_total.ensures total so_far.0 so_far.1) in
    let name = c.in-Some.group.name.items in (
      next.0,
      next.3,
      so_far.2 ∙ name_dropped (λ text. reaches least (total text)) so_far.0 next.0 name next.1
          (ap (reaches least) (sym next.2) ∙ sym c.reaches.ensures ∙ c.if-reaches.false),
    )

pub returns-then-reaches : goal.returns-then-reaches
returns-then-reaches c = λ total names all_left.
    let least = c.args.least in
    let so_far = c.loop.invariant total names all_left in
    let next = subst (IsNextTotal total so_far.0 c.next_total.new.self) c.in-Some.is (c.next_total.ensures total so_far.0 so_far.1) in
    let name = c.in-Some.group.name.items in (
      next.0,
      so_far.2 ∙ name_kept (λ text. reaches least (total text)) so_far.0 next.0 name next.1
          (ap (reaches least) (sym next.2) ∙ sym c.reaches.ensures ∙ c.if-reaches.true),
      next.2,
      next.3,
    )

pub returns-in-None : goal.returns-in-None
returns-in-None c = λ total names all_left.
    let so_far = c.loop.invariant total names all_left in
    let none = subst (IsNextTotal total so_far.0 c.next_total.new.self) c.in-None.is (c.next_total.ensures total so_far.0 so_far.1) in
    so_far.2 ∙ ap (filter (λ text. reaches c.args.least (total text))) none
