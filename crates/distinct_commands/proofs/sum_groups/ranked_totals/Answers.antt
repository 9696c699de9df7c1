use Rattle.std.proofs.Common.{ℕ, ◌≡◌, List, [], ◌∷◌, ◌++◌, refl, sym, ap, subst, ◌∙◌, append_assoc, append-nil}
use Rattle.distinct_commands.specs.Ranked.{reaching, HasTexts}
use Rattle.distinct_commands.specs.SumGroups.{named_total, IsNextReaching}
use Rattle.distinct_commands.proofs.GroupLines.{none_has_texts, group_added}
use Rattle.distinct_commands.proofs.sum_groups.ranked_totals.Goals as goal

pub loop-init : goal.loop-init
loop-init c = λ total names left.
    let line = λ (name : List ℕ). named_total c.args.options.now.form name (total name) in
    ([], names, left, refl, subst (HasTexts total line []) (sym c.new-ranked.ensures.items) (none_has_texts total line))

pub loop-preserved : goal.loop-preserved
loop-preserved c = λ total names all_left.
    let least = c.args.options.now.least in
    let form = c.args.options.now.form in
    let line = λ (name : List ℕ). named_total form name (total name) in
    let so_far = c.loop.invariant total names all_left in
    let next = subst (IsNextReaching least total so_far.1 c.next_reaching.new.totals) c.in-Ok-Some.field-0-is (c.in-Ok-Some.ensures total so_far.1 so_far.2) in
    let name = c.in-Ok-Some.group.name.items in
    let made = c.in_ok-one-in-Ok-Some.ensures in (
      so_far.0 ++ name ∷ [],
      next.0,
      next.3,
      so_far.3 ∙ ap (λ ns. so_far.0 ++ ns) next.1 ∙ sym (append_assoc so_far.0 (name ∷ []) (reaching least total next.0)),
      subst (HasTexts total line (so_far.0 ++ name ∷ [])) (sym c.in_ok-push-in-Ok-Some.ensures.items)
          (group_added total line so_far.0 c.loop.ranked.items c.in_ok-one-in-Ok-Some.one name so_far.4 made.name (made.number ∙ next.2) (made.text ∙ ap (named_total form name) next.2)),
    )

pub returns-in-Ok-None : goal.returns-in-Ok-None
returns-in-Ok-None c = λ total names all_left.
    let least = c.args.options.now.least in
    let line = λ (name : List ℕ). named_total c.args.options.now.form name (total name) in
    let so_far = c.loop.invariant total names all_left in
    let none = subst (IsNextReaching least total so_far.1 c.next_reaching.new.totals) c.in-Ok-None.field-0-is (c.in-Ok-None.ensures total so_far.1 so_far.2) in
    let all : reaching least total names ≡ so_far.0 = so_far.3 ∙ ap (λ ns. so_far.0 ++ ns) none ∙ append-nil so_far.0 in
    subst (λ (ns : List (List ℕ)). HasTexts total line ns c.loop.ranked.items) (sym all) so_far.4
