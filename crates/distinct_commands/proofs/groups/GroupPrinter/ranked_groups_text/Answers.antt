use Rattle.std.proofs.Common.{ℕ, ◌≡◌, List, [], ◌∷◌, ◌++◌, refl, sym, ap, subst, ◌∙◌, append_assoc, append-nil}
use Rattle.distinct_arguments.specs.Faults.{options_of}
use Rattle.distinct_commands.specs.Groups.{counted_names, group_estimate, group_line, IsNextCounted}
use Rattle.distinct_commands.specs.Ranked.{HasTexts}
use Rattle.distinct_commands.specs.Texts.{report_by}
use Rattle.distinct_commands.proofs.GroupLines.{none_has_texts, group_added}
use Rattle.distinct_commands.proofs.groups.GroupPrinter.ranked_groups_text.Goals as goal

pub loop-init : goal.loop-init
loop-init g c = record {
  sound = c.requires.sound;
  printed = λ sketch names left.
      let options = options_of c.args.self.options.now in
      let estimate = group_estimate options sketch in
      let line = λ (name : List ℕ). group_line c.args.self.listing options name (sketch name) in
      ([], names, left, refl, subst (HasTexts estimate line []) (sym c.new-ranked.ensures.items) (none_has_texts estimate line));
}

pub loop-preserved : goal.loop-preserved
loop-preserved g c = record {
  sound = c.next_counted.ensures.sound;
  printed = λ sketch names all_left.
      let options = options_of c.args.self.options.now in
      let listing = c.args.self.listing in
      let estimate = group_estimate options sketch in
      let line = λ (name : List ℕ). group_line listing options name (sketch name) in
      let so_far = c.loop.invariant.printed sketch names all_left in
      let next = subst (IsNextCounted (g.G.SketchedGroups.lists sketch) options sketch so_far.1 c.next_counted.new.groups) c.in-Ok-Some.field-0-is (c.in-Ok-Some.ensures.next sketch so_far.1 so_far.2) in
      let name = c.in-Ok-Some.group.name.items in
      let one = c.in_ok-one-in-Ok-Some.one in
      let made = c.in_ok-one-in-Ok-Some.ensures in (
        so_far.0 ++ name ∷ [],
        next.0,
        next.3,
        so_far.3 ∙ ap (λ ns. so_far.0 ++ ns) next.1 ∙ sym (append_assoc so_far.0 (name ∷ []) (counted_names options sketch next.0)),
        subst (HasTexts estimate line (so_far.0 ++ name ∷ [])) (sym c.in_ok-push-in-Ok-Some.ensures.items)
            (group_added estimate line so_far.0 c.loop.ranked.items one name so_far.4 made.name
            (made.estimate ∙ ap (λ s. (report_by options s).estimate) next.2)
            (made.text ∙ ap (group_line listing options name) next.2)),
      );
}

pub returns-in-Ok-None-clause-printed : goal.returns-in-Ok-None-clause-printed
returns-in-Ok-None-clause-printed g c = λ sketch names all_left.
    let options = options_of c.args.self.options.now in
    let estimate = group_estimate options sketch in
    let counted = counted_names options sketch in
    let line = λ (name : List ℕ). group_line c.args.self.listing options name (sketch name) in
    let so_far = c.loop.invariant.printed sketch names all_left in
    let none = subst (IsNextCounted (g.G.SketchedGroups.lists sketch) options sketch so_far.1 c.next_counted.new.groups) c.in-Ok-None.field-0-is (c.in-Ok-None.ensures.next sketch so_far.1 so_far.2) in
    let all : counted names ≡ so_far.0 = so_far.3 ∙ ap (λ ns. so_far.0 ++ ns) none ∙ append-nil so_far.0 in
    c.in_ok-first_ranked_text-in-Ok-None.ensures estimate line (counted names) (subst (λ (ns : List (List ℕ)). HasTexts estimate line ns c.loop.ranked.items) (sym all) so_far.4)
