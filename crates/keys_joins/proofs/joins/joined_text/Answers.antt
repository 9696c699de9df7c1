use Rattle.std.proofs.Common.{ℕ, List, ◌++◌, sym, ap, subst, ◌∙◌}
use Rattle.core_compact.specs.CompactState.{Compact}
use Rattle.keys_groups.specs.Groups.{IsFirst}
use Rattle.keys_groups.proofs.NamedLines.{line_added, all_lines}
use Rattle.keys_joins.specs.Joins.{joined_line, joined_text}
use Rattle.keys_joins.proofs.joins.joined_text.Goals as goal

pub loop-init : goal.loop-init
loop-init g c = record {
  sound = c.requires.sound;
  written = λ file files listed seeded tables. (file.names, listed, ap (λ items. items ++ joined_text c.args.join c.args.seed file files file.names) (sym c.new-text.ensures.items));
}

pub loop-preserved : goal.loop-preserved
loop-preserved g c = record {
  sound = c.in_ok-group.ensures.sound;
  written = λ file files listed seeded tables.
      let all : List (List ℕ) → List ℕ = λ names. joined_text c.args.join c.args.seed file files names in
      let so_far = c.loop.invariant.written file files listed seeded tables in
      let next = subst (IsFirst (g.G.SketchedGroups.lists file.sketch) file.sketch so_far.0 c.take_group.new.self) c.in-Some.is (c.in_ok-group.ensures.next file.sketch so_far.0 so_far.1) in
      let name = c.in-Some.group.name.items in
      let line = c.in_ok-line.ensures.line file files tables next.2 (ap (λ (s : Compact ℕ). s.seed_hash) next.2 ∙ seeded name) in (
        next.0,
        next.3,
        line_added (joined_line c.args.join c.args.seed file files) (all file.names) c.loop.text.items c.in_ok-line.line.items so_far.0 next.0 name so_far.2 next.1 line
            ∙ ap (λ items. items ++ all next.0) (sym (c.in_ok-extend_from_slice.ensures.items ∙ ap (λ bytes. c.loop.text.items ++ bytes) c.as_slice.ensures.value)),
      );
}

pub returns-in_default-clause-text : goal.returns-in_default-clause-text
returns-in_default-clause-text g c = λ file files listed seeded tables.
    let so_far = c.loop.invariant.written file files listed seeded tables in
    let none = subst (IsFirst (g.G.SketchedGroups.lists file.sketch) file.sketch so_far.0 c.take_group.new.self) c.in_default.is (c.in_ok-group.ensures.next file.sketch so_far.0 so_far.1) in
    all_lines (joined_line c.args.join c.args.seed file files) (joined_text c.args.join c.args.seed file files file.names) c.loop.text.items so_far.0 so_far.2 none
