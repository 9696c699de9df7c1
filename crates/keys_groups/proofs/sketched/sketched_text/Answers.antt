use Rattle.std.proofs.Common.{◌≡◌, ◌++◌, sym, ap, subst, ◌∙◌}
use Rattle.theta_sketches.specs.Image.{written}
use Rattle.keys_groups.specs.Groups.{IsFirst}
use Rattle.keys_groups.specs.United.{image_line, sketched_text}
use Rattle.keys_groups.proofs.NamedLines.{line_added, all_lines}
use Rattle.keys_groups.proofs.sketched.sketched_text.Goals as goal

pub loop-init : goal.loop-init
loop-init g c = record {
  sound = c.requires.sound;
  written = λ sketch names listed. (names, listed, ap (λ items. items ++ sketched_text sketch names) (sym c.new-text.ensures.items));
}

pub loop-preserved : goal.loop-preserved
loop-preserved g c = record {
  sound = c.in_ok-group.ensures.sound;
  written = λ sketch names listed.
      let so_far = c.loop.invariant.written sketch names listed in
      let next = subst (IsFirst (g.G.SketchedGroups.lists sketch) sketch so_far.0 c.take_group.new.self) c.in-Some.is (c.in_ok-group.ensures.next sketch so_far.0 so_far.1) in
      let name = c.in-Some.group.name.items in
      let line : c.in_ok-line.line.items ≡ image_line name (written (sketch name)) =
      c.in_ok-line.ensures ∙ ap (λ n. image_line n c.as_slice-in-loop.result.now) c.as_slice.ensures.value ∙ ap (image_line name) (c.as_slice-in-loop.ensures.value ∙ c.in_ok-image.ensures.written ∙ ap written next.2) in (
        next.0,
        next.3,
        line_added (λ n. image_line n (written (sketch n))) (sketched_text sketch names) c.loop.text.items c.in_ok-line.line.items so_far.0 next.0 name so_far.2 next.1 line
            ∙ ap (λ items. items ++ sketched_text sketch next.0) (sym (c.in_ok-extend_from_slice.ensures.items ∙ ap (λ bytes. c.loop.text.items ++ bytes) c.as_slice-in-loop-2.ensures.value)),
      );
}

pub returns-in_default-clause-text : goal.returns-in_default-clause-text
returns-in_default-clause-text g c = λ sketch names listed.
    let so_far = c.loop.invariant.written sketch names listed in
    let none = subst (IsFirst (g.G.SketchedGroups.lists sketch) sketch so_far.0 c.take_group.new.self) c.in_default.is (c.in_ok-group.ensures.next sketch so_far.0 so_far.1) in
    all_lines (λ n. image_line n (written (sketch n))) (sketched_text sketch names) c.loop.text.items so_far.0 so_far.2 none
