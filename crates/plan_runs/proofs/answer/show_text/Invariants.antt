use Rattle.std.proofs.Common.{◌≡◌, ◌++◌, length}
use Rattle.std.specs.Prelude.{string_bytes}
use Rattle.std.specs.List.{flat_map}
use Rattle.core_state.specs.View.{shows, sequence}
use Rattle.plan_runs.specs.Answer.{show_lines}
use Rattle.plan_runs.proofs.answer.show_text.Given as goal

-- the text so far, and then the remaining entries, is the whole text
abbrev pub invariant-loop-entry : goal.invariant-loop-entry
invariant-loop-entry g l =
    let shown = shows g.E.SketchEntry.key l.fn.sketch in
    string_bytes l.text ++ flat_map g.E.ShownEntry.texts.line l.entry-iterator.rest ≡ show_lines g.E.ShownEntry.texts shown.empty shown.theta (sequence l.fn.sketch)

-- the remaining entries
abbrev pub decreases-loop-entry : goal.decreases-loop-entry
decreases-loop-entry g l = length l.entry-iterator.rest
