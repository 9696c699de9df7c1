use Rattle.std.proofs.Common.{refl, sym, subst, ◌∙◌}
use Rattle.std.specs.Prelude.{IfOk}
use Rattle.keys_lines.specs.Lines.{lines_of_all}
use Rattle.keys_sketches.proofs.Turns.{if_some}
use Rattle.keys_groups.specs.Groups.{HasGroups, group_sketch}
use Rattle.distinct_arguments.specs.Faults.{options_of}
use Rattle.distinct_arguments.specs.Settings.{chosen_group}
use Rattle.distinct_commands.specs.Answers.{IsLinesText}
use Rattle.distinct_commands.specs.Groups.{grouping_of, IsGroupsText}
use Rattle.distinct_commands.specs.declared.groups.Listing.{Listing}
use Rattle.distinct_commands.proofs.Answered.{sketched, grouped}
use Rattle.distinct_commands.proofs.job.Job.print_lines.Goals as goal

pub returns-in_ok-groups-in-Some-clause-printed : goal.returns-in_ok-groups-in-Some-clause-printed
returns-in_ok-groups-in-Some-clause-printed g c =
    let options = options_of c.args.self.options.now in
    let seed = c.args.self.seed in
    let by = c.in-Some.by in
    if_some (g.S.Sources.texts c.args.self.inputs.sources) (λ texts. HasGroups (grouping_of options seed by) (lines_of_all texts) c.in_ok-groups-in-Some.groups)
    (λ texts. IfOk c.table.result (λ v. IsLinesText c.args.images (chosen_group options) options seed texts v.items))
    (λ texts has. grouped c.table.result (λ v. v.items) c.args.images (chosen_group options) by options seed texts has.0 (sym c.group.ensures ∙ c.in-Some.is) has.1
    (subst (λ (listing : Listing). IfOk c.table.result (λ v. IsGroupsText listing options (group_sketch (grouping_of options seed by) (lines_of_all texts)) has.0 v.items)) c.listing_of.ensures
    (c.table.ensures.printed (group_sketch (grouping_of options seed by) (lines_of_all texts)) has.0 (grouping_of options seed by, lines_of_all texts, refl, has.2))))
    c.in_ok-groups-in-Some.ensures.grouped

pub returns-in_ok-sketch-in-None-clause-printed : goal.returns-in_ok-sketch-in-None-clause-printed
returns-in_ok-sketch-in-None-clause-printed g c =
    let options = options_of c.args.self.options.now in
    sketched c.lines_text.result (λ v. v.items) (g.S.Sources.texts c.args.self.inputs.sources) c.args.images (chosen_group options) options c.args.self.seed c.in_ok-sketch-in-None.sketch
    (sym c.group.ensures ∙ c.in-None.is) c.in_ok-sketch-in-None.ensures.sketch c.lines_text.ensures.text
