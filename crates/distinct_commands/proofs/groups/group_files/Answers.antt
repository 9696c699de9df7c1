use Rattle.keys_sketches.proofs.Turns.{if_some}
use Rattle.keys_lines.specs.Lines.{lines_of_all}
use Rattle.keys_groups.specs.Groups.{HasGroups}
use Rattle.keys_groups.specs.Files.{AreFilesOf}
use Rattle.distinct_arguments.specs.Faults.{options_of}
use Rattle.distinct_commands.specs.Groups.{grouping_of}
use Rattle.distinct_commands.proofs.groups.group_files.Goals as goal

pub returns-in-Ok-clause-files : goal.returns-in-Ok-clause-files
returns-in-Ok-clause-files g c =
    let options = options_of c.args.options.now in
    let grouping = grouping_of options c.args.seed c.args.by in
    if_some (g.S.Sources.texts c.args.inputs.sources) (λ texts. HasGroups grouping (lines_of_all texts) c.in_ok-groups.groups) (λ texts. AreFilesOf c.args.options.now.hex grouping (lines_of_all texts) c.in-Ok.files.items)
    (λ texts has. (has.0, has.1, c.in-Ok.ensures.files grouping (lines_of_all texts) has.0 has.2)) c.in_ok-groups.ensures.grouped
