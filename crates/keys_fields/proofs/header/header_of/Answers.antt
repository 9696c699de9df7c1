use Rattle.std.proofs.Common.{ap, ◌∙◌, rules}
use Rattle.keys_fields.specs.Lines.{plain_line}
use Rattle.keys_fields.proofs.header.header_of.Goals as goal

pub returns : goal.returns
returns g c lines has =
    let read = c.in_ok-read_first.ensures lines has (search rules) in
    (search rules ∙ ap (plain_line c.args.layout) read.0, read.1)
