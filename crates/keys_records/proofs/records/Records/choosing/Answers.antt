use Rattle.std.proofs.Common.{sym, ap, ◌∙◌}
use Rattle.keys_records.specs.declared.place.Before.{Before}
use Rattle.keys_records.specs.declared.place.Before.TheVariants.{Record}
use Rattle.keys_records.specs.declared.stage.Stage.{Stage}
use Rattle.keys_records.specs.declared.stage.Stage.TheVariants.{Reading}
use Rattle.keys_records.proofs.records.Records.choosing.Goals as goal

-- what is before the next byte
abbrev before_at : Stage → Before
before_at (Reading place) = place.before
before_at stage = Record

pub returns-in_default : goal.returns-in_default
returns-in_default g c text known at =
    let start = c.is_start.ensures.start (ap before_at (sym c.in-Reading.is ∙ at)) in
    let no = c.if-is_start.false in
    absurd (cc)
