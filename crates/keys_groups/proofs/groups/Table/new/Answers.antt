use Rattle.keys_lines.specs.declared.key.Key.TheVariants.{Line}
use Rattle.keys_groups.specs.declared.groups.Grouping.{Grouping}
use Rattle.keys_groups.proofs.LinesInGroups.{none_named}
use Rattle.keys_groups.proofs.groups.Table.new.Goals as goal

pub returns-clause-named : goal.returns-clause-named
returns-clause-named c =
    let grouping : Grouping = record { by = Line; hashing = record { key = Line; seed = 0 }; lg_k = 0 } in
    none_named grouping c.new-2.result c.new.result.items c.new.ensures.items c.new-2.ensures
