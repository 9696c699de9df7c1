use Rattle.std.proofs.Common.{sym, subst}
use Rattle.keys_groups.specs.Groups.{AreSketched}
use Rattle.keys_groups.proofs.LinesInGroups.{sorted_groups}
use Rattle.keys_groups.proofs.groups.Table.into_groups.Goals as goal

pub returns : goal.returns
returns c = λ grouping lines grouped.
    let groups = sorted_groups grouping lines c.args.self.entries.items c.sort_entries.new.entries.items c.requires.named.distinct grouped c.sort_entries.ensures.permutation c.sort_entries.ensures.sorted in
    (groups.0, groups.1, subst (AreSketched grouping lines groups.0) (sym c.from_vec.ensures.items) groups.2)
