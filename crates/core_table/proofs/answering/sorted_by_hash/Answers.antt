use Rattle.core_table.proofs.OtherOrders.{sorted_map}
use Rattle.core_table.proofs.answering.sorted_by_hash.Goals as goal

pub returns : goal.returns
returns g c = sorted_map g.E.SketchEntry.key c.args.entries.items _ c.sort_by_hash.ensures.permutation c.sort_by_hash.ensures.ascending c.requires
