use Rattle.std.proofs.Common.{Some}
use Rattle.keys_groups.proofs.Entries.{changed_at}
use Rattle.keys_joins.proofs.tables.put_group.Goals as goal

pub returns-clause-put : goal.returns-clause-put
returns-clause-put c = changed_at c.args.group.name.items c.args.map.now c.insert.new.self (Some c.args.group.sketch) c.in_ok-insert.ensures.updates
