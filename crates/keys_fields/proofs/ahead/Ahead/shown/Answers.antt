use Rattle.std.proofs.Common.{rules}
use Rattle.keys_fields.proofs.Giving.{shown_is}
use Rattle.keys_fields.proofs.ahead.Ahead.shown.Goals as goal

pub returns : goal.returns
returns g c = shown_is c.args.self.now.block.items c.deref.result.now c.args.self.now.start c.args.self.now.end c.len.result c.min.result c.min-2.result c.deref.ensures.value (search rules) c.min.ensures c.min-2.ensures
