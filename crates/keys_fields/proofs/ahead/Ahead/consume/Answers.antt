use Rattle.std.proofs.Common.{length-take, take, arith}
use Rattle.keys_fields.specs.Ahead.{shown_of}
use Rattle.keys_fields.proofs.Giving.{shown_past, past}
use Rattle.keys_fields.proofs.ahead.Ahead.consume.Goals as goal

pub returns : goal.returns
returns g c =
    shown_past (shown_of c.args.self.now) _ (g.R.Read.remaining c.args.self.now.inner) c.args.count
    (past (take c.args.self.now.end c.args.self.now.block.items) c.args.self.now.start c.args.count c.saturating_add-self.result 18446744073709551615 c.saturating_add-self.ensures (omega (arith, length-take c.args.self.now.end c.args.self.now.block.items, c.args.self.now.block.ok)))
