use Rattle.std.proofs.Common.{rules}
use Rattle.keys_fields.proofs.Giving.{none_at_end, none_taken}
use Rattle.keys_fields.proofs.ahead.Ahead.fill.Goals as goal

pub returns-clause-end : goal.returns-clause-end
returns-clause-end g c none =
    let bytes = c.in_ok-length.ensures.bytes in
    none_at_end (g.R.Read.remaining c.read.new.self) _ none
    (bytes.1 (none_taken c.in_ok-length.length c.args.self.now.block.len c.read.new.buf c.args.self.now.block.items (search rules) (search rules) none) (search rules))
