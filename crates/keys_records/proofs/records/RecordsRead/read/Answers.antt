use Rattle.std.proofs.Common.{rules}
use Rattle.keys_records.proofs.Passing.{finish_bytes, finish_passes, finish_end}
use Rattle.keys_records.proofs.records.RecordsRead.read.Goals as goal

pub returns-then-length-eq0-clause-bytes : goal.returns-then-length-eq0-clause-bytes
returns-then-length-eq0-clause-bytes g c = finish_bytes g.R.Read.remaining c.args.self.now c.loop.self (g.R.Read.remaining c.read.new.self) c.finish.new.stage c.finish.result c.in_ok-length.length c.read.new.buf c.finish.new.buf c.loop.invariant c.if-length-eq0.true (search rules) c.in_ok-length.ensures.bytes (c.finish.ensures.ends c.loop.self.form) (c.finish.ensures.fails c.loop.self.form)

pub returns-then-length-eq0-clause-passes : goal.returns-then-length-eq0-clause-passes
returns-then-length-eq0-clause-passes g c = finish_passes g.R.Read.remaining c.args.self.now c.loop.self (g.R.Read.remaining c.read.new.self) c.finish.new.stage c.finish.result c.in_ok-length.length c.read.new.buf c.finish.new.buf c.loop.invariant c.if-length-eq0.true (search rules) c.in_ok-length.ensures.bytes (c.finish.ensures.ends c.loop.self.form) (c.finish.ensures.fails c.loop.self.form)

pub returns-then-length-eq0-clause-end : goal.returns-then-length-eq0-clause-end
returns-then-length-eq0-clause-end g c = finish_end g.R.Read.remaining c.args.self.now c.loop.self (g.R.Read.remaining c.read.new.self) c.finish.new.stage c.finish.result c.in_ok-length.length c.read.new.buf c.finish.new.buf c.loop.invariant c.if-length-eq0.true (search rules) c.in_ok-length.ensures.bytes (c.finish.ensures.ends c.loop.self.form) (c.finish.ensures.fails c.loop.self.form)
