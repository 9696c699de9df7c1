use Rattle.std.proofs.Common.{arith}
use Rattle.std.specs.Io.Buffered.{reader_remaining}
use Rattle.keys_groups.proofs.WholeLines.{line_read}
use Rattle.keys_groups.proofs.reading.next_line.Goals as goal

pub returns : goal.returns
returns g c =
    line_read (reader_remaining g.R.Read.remaining c.args.reader.now) (reader_remaining g.R.Read.remaining c.read_line.new.reader) c.clear.new.self.items c.read_line.new.line.items c.in_ok-count.count
    c.clear.ensures.items c.in_ok-count.ensures.bytes c.in_ok-count.ensures.rest (omega (arith, c.read_line.new.line.ok, c.clear.new.self.ok, c.in_ok-count.ensures.ok)) c.if-count-eq0.false
