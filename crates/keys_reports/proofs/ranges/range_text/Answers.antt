use Rattle.std.proofs.Common.{eq-eqb, append-nil}
use Rattle.std.specs.Prelude.{decimal}
use Rattle.keys_reports.proofs.ranges.range_text.Goals as goal

pub returns-then-least-greatest : goal.returns-then-least-greatest
returns-then-least-greatest g c = rw (eq-eqb c.args.least c.args.greatest c.if-least-greatest.true, append-nil (decimal c.args.least)) c.format.ensures.ok
