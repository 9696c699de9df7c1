use Rattle.std.proofs.Common.{rules}
use Rattle.keys_fields.specs.Ahead.{ahead_remaining}
use Rattle.keys_fields.specs.Passing.{bytes_for, is_left_out}
use Rattle.keys_fields.proofs.Reading.{refilled, some_waits}
use Rattle.keys_fields.proofs.mapped.Mapped.refill.Goals as goal

pub returns-then-self-len-clause-end : goal.returns-then-self-len-clause-end
returns-then-self-len-clause-end g c none = absurd (some_waits c.args.self.now.given c.args.self.now.waiting.items (search rules) none)

pub returns-clause-same : goal.returns-clause-same
returns-clause-same g c =
    refilled (bytes_for c.args.self.now.passing) (is_left_out c.args.self.now.passing) c.args.self.now.given c.args.self.now.waiting.items c.clear.new.self.items c.args.self.now.left_out c.args.self.now.begun.items c.fill.new.waiting.items c.fill.new.left_out c.fill.new.begun.items
    (ahead_remaining g.R.Read.remaining c.args.self.now.ahead) (ahead_remaining g.R.Read.remaining c.fill.new.ahead) (search rules) (search rules) c.fill.ensures.same
