use Rattle.std.proofs.Common.{drop}
use Rattle.keys_fields.specs.Ahead.{ahead_remaining}
use Rattle.keys_fields.specs.Passing.{choosing, bytes_for, is_left_out}
use Rattle.keys_fields.proofs.Headers.{lines_left}
use Rattle.keys_fields.proofs.mapped.Mapped.choosing.Goals as goal

pub returns-clause-lines : goal.returns-clause-lines
returns-clause-lines g c lines has =
    let left = lines_left (bytes_for (choosing c.args.self.passing c.args.chosen)) (is_left_out (choosing c.args.self.passing c.args.chosen)) (drop c.args.self.given c.args.self.waiting.items) c.args.self.left_out c.args.self.begun.items (ahead_remaining g.R.Read.remaining c.args.self.ahead) lines has.0 has.1 has.2 has.3 in
    (has, left.0, left.1)
