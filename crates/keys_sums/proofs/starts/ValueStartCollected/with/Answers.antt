use Rattle.std.proofs.Common.{rules}
use Rattle.keys_sums.proofs.FirstBytes.{one_more, no_more}
use Rattle.keys_sums.proofs.starts.ValueStartCollected.with.Goals as goal

pub returns-then-self-ge-START : goal.returns-then-self-ge-START
returns-then-self-ge-START c = λ bytes is. no_more bytes c.args.self c.args.byte is c.if-self-ge-START.true

pub returns : goal.returns
returns c = λ bytes is. one_more bytes c.args.self c.args.byte is (search rules) (search rules)
