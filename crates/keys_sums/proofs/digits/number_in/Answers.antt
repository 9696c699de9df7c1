use Rattle.std.proofs.Common.{[]}
use Rattle.keys_lines.specs.declared.key.Key.TheVariants.{Line}
use Rattle.keys_sums.proofs.digits.number_in.Goals as goal

pub returns-in-None : goal.returns-in-None
returns-in-None c = c.number.ensures c.args.text.now (c.with_bytes.ensures [] (c.new-digits.ensures Line)).collected
