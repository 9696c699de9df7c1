use Rattle.std.proofs.Common.{ℕ, []}
use Rattle.keys_lines.specs.Open.{IsOpenKey}
use Rattle.keys_lines.specs.declared.key.Key.{Key}
use Rattle.keys_lines.specs.declared.key.Key.TheVariants.{Line, Field}
use Rattle.keys_lines.specs.declared.open_key.OpenKey.{OpenKey}
use Rattle.keys_lines.proofs.open_line.line_hash.Goals as goal

begun : (seed : ℕ) (k : OpenKey) → IsOpenKey seed Line [] k → ((before separator : ℕ) → IsOpenKey seed (Field before separator) [] k) → (key : Key) → IsOpenKey seed key [] k
begun seed k line field Line = line
begun seed k line field (Field before separator) = field before separator

pub returns : goal.returns
returns c = c.hash.ensures c.args.hashing c.args.line.now (c.extend.ensures [] (begun c.args.hashing.seed c.new-open_key.result c.new-open_key.ensures.line c.new-open_key.ensures.field c.args.hashing.key))
