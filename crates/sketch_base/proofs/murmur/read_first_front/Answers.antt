use Rattle.std.proofs.Common.{◌∙◌, arith}
use Rattle.sketch_base.proofs.Words.{word-front_first}
use Rattle.sketch_base.proofs.murmur.read_first_front.Goals as goal

pub returns-else-count-lt8 : goal.returns-else-count-lt8
returns-else-count-lt8 c = c.read_word.ensures ∙ word-front_first c.args.bytes.now c.args.count (omega arith)
