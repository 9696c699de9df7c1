use Rattle.std.proofs.Common.{◌<◌, length, sym, ◌∙◌, arith}
use Rattle.sketch_base.proofs.Parts.{limited}
use Rattle.sketch_base.proofs.Words.{word-short, word_past}
use Rattle.sketch_base.proofs.murmur.read_few.Goals as goal

pub returns-then-is_empty : goal.returns-then-is_empty
returns-then-is_empty c = sym (word_past c.args.bytes.now 0 (grind arith))

pub returns : goal.returns
returns c =
    let bs = c.args.bytes.now in
    let some : 0 < length bs = grind arith in
    limited bs some c.requires (λ i. omega (arith, c.type_inv.bytes i)) ∙ sym (word-short bs (omega arith))
