use Rattle.std.proofs.Common.{◌-◌, take, ap, sym, ◌∙◌, arith, length-take-le}
use Rattle.sketch_base.specs.Murmur.{word}
use Rattle.sketch_base.proofs.Words.{word-front_second, word_past}
use Rattle.sketch_base.proofs.murmur.read_second_front.Goals as goal

pub returns-then-count-lt8 : goal.returns-then-count-lt8
returns-then-count-lt8 c =
    sym (word_past (take c.args.count c.args.bytes.now) 8 (omega (arith, length-take-le c.args.count c.args.bytes.now (omega arith))))

pub returns : goal.returns
returns c =
    c.read_front.ensures ∙ ap (λ l. word (take (c.args.count - 8) l) 0) c.split_at.ensures.back
    ∙ word-front_second c.args.bytes.now c.args.count (omega arith)
