use Rattle.std.proofs.Common.{ap, sym, ◌∙◌}
use Rattle.sketch_base.specs.Murmur.{word}
use Rattle.sketch_base.proofs.Words.{word-drop, word_past}
use Rattle.sketch_base.proofs.murmur.read_second_word.Goals as goal

pub returns-then-bytes-gt8 : goal.returns-then-bytes-gt8
returns-then-bytes-gt8 c =
    c.read_word.ensures ∙ ap (λ l. word l 0) c.split_at.ensures.back ∙ word-drop c.args.bytes.now 8

pub returns : goal.returns
returns c = sym (word_past c.args.bytes.now 8 c.if-bytes-gt8.false)
