use Rattle.std.proofs.Common.{◌≡◌, get_or, false, sym, ◌∙◌}
use Rattle.expression_text.specs.Tokens.{is_word_byte}
use Rattle.expression_text.proofs.SplitTokens.{word_before}
use Rattle.expression_text.proofs.tokens.split_word.Goals as goal

pub returns-then-not-is_word_byte : goal.returns-then-not-is_word_byte
returns-then-not-is_word_byte c =
    let text = c.args.text.now in
    let i = c.loop-i.i in
    let other : is_word_byte (get_or text i 0) ≡ false = sym c.is_word_byte.ensures ∙ c.if-not-is_word_byte.true in
    word_before text c.split_at.result.0.now c.split_at.result.1.now i c.split_at.ensures.by_index.0 c.split_at.ensures.front_len c.loop-i.invariant other
