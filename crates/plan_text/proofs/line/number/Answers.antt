use Rattle.std.proofs.Common.{◌≡◌, ◌*◌, ◌+◌, true, get_or, sym, ◌∙◌, ap, arith}
use Rattle.std.proofs.lemmas.List.{drop_all}
use Rattle.std.specs.Char.{is_ascii_digit, digit_value}
use Rattle.plan_text.proofs.words.Separators.{not_empty}
use Rattle.plan_text.proofs.words.Digits.{number_is, stops, digits_from, no_digit, too_big, digit_is}
use Rattle.plan_text.proofs.line.number.Goals as goal

pub returns-then-not-is_ascii_digit : goal.returns-then-not-is_ascii_digit
returns-then-not-is_ascii_digit c =
    let w = c.args.word.now in
    let last = get_or w c.loop-byte.byte-index 0 in
    stops c.loop-byte.value c.loop-byte.byte-index w (digits_from 0 w) c.loop-byte-test.true
    (no_digit (is_ascii_digit last) _ (sym c.is_ascii_digit.ensures.value ∙ c.if-not-is_ascii_digit.true)) c.loop-byte.invariant
    ∙ number_is w (not_empty w c.if-is_empty.ensures) c.if-word-gt-MAX_DIGITS.false

pub returns-in_err-checked_mul : goal.returns-in_err-checked_mul
returns-in_err-checked_mul c =
    let w = c.args.word.now in
    let last = get_or w c.loop-byte.byte-index 0 in
    rw c.from_residual.ensures
    (stops c.loop-byte.value c.loop-byte.byte-index w (digits_from 0 w) c.loop-byte-test.true
    (too_big (is_ascii_digit last) (c.loop-byte.value * 10 + digit_value last) (omega (arith, c.in_err-checked_mul.ensures))) c.loop-byte.invariant
    ∙ number_is w (not_empty w c.if-is_empty.ensures) c.if-word-gt-MAX_DIGITS.false)

pub returns-in_err-value : goal.returns-in_err-value
returns-in_err-value c =
    let w = c.args.word.now in
    let last = get_or w c.loop-byte.byte-index 0 in
    let is : is_ascii_digit last ≡ true = sym c.is_ascii_digit.ensures.value ∙ c.if-not-is_ascii_digit.false in
    rw c.from_residual-in_err-value.ensures
    (stops c.loop-byte.value c.loop-byte.byte-index w (digits_from 0 w) c.loop-byte-test.true
    (too_big (is_ascii_digit last) (c.loop-byte.value * 10 + digit_value last)
    (omega (arith, digit_is last is, c.in_err-value.ensures, c.in_ok-checked_mul.ensures.1, c.from.ensures))) c.loop-byte.invariant
    ∙ number_is w (not_empty w c.if-is_empty.ensures) c.if-word-gt-MAX_DIGITS.false)

pub returns : goal.returns
returns c =
    let w = c.args.word.now in
    ap (digits_from c.loop-byte.value) (sym (drop_all c.loop-byte.byte-index w c.loop-byte-test.false)) ∙ c.loop-byte.invariant
    ∙ number_is w (not_empty w c.if-is_empty.ensures) c.if-word-gt-MAX_DIGITS.false
