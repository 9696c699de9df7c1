use Rattle.std.proofs.Common.{◌≡◌, ◌<◌, ◌+◌, ◌-◌, ◌*◌, ◌^◌, true, get_or, sym, arith}
use Rattle.std.proofs.lemmas.Bool.Decides.{nat_tests}
use Rattle.std.specs.Char.{is_ascii_digit}
use Rattle.keys_sums.proofs.Numerals.{text_begins, text_continues, text_ends}
use Rattle.keys_sums.proofs.digits.short_number.Goals as goal

pub loop-byte-init : goal.loop-byte-init
loop-byte-init c = text_begins c.args.text.now c.in-Some.first.now c.in-Some.others.now c.in-Some.ensures.cases.0 (sym c.if-not-is_ascii_digit.ensures.value)

pub loop-byte-preserved : goal.loop-byte-preserved
loop-byte-preserved c =
    let others = c.in-Some.others.now in
    let i = c.loop-byte.byte-index in
    let n = c.loop-byte.number in
    let digit : is_ascii_digit (get_or others i 0) ≡ true = sym c.if-not-is_ascii_digit-2.ensures.value in
    let low : get_or others i 0 - 48 < 10 = grind (arith, nat_tests, digit) in
    let small : n * 10 + (get_or others i 0 - 48) < 2 ^ 64 = omega (arith, low, c.if-number-gt-MOST_BEFORE_DIGIT.false) in
    text_continues c.args.text.now c.in-Some.first.now others c.in-Some.ensures.cases.0 i n c.loop-byte-test.true c.loop-byte.invariant digit small

pub returns : goal.returns
returns c = text_ends c.args.text.now c.in-Some.first.now c.in-Some.others.now c.in-Some.ensures.cases.0 c.loop-byte.byte-index c.loop-byte.number c.loop-byte-test.false c.loop-byte.invariant
