use Rattle.std.proofs.Common.{◌≡◌, ◌+◌, ◌-◌, ◌*◌, ◌<◌, ◌≤◌, ◌^◌, length, get_or, take, Some, true, sym, ap, ◌∙◌, arith, length-take-le, take-append-drop, ◌++◌}
use Rattle.std.specs.Char.{is_ascii_digit, digit_value}
use Rattle.std.proofs.lemmas.List.{take_more}
use Rattle.plan_text.proofs.words.Digits.{digits_from, number_is, digits_push, all_digits, digit_is, digit_small, more_digits, below_19}
use Rattle.plan_text.proofs.line.number_before.Goals as goal

pub returns-then-not-is_ascii_digit : goal.returns-then-not-is_ascii_digit
returns-then-not-is_ascii_digit c =
    let text = c.args.text.now in
    let i = c.loop-i.i in
    let w = take i text in
    let e = c.loop-i.invariant.2 in
    let size : length w ≡ i = length-take-le i text c.loop-i.auto.i-end in
    record {
      word = w;
      parts = sym (take-append-drop i text) ∙ ap (λ r. w ++ r) (sym c.split_at.ensures.back);
      digits = all_digits 0 c.loop-i.value w e;
      spells = sym (number_is w (omega arith) (omega (arith, c.loop-i.invariant.0))) ∙ e;
    }

pub overflow_mul-value : goal.overflow_mul-value
overflow_mul-value c = omega (arith, below_19 c.loop-i.value c.loop-i.i c.loop-i.invariant.1 (omega arith))

pub overflow_add-value : goal.overflow_add-value
overflow_add-value c =
    let d = get_or c.args.text.now c.loop-i.i 0 in
    let is : is_ascii_digit d ≡ true = sym c.is_ascii_digit.ensures.value ∙ c.if-not-is_ascii_digit.false in
    omega (arith, below_19 c.loop-i.value c.loop-i.i c.loop-i.invariant.1 (omega arith), digit_small d is, digit_is d is)

pub loop-i-preserved : goal.loop-i-preserved
loop-i-preserved c =
    let text = c.args.text.now in
    let v = c.loop-i.value in
    let i = c.loop-i.i in
    let d = get_or text i 0 in
    let is : is_ascii_digit d ≡ true = sym c.is_ascii_digit.ensures.value ∙ c.if-not-is_ascii_digit.false in
    let same : digit_value d ≡ d - 48 = digit_is d is in
    let limited : i + 1 ≤ 19 = omega arith in
    let fits : v * 10 + digit_value d < 2 ^ 64 = omega (arith, below_19 v i c.loop-i.invariant.1 (omega arith), digit_small d is) in (
      limited,
      rw (sym same) (more_digits v (digit_value d) i c.loop-i.invariant.1 (digit_small d is)),
      ap (digits_from 0) (take_more text i 0 c.loop-i-test.true) ∙ digits_push 0 v d (take i text) c.loop-i.invariant.2 is fits ∙ ap (λ x. Some (v * 10 + x)) same,
    )
