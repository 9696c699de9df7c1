use Rattle.std.proofs.Common.{◌≡◌, ◌+◌, ◌-◌, ◌/◌, ◌%◌, ◌++◌, ◌∷◌, [], drop, decimal, sym, ap, ◌∙◌, arith}
use Rattle.std.proofs.lemmas.List.{append_assoc, length-set}
use Rattle.std.proofs.lemmas.Fmt.{decimal_digit, decimal_step_wide}
use Rattle.c_objects.proofs.Digits.{decimal_not_empty, length-decimal-step, length-decimal-one, before_place}
use Rattle.c_objects.proofs.numerals.+put_digits.Goals as goal

pub overflow_sub-at : goal.overflow_sub-at
overflow_sub-at t c = omega (arith, decimal_not_empty c.args.number (omega arith), c.requires.fits)

pub bounds-text-at : goal.bounds-text-at
bounds-text-at t c = omega (arith, decimal_not_empty c.args.number (omega arith), c.requires.fits, c.requires.within)

pub returns-then-number-lt10-clause-start : goal.returns-then-number-lt10-clause-start
returns-then-number-lt10-clause-start t c = omega (arith, length-decimal-one c.args.number c.if-number-lt10.true, c.requires.fits)

pub returns-then-number-lt10-clause-written : goal.returns-then-number-lt10-clause-written
returns-then-number-lt10-clause-written t c =
    let number = c.args.number in
    let one = length-decimal-one number c.if-number-lt10.true in
    let digit : 48 + number % 10 ≡ 48 + number = omega (arith, c.if-number-lt10.true) in
    before_place c.args.text.now c.args.end (48 + number % 10) (omega (arith, one, c.requires.fits)) c.requires.within
    ∙ ap (λ d. d ∷ drop c.args.end c.args.text.now) digit
    ∙ ap (λ ds. ds ++ drop c.args.end c.args.text.now) (sym (decimal_digit number c.if-number-lt10.true))

pub put_digits-requires : goal.put_digits-requires
put_digits-requires t c =
    let step = length-decimal-step c.args.number (omega (arith, c.if-number-lt10.false)) (omega arith) in (
      omega (arith, c.if-number-lt10.false, c.decreases),
      (
        omega (arith, step, c.requires.fits),
        omega (arith, length-set c.args.text.now (c.args.end - 1) (48 + c.args.number % 10), c.requires.within),
      ),
    )

pub returns-clause-start : goal.returns-clause-start
returns-clause-start t c =
    omega (arith, length-decimal-step c.args.number (omega (arith, c.if-number-lt10.false)) (omega arith), c.put_digits.ensures.start, c.requires.fits)

pub returns-clause-written : goal.returns-clause-written
returns-clause-written t c =
    let number = c.args.number in
    let rest = drop c.args.end c.args.text.now in
    let long = c.if-number-lt10.false in
    let some = length-decimal-step number (omega (arith, long)) (omega arith) in
    c.put_digits.ensures.written
    ∙ ap (λ ds. decimal (number / 10) ++ ds) (before_place c.args.text.now c.args.end (48 + number % 10) (omega (arith, some, c.requires.fits)) c.requires.within)
    ∙ sym (append_assoc (decimal (number / 10)) ((48 + number % 10) ∷ []) rest)
    ∙ ap (λ ds. ds ++ rest) (sym (decimal_step_wide number (omega (arith, long)) (omega arith)))
