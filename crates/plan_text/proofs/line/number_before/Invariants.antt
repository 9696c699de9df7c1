use Rattle.std.proofs.Common.{◌≡◌, ◌<◌, ◌≤◌, ◌^◌, take, Some}
use Rattle.plan_text.proofs.words.Digits.{digits_from}
use Rattle.plan_text.proofs.line.number_before.Given as goal

abbrev pub invariant-loop-i : goal.invariant-loop-i
invariant-loop-i l = (l.i ≤ 19) × (l.value < 10 ^ l.i) × (digits_from 0 (take l.i l.text) ≡ Some l.value)
