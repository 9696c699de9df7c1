-- How texts start, and lines that end where they are.
use Rattle.std.proofs.Common.{◌≡◌, ℕ, ◌+◌, ◌<◌, ◌≤◌, List, [], ◌∷◌, ◌++◌, length, take, slice_set, inl, inr, sym, ap, ◌∙◌, arith, append-nil}
use Rattle.std.specs.Prelude.{min}
use Rattle.std.proofs.lemmas.Bool.{cases_lt}
use Rattle.std.proofs.lemmas.Bool.Decides.{nat_tests}
use Rattle.std.proofs.lemmas.List.{length-append, take_all, take_more_set, take-append-le}
use Rattle.keys_lines.specs.declared.key.Hashing.{Hashing}
use Rattle.keys_sums.specs.Amounts.{IsOpenAddend, IsEndedAddend}
use Rattle.keys_sums.specs.Parts.{IsStart}
use Rattle.keys_sums.specs.declared.addends.Amount.{Amount}
use Rattle.keys_sums.specs.declared.addends.OpenAddend.{OpenAddend}
use Rattle.keys_sums.specs.declared.starts.TheConstants.{START}
use Rattle.keys_sums.specs.declared.starts.ValueStart.{ValueStart}

-- a line that no byte follows has ended
pub ended_itself : (hashing : Hashing) (amount : Amount) (front : List ℕ) (addend : OpenAddend) → IsOpenAddend hashing amount front addend → IsEndedAddend hashing amount front front [] addend
ended_itself hashing amount front addend is = record { whole = sym (append-nil front); is_open = is.is_open; number = is.number; start = is.start }

-- ---- the first bytes of a text that are kept

-- an array's first bytes, up to its length
pub within : (kept : List ℕ) (count n : ℕ) → length kept ≡ n → take (min count n) kept ≡ take count kept
within kept count n full = elim (cases_lt count n) [
  | inl few ↦ let same : min count n ≡ count = grind (arith, nat_tests) in ap (λ (m : ℕ). take m kept) same
  | inr many ↦
      let same : min count n ≡ n = grind (arith, nat_tests) in
      ap (λ (m : ℕ). take m kept) same ∙ take_all n kept (omega (arith, full)) ∙ sym (take_all count kept (omega (arith, full, many)))
]

one_longer : (text : List ℕ) (byte : ℕ) → length (text ++ byte ∷ []) ≡ length text + 1
one_longer text byte = length-append text (byte ∷ [])

-- the text has fewer bytes
pub one_more : (text : List ℕ) (start : ValueStart) (byte : ℕ) → IsStart text start → start.count < START → length start.kept ≡ START → IsStart (text ++ byte ∷ []) (record { kept = slice_set start.kept start.count byte; count = start.count + 1 })
one_more text start byte is few full =
    let longer = one_longer text byte in
    let short : length text ≤ START = grind (arith, nat_tests, is.counted) in
    let within_it : length (text ++ byte ∷ []) ≤ START = grind (arith, nat_tests, is.counted, longer) in
    let inside : start.count < length start.kept = omega (arith, few, full) in record {
      counted = grind (arith, nat_tests, is.counted, longer);
      same =
          take_more_set start.kept start.count byte inside
          ∙ ap (λ (bs : List ℕ). bs ++ byte ∷ []) (is.same ∙ take_all START text short)
          ∙ sym (take_all START (text ++ byte ∷ []) within_it);
    }

-- it has as many
pub no_more : (text : List ℕ) (start : ValueStart) (byte : ℕ) → IsStart text start → START ≤ start.count → IsStart (text ++ byte ∷ []) start
no_more text start byte is many =
    let longer = one_longer text byte in
    let long : START ≤ length text = grind (arith, nat_tests, is.counted) in record {
      counted = grind (arith, nat_tests, is.counted, longer);
      same = is.same ∙ sym (take-append-le START text (byte ∷ []) long);
    }
