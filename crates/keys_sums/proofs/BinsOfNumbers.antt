-- Each number from 1 on is in one bin.
use Rattle.std.proofs.Common.{ℕ, zero, suc, ◌≡◌, ◌≤◌, ◌<◌, ◌+◌, ◌^◌, true, false, refl, arith, inl, inr}
use Rattle.std.proofs.Math.Pow.{pow_mono}
use Rattle.std.proofs.lemmas.Bool.{cases_lt, cases_order, and_parts, and_from, and_left, leb-true, le-leb, lt-leb}
use Rattle.keys_sums.specs.declared.bins.TheConstants.{BINS}
use Rattle.keys_sums.specs.Bins.{least_of, is_in, IsInOneBin, HasNumber}

-- a number in a bin is between its least and its greatest one
from_bin : (bin n : ℕ) → is_in bin n ≡ true → (least_of bin ≤ n) × (n ≤ 2 ^ bin)
from_bin bin n has = let tests = and_parts _ _ has in (leb-true _ _ tests.0, leb-true _ _ tests.1)

into_bin : (bin n : ℕ) → least_of bin ≤ n → n ≤ 2 ^ bin → is_in bin n ≡ true
into_bin bin n low high = and_from _ _ (le-leb _ _ low) (le-leb _ _ high)

-- a number up to a power of two is in a bin
in_some_bin : (most n : ℕ) → 1 ≤ n → n ≤ 2 ^ most → (bin : ℕ) × (bin ≤ most) × (is_in bin n ≡ true)
in_some_bin zero n low high = (0, omega arith, into_bin 0 n low high)
in_some_bin (suc most) n low high =
    elim (cases_lt (2 ^ most) n) [
      | inl above ↦ (suc most, omega arith, into_bin (suc most) n (omega (arith, above)) high)
      | inr up_to ↦ let found = in_some_bin most n low up_to in (found.0, omega (arith, found.1), found.2)
    ]

-- a greater bin has none of a bin's numbers
not_in_greater : (bin other n : ℕ) → bin < other → is_in bin n ≡ true → is_in other n ≡ true → ⊥
not_in_greater bin zero n less has has_other = omega (arith, less)
not_in_greater bin (suc other) n less has has_other =
    let power : 2 ^ bin ≤ 2 ^ other = pow_mono {i = bin} {j = other} (omega (arith, less)) in
    let low : 2 ^ other + 1 ≤ n = (from_bin (suc other) n has_other).0 in
    omega (arith, power, low, (from_bin bin n has).1)

pub in_one_bin : (n : ℕ) → 1 ≤ n → n < 2 ^ 64 → IsInOneBin n
in_one_bin n low high =
    let found = in_some_bin 64 n low (omega (arith, high)) in
    record {
      bin = found.0;
      below = omega (arith, found.1);
      has = found.2;
      alone = λ other has. elim (cases_order other found.0) [
        | inl same ↦ same
        | inr (inl less) ↦ absurd (not_in_greater other found.0 n less has found.2)
        | inr (inr more) ↦ absurd (not_in_greater found.0 other n more found.2 has)
      ];
    }

pub zero_in_none : (bin : ℕ) → is_in bin 0 ≡ false
zero_in_none zero = refl
zero_in_none (suc bin) = and_left _ _ (lt-leb (2 ^ bin + 1) 0 (omega arith))

pub has_number : (bin : ℕ) → bin < BINS → HasNumber bin
has_number zero below = record { number = 1; positive = omega arith; limited = omega arith; has = refl }
has_number (suc bin) below =
    let least : 1 ≤ 2 ^ bin = pow_mono {i = 0} {j = bin} (omega arith) in
    let most : 2 ^ bin ≤ 2 ^ 63 = pow_mono {i = bin} {j = 63} (omega (arith, below)) in
    record {
      number = 2 ^ bin + 1;
      positive = omega (arith, least);
      limited = omega (arith, most);
      has = into_bin (suc bin) _ (omega arith) (omega (arith, least));
    }
