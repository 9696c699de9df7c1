-- Sums of whole numbers within the bounds of a type.
use Rattle.std.specs.Prelude.{ℕ, ℤ, pos, ◌<◌, ◌≡◌, ◌+◌, ◌-◌, ◌^◌, ◌+ℤ◌, ◌&&◌, Bool, true, false, Option, Some, None}
use Rattle.std.specs.Prelude.{if◌then◌else◌, nat_lt, int_le, option_map}
use Rattle.std.proofs.Common.{refl, arith, inl, inr}
use Rattle.std.proofs.lemmas.Bool.{cases_lt}
use Rattle.std.proofs.lemmas.Bool.Decides.{nat_tests}
use Rattle.std.proofs.lemmas.Int.{ints}
use Rattle.std.proofs.lemmas.Nat.{pow_pos}
use Rattle.core_laws.specs.Step.{Step}
use Rattle.core_slots.specs.declared.entry.TupleEntry.{TupleEntry}
use Rattle.core_policies.specs.Summaries.{update_step}

-- a whole number within bounds
abbrev pub is_within : (least greatest z : ℤ) → Bool
is_within least greatest z = int_le least z && int_le z greatest

-- the sum of two whole numbers, if it is within bounds
abbrev pub sum_within : (least greatest x y : ℤ) → Option ℤ
sum_within least greatest x y = if is_within least greatest (x +ℤ y) then Some (x +ℤ y) else None

-- the sum of two numbers, if it fits in this many bits
abbrev pub unsigned_sum : (bits x y : ℕ) → Option ℕ
unsigned_sum bits x y = if nat_lt (x + y) (2 ^ bits) then Some (x + y) else None

-- the step that adds a value to the sum at a hash, which is 0 at first; a sum of 2^64 or more is refused
abbrev pub adds : (hash value : ℕ) → Step (TupleEntry ℕ)
adds hash value = update_step (Some 0) (unsigned_sum 64) hash value

-- the same number, and the same sum, as whole numbers
pub unsigned-distinct : (x y : ℕ) → pos x ≡ pos y → x ≡ y
unsigned-distinct x y same = omega (arith, ints)

pub unsigned-summed : (bits x y : ℕ) → option_map pos (unsigned_sum bits x y) ≡ sum_within (pos 0) (pos (2 ^ bits - 1)) (pos x) (pos y)
unsigned-summed bits x y =
    let some : 0 < 2 ^ bits = pow_pos bits in
    elim (cases_lt (x + y) (2 ^ bits)) [
      | inl fits ↦
          let a : nat_lt (x + y) (2 ^ bits) ≡ true = grind (arith, nat_tests) in
          let b : is_within (pos 0) (pos (2 ^ bits - 1)) (pos (x + y)) ≡ true = grind (arith, ints) in
          rw (a, b) refl
      | inr high ↦
          let a : nat_lt (x + y) (2 ^ bits) ≡ false = grind (arith, nat_tests) in
          let b : is_within (pos 0) (pos (2 ^ bits - 1)) (pos (x + y)) ≡ false = grind (arith, ints) in
          rw (a, b) refl
    ]

same-option : {X : Type 0} (o : Option X) → option_map (λ x. x) o ≡ o
same-option None = refl
same-option (Some x) = refl

pub signed-summed : (least greatest x y : ℤ) → option_map (λ z. z) (sum_within least greatest x y) ≡ sum_within least greatest x y
signed-summed least greatest x y = same-option (sum_within least greatest x y)
