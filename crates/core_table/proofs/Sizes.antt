-- Sizes of tables.
use Rattle.std.proofs.Common.{◌≡◌, ℕ, suc, ◌*◌, ◌^◌, ◌<◌, ◌≤◌, true, leb, IsTrue, is_some, inl, inr, arith}
use native.Mathlib.Numerals.{unary_clauses}
use Rattle.std.proofs.lemmas.Bool.{cases_lt}
use Rattle.std.proofs.lemmas.Bool.Decides.{nat_tests}
use Rattle.std.proofs.lemmas.Nat.{leading_top}
use Rattle.std.proofs.Math.Pow.{pow_mono}
use Rattle.core_laws.specs.Maps.{entry_at}
use Rattle.core_table.specs.HashTable.{MapTable, whole_log, has_room, may_insert}
use Rattle.core_laws.specs.Insertion.{is_screened}
use Rattle.core_laws.proofs.insertions.Cases.{or_left, or_right}

-- the r with 2^r ≤ n < 2^(r+1) is the binary logarithm of n, rounded down
pub whole_log_is : (n r : ℕ) → 0 < n → n < 2 ^ 64 → 2 ^ r ≤ n → n < 2 * 2 ^ r → r ≡ whole_log n
whole_log_is n r low fits le lt =
    let top = leading_top 64 n low fits in
    elim (cases_lt r top.0) [
      | inl less ↦ absurd (let a : 2 ^ r * 2 ≤ 2 ^ top.0 = simp unary_clauses at (pow_mono {i = suc r} {j = top.0} (omega (arith, less))) in omega (arith, a, lt, top.2))
      | inr ge ↦ elim (cases_lt top.0 r) [
        | inl more ↦ absurd (let a : 2 ^ suc top.0 ≤ 2 ^ r = pow_mono {i = suc top.0} {j = r} (omega (arith, more)) in omega (arith, a, le, top.3))
        | inr same ↦ omega (arith, ge, same, top.1)
      ]
    ]

module _ {X : Type 0} (key : X → ℕ) where
  -- if there is room, every hash may be inserted
  pub with_room : (h : ℕ) (t : MapTable X) → IsTrue (has_room t) → IsTrue (may_insert key h t)
  with_room h t room = or_right (is_screened h t.kept.theta) _ (or_right (is_some (entry_at key t.kept.entries h)) _ room)

  -- a table of eight nominal entries or more always has room
  pub always_room : (h : ℕ) (t : MapTable X) → 3 ≤ t.lg_nom → IsTrue (may_insert key h t)
  always_room h t le = let large : leb 3 t.lg_nom ≡ true = grind (arith, nat_tests) in with_room h t (or_left (leb 3 t.lg_nom) _ large)
