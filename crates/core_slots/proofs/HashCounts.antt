-- How often a hash occurs among entries.
use Rattle.std.proofs.Common.{◌≡◌, ℕ, zero, suc, ◌+◌, ◌<◌, ◌≤◌, Bool, true, false, cond, eqb, List, [], ◌∷◌, length, set, Option, Some, None, refl, ap, subst, arith}
use Rattle.std.specs.List.{count_by}
use Rattle.std.proofs.lemmas.Bool.Decides.{nat_tests}
use Rattle.core_laws.specs.Maps.{IsApart, entry_at}
use Rattle.core_slots.specs.SlotLayout.{filled, slot}
use Rattle.core_slots.proofs.Moves.{count-cons}

past : (a b c d e f : ℕ) → a ≡ d + b → c ≡ d + e → b ≡ f + e → a ≡ f + c
past a b c d e f one two three = omega (arith, one, two, three)

module _ {X : Type 0} (key : X → ℕ) where
  pub one_here : (x : X) (q : ℕ) → eqb (key x) q ≡ true → count_by (λ y. eqb (key y) q) (x ∷ []) ≡ 1
  one_here x q is = rw is refl

  none_here : (x : X) (q : ℕ) → eqb (key x) q ≡ false → count_by (λ y. eqb (key y) q) (x ∷ []) ≡ 0
  none_here x q is = rw is refl

  pub counted_none : (xs : List X) (q : ℕ) → count_by (λ x. eqb (key x) q) xs ≡ 0 → entry_at key xs q ≡ None
  counted_none [] q none = refl
  counted_none (x ∷ xs) q none =
      let parts = count-cons (λ y. eqb (key y) q) x xs in
      (elim (eqb (key x) q) as (λ b. eqb (key x) q ≡ b → cond b (Some x) (entry_at key xs q) ≡ None) [
        | true ↦ λ e. absurd (omega (arith, one_here x q e, parts, none))
        | false ↦ λ e. counted_none xs q (omega (arith, parts, none))
      ]) refl

  pub counted_there : (slots : List (Option X)) (p q : ℕ) (x : X) → slot slots p ≡ Some x → key x ≡ q → 1 ≤ count_by (λ z. eqb (key z) q) (filled slots)
  counted_there [] p q x content same = absurd (cc)
  counted_there (None ∷ slots) zero q x content same = absurd (cc)
  counted_there (Some y ∷ slots) zero q x content same =
      let is : eqb (key y) q ≡ true = let e : y ≡ x = cc in let k = ap key e in grind (arith, nat_tests) in
      omega (arith, count-cons (λ z. eqb (key z) q) y (filled slots), one_here y q is)
  counted_there (None ∷ slots) (suc p) q x content same = counted_there slots p q x content same
  counted_there (Some y ∷ slots) (suc p) q x content same = omega (arith, count-cons (λ z. eqb (key z) q) y (filled slots), counted_there slots p q x content same)

  pub count_put : (p : X → Bool) (slots : List (Option X)) (at : ℕ) (x : X) → at < length slots → slot slots at ≡ None → count_by p (filled (set slots at (Some x))) ≡ count_by p (x ∷ []) + count_by p (filled slots)
  count_put p [] at x lt free = absurd (omega (arith, lt))
  count_put p (None ∷ slots) zero x lt free = count-cons p x (filled slots)
  count_put p (Some y ∷ slots) zero x lt free = absurd (cc)
  count_put p (None ∷ slots) (suc at) x lt free = count_put p slots at x (omega (arith, lt)) free
  count_put p (Some y ∷ slots) (suc at) x lt free =
      past (count_by p (y ∷ filled (set slots at (Some x)))) (count_by p (filled (set slots at (Some x)))) (count_by p (y ∷ filled slots)) (count_by p (y ∷ [])) (count_by p (filled slots)) (count_by p (x ∷ []))
      (count-cons p y (filled (set slots at (Some x)))) (count-cons p y (filled slots)) (count_put p slots at x (omega (arith, lt)) free)

  pub absent_counted : (xs : List X) (q : ℕ) → entry_at key xs q ≡ None → count_by (λ x. eqb (key x) q) xs ≡ 0
  absent_counted [] q none = refl
  absent_counted (x ∷ xs) q none =
      let parts = count-cons (λ y. eqb (key y) q) x xs in
      (elim (eqb (key x) q) as (λ b. eqb (key x) q ≡ b → cond b (Some x) (entry_at key xs q) ≡ None → count_by (λ y. eqb (key y) q) (x ∷ xs) ≡ 0) [
        | true ↦ λ e n. absurd (cc)
        | false ↦ λ e n. omega (arith, parts, none_here x q e, absent_counted xs q n)
      ]) refl none

  pub apart_once : (xs : List X) (q : ℕ) → IsApart key xs → count_by (λ x. eqb (key x) q) xs ≤ 1
  apart_once [] q each = omega arith
  apart_once (x ∷ xs) q each =
      let parts = count-cons (λ y. eqb (key y) q) x xs in
      (elim (eqb (key x) q) as (λ b. eqb (key x) q ≡ b → count_by (λ y. eqb (key y) q) (x ∷ xs) ≤ 1) [
        | true ↦ λ e.
            let same : key x ≡ q = grind (arith, nat_tests) in
            let none : entry_at key xs q ≡ None = subst (λ (n : ℕ). entry_at key xs n ≡ None) same each.0 in
            omega (arith, parts, one_here x q e, absent_counted xs q none)
        | false ↦ λ e. omega (arith, parts, none_here x q e, apart_once xs q each.1)
      ]) refl
