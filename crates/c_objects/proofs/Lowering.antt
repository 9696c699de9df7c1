-- A number of nominal entries that no union has is refused as any other such number is.
use Rattle.std.proofs.Common.{◌≡◌, ◌≤◌, ◌<◌, ◌&&◌, ℕ, Bool, false, true, not, Option, Some, None, cond, inl, inr, refl, sym, ap, ◌∙◌, subst, nat_le, nat_lt, arith}
use Rattle.std.proofs.lemmas.Bool.{cases_lt}
use Rattle.std.proofs.lemmas.Bool.Decides.{nat_tests}
use Rattle.core_laws.specs.declared.TheConstants.{MAX_LG_K}
use Rattle.core_operators.specs.Union.{Union, IsUnion, lower_refusal, lower_allocates}
use Rattle.sketch_base.specs.declared.error.ErrorKind.{ErrorKind}
use Rattle.sketch_base.specs.declared.error.ErrorKind.TheVariants.{InvalidArgument, Failed}

some_not_none : {Y : Type 0} {y : Y} → Some y ≡ None → ⊥
some_not_none e = grind (arith, e)

true_not_false : true ≡ false → ⊥
true_not_false e = grind (arith, e)

too_great : (a b : ℕ) → a ≤ 26 → 26 < b → (nat_le 4 b && nat_le b a) ≡ false
too_great a b low high = grind (arith, nat_tests)

not_less : (a b : ℕ) → a ≤ 26 → 26 < b → (nat_le 4 b && nat_lt b a) ≡ false
not_less a b low high = grind (arith, nat_tests)

refused : (failed valid : Bool) → valid ≡ false → cond failed (Some Failed) (cond valid None (Some InvalidArgument)) ≡ None → ⊥
refused true valid e none = some_not_none none
refused false true e none = true_not_false e
refused false false e none = some_not_none none

module _ {X P : Type 0} (u : Union X P) (sound : IsUnion u) (lg_k byte : ℕ) (valid : lg_k ≤ 26 → byte ≡ lg_k) (great : 26 < lg_k → 26 < byte) where
  both : {Y : Type 0} (f : Bool → Y) (test : ℕ → Bool) → (26 < lg_k → test byte ≡ false) → (26 < lg_k → test lg_k ≡ false) → f (test byte) ≡ f (test lg_k)
  both f test one other = elim (cases_lt 26 lg_k) [
    | inl far ↦ ap f (one far ∙ sym (other far))
    | inr near ↦ ap (λ n. f (test n)) (valid near)
  ]

  pub same_refusal : lower_refusal u byte ≡ lower_refusal u lg_k
  same_refusal = both (λ t. cond u.failed (Some Failed) (cond t None (Some InvalidArgument))) (λ n. nat_le 4 n && nat_le n u.lg_k)
      (λ far. too_great u.lg_k byte sound.lg_k_high (great far)) (λ far. too_great u.lg_k lg_k sound.lg_k_high far)

  pub same_request : lower_allocates u byte ≡ lower_allocates u lg_k
  same_request = both (λ t. not u.failed && t) (λ n. nat_le 4 n && nat_lt n u.lg_k)
      (λ far. not_less u.lg_k byte sound.lg_k_high (great far)) (λ far. not_less u.lg_k lg_k sound.lg_k_high far)

  -- a number that is not refused is one that a union may have
  pub accepted : lower_refusal u byte ≡ None → byte ≡ lg_k
  accepted none = elim (cases_lt 26 lg_k) [
    | inl far ↦ absurd (refused u.failed (nat_le 4 byte && nat_le byte u.lg_k) (too_great u.lg_k byte sound.lg_k_high (great far)) none)
    | inr near ↦ valid near
  ]
