-- Where the path of a hash ends.
use Rattle.std.proofs.Common.{◌≡◌, ℕ, zero, suc, ◌+◌, ◌^◌, ◌<◌, true, false, List, length, Option, Some, None, inl, inr, ◌⊎◌, refl, sym, ◌∙◌, subst, arith}
use Rattle.core_laws.specs.Maps.{entry_at, map_of}
use Rattle.core_slots.specs.SlotLayout.{filled, slot, is_other, HasOthers, IsOnPath, IsLaidOut}
use Rattle.core_slots.specs.Probe.{probe}
use Rattle.core_slots.proofs.SlotLayouts.{few_others, others_none, others_more, ended, search_finds}

some_none : {X : Type 0} {x : X} → Some x ≡ None → ⊥
some_none e = cc

module _ {X : Type 0} (key : X → ℕ) (lg h : ℕ) (slots : List (Option X)) where
  -- the first step on a path at which a search ends
  record IsFirstEnd (n : ℕ) : Type 0 where
    pub step : ℕ
    pub soon : step < n
    pub others : HasOthers key lg slots h step
    pub ends : is_other key h (slot slots (probe h lg step)) ≡ false

  -- among the first n slots on a path either a search ends, or all have other hashes
  first_end : (n : ℕ) → HasOthers key lg slots h n ⊎ IsFirstEnd n
  first_end zero = inl (others_none key lg slots h)
  first_end (suc n) = elim (first_end n) [
    | inr found ↦ inr (record { step = found.step; soon = omega (arith, found.soon); others = found.others; ends = found.ends })
    | inl others ↦
        (elim (is_other key h (slot slots (probe h lg n))) as (λ b. is_other key h (slot slots (probe h lg n)) ≡ b → HasOthers key lg slots h (suc n) ⊎ IsFirstEnd (suc n)) [
          | true ↦ λ e. let more : n + 1 ≡ suc n = omega arith in inl (subst (λ (m : ℕ). HasOthers key lg slots h m) more (others_more key lg slots h n others e))
          | false ↦ λ e. inr (record { step = n; soon = omega arith; others = others; ends = e })
        ]) refl
  ]

module _ {X : Type 0} (key : X → ℕ) where
  -- the path of a hash that no slot holds meets a free slot
  pub path_ends_free : (lg h : ℕ) (slots : List (Option X)) → IsLaidOut key lg slots → length (filled slots) < 2 ^ lg → entry_at key (map_of key (filled slots)) h ≡ None → (p : ℕ) × (IsOnPath key lg slots h p × (slot slots p ≡ None))
  path_ends_free lg h slots is room absent =
      elim (first_end key lg h slots (2 ^ lg)) [
        | inl others ↦ absurd (omega (arith, few_others key lg h (2 ^ lg) slots (omega arith) others, room))
        | inr found ↦
            let on : IsOnPath key lg slots h (probe h lg found.step) = record { step = found.step; in_range = found.soon; present = refl; others = found.others } in (
              probe h lg found.step,
              (
                on,
                (elim (ended key h (slot slots (probe h lg found.step)) found.ends) [
                  | inl free ↦ free
                  | inr taken ↦ absurd (some_none (sym taken.1 ∙ sym (search_finds key lg h (probe h lg found.step) slots is on found.ends) ∙ absent))
                ]),
              ),
            )
      ]
