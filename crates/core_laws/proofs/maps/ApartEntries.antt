-- Entries whose keys differ, and some of them.
use Rattle.std.proofs.Common.{◌≡◌, ℕ, Bool, true, false, cond, eqb, List, [], ◌∷◌, Some, None, refl}
use Rattle.std.specs.List.{filter}
use Rattle.core_laws.specs.Maps.{IsApart, entry_at}

module _ {X : Type 0} (key : X → ℕ) where
  -- a key without an entry has none among some of the entries
  filter_absent : (p : X → Bool) (xs : List X) (q : ℕ) → entry_at key xs q ≡ None → entry_at key (filter p xs) q ≡ None
  filter_absent p [] q none = refl
  filter_absent p (x ∷ xs) q none =
      (elim (eqb (key x) q) as (λ b. eqb (key x) q ≡ b → cond b (Some x) (entry_at key xs q) ≡ None → entry_at key (filter p (x ∷ xs)) q ≡ None) [
        | true ↦ λ e n. absurd (cc)
        | false ↦ λ e n. elim (p x) as (λ b. entry_at key (cond b (x ∷ filter p xs) (filter p xs)) q ≡ None) [ true ↦ rw e (filter_absent p xs q n) | false ↦ filter_absent p xs q n ]
      ]) refl none

  -- keys that differ differ among some of the entries
  pub apart-filter : (p : X → Bool) (xs : List X) → IsApart key xs → IsApart key (filter p xs)
  apart-filter p [] each = tt
  apart-filter p (x ∷ xs) each =
      elim (p x) as (λ b. IsApart key (cond b (x ∷ filter p xs) (filter p xs))) [ true ↦ (filter_absent p xs (key x) each.0, apart-filter p xs each.1) | false ↦ apart-filter p xs each.1 ]
