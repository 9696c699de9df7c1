-- A sketch through its image.
use Rattle.std.proofs.Common.{◌≡◌, ℕ, ◌<◌, ◌^◌, ◌++◌, List, [], Result, Ok, Err, true, None, inl, inr, refl, sym, subst, ◌∙◌, arith}
use Rattle.std.proofs.lemmas.List.{append-nil}
use Rattle.std.specs.Prelude.{IfOk, IfErr}
use Rattle.sketch_base.specs.Seed.{seed_hash}
use Rattle.sketch_base.specs.declared.error.ErrorKind.{ErrorKind}
use Rattle.core_compact.specs.CompactState.{Compact}
use Rattle.core_images.specs.Read.{IsRefused}
use Rattle.core_laws.specs.Refusal.{Refuses}

seed_hash-small : (seed : ℕ) → seed_hash seed < 2 ^ 16
unfolding seed_hash
seed_hash-small seed = omega arith

-- sound sketches, their images and the sketches read from those, by the laws of reading and writing
module _ {X : Type 0} (IsSound : Compact X → Type 0) (written : Compact X → List ℕ) (Reads : List ℕ → ℕ → Compact X → Type 0)
    (again : (s : Compact X) (rest : List ℕ) → IsSound s → 0 < s.seed_hash → s.seed_hash < 2 ^ 16 → Reads (written s ++ rest) s.seed_hash s)
    (one : (bytes : List ℕ) (h : ℕ) (r s : Compact X) → Reads bytes h r → Reads bytes h s → r ≡ s)
    (s : Compact X) (seed : ℕ) (bytes : List ℕ) (sound : IsSound s) (same : s.seed_hash ≡ seed_hash seed) (seeded : 0 < seed_hash seed) (image : bytes ≡ written s) where
  reads_it : Reads bytes (seed_hash seed) s
  reads_it =
      let low : 0 < s.seed_hash = omega (arith, same, seeded) in
      let small : s.seed_hash < 2 ^ 16 = omega (arith, same, seed_hash-small seed) in
      let all : written s ++ [] ≡ bytes = append-nil (written s) ∙ sym image in
      subst (λ (h : ℕ). Reads bytes h s) same (subst (λ (bs : List ℕ). Reads bs s.seed_hash s) all (again s [] sound low small))

  -- reading returns the sketch that was written
  pub same_read : (r : Result (Compact X) ErrorKind) → IfOk r (λ t. Reads bytes (seed_hash seed) t) → IfOk r (λ t. t ≡ s)
  same_read (Ok t) reads = one bytes (seed_hash seed) t s reads reads_it
  same_read (Err e) reads = tt

  -- or is refused, for lack of memory alone
  pub memory_alone : (r : Result (Compact X) ErrorKind) → IfErr r (λ e. IsRefused e ((t : Compact X) × Reads bytes (seed_hash seed) t)) → Refuses r None true
  memory_alone (Ok t) refused = refl
  memory_alone (Err e) (inl memory) = inr (memory, refl)
  memory_alone (Err e) (inr nothing) = absurd (nothing.1 (s, reads_it))
