-- Maps whose entries are turned into others of the same keys.
use Rattle.std.proofs.Common.{◌≡◌, ℕ, ◌*◌, ◌/◌, Bool, true, false, cond, leb, ltb, eqb, List, [], ◌∷◌, ◌++◌, map, length, Option, Some, None, refl, sym, ap, ◌∙◌}
use Rattle.std.specs.Prelude.{◌&&◌}
use Rattle.std.specs.List.{filter, find}
use Rattle.std.specs.Option.{option_map_or, option_map}
use Rattle.std.proofs.lemmas.List.{length-map}
use Rattle.core_laws.specs.Cuts.{Retained, retained, cut}
use Rattle.core_laws.specs.Maps.{below, above, rank, key_of_rank, entry_at, with_entry}
use Rattle.core_laws.specs.Insertion.{rebuilt}
use Rattle.core_laws.proofs.cuts.Cuts.{length-below}

module _ {X Y : Type 0} (f : X → Y) where
  filter-map : (p : X → Bool) (q : Y → Bool) (xs : List X) → ((x : X) → q (f x) ≡ p x) → filter q (map f xs) ≡ map f (filter p xs)
  filter-map p q [] same = refl
  filter-map p q (x ∷ xs) same =
      rw (same x) (elim (p x) as (λ b. cond b (f x ∷ filter q (map f xs)) (filter q (map f xs)) ≡ map f (cond b (x ∷ filter p xs) (filter p xs))) [
        | true ↦ ap (λ ys. f x ∷ ys) (filter-map p q xs same)
        | false ↦ filter-map p q xs same
      ])

  find-map : (p : X → Bool) (q : Y → Bool) (xs : List X) → ((x : X) → q (f x) ≡ p x) → find q (map f xs) ≡ option_map f (find p xs)
  find-map p q [] same = refl
  find-map p q (x ∷ xs) same =
      rw (same x) (elim (p x) as (λ b. cond b (Some (f x)) (find q (map f xs)) ≡ option_map f (cond b (Some x) (find p xs))) [
        | true ↦ refl
        | false ↦ find-map p q xs same
      ])

  pub map-append : (xs ys : List X) → map f (xs ++ ys) ≡ map f xs ++ map f ys
  map-append [] ys = refl
  map-append (x ∷ xs) ys = ap (λ zs. f x ∷ zs) (map-append xs ys)

module _ {X Y : Type 0} (f : X → Y) (key : X → ℕ) (other : Y → ℕ) (alike : (x : X) → other (f x) ≡ key x) where
  abbrev pub turned : Retained X → Retained Y
  turned v = record { entries = map f v.entries; theta = v.theta }

  pub below-map : (xs : List X) (t : ℕ) → below other (map f xs) t ≡ map f (below key xs t)
  below-map xs t = filter-map f (λ x. ltb (key x) t) (λ y. ltb (other y) t) xs (λ x. ap (λ (h : ℕ). ltb h t) (alike x))

  pub above-map : (xs : List X) (t : ℕ) → above other (map f xs) t ≡ map f (above key xs t)
  above-map xs t = filter-map f (λ x. ltb t (key x)) (λ y. ltb t (other y)) xs (λ x. ap (λ (h : ℕ). ltb t h) (alike x))

  pub entry_at-map : (xs : List X) (q : ℕ) → entry_at other (map f xs) q ≡ option_map f (entry_at key xs q)
  entry_at-map xs q = find-map f (λ x. eqb (key x) q) (λ y. eqb (other y) q) xs (λ x. ap (λ (h : ℕ). eqb h q) (alike x))

  pub with_entry-map : (xs : List X) (x : X) → with_entry other (map f xs) (f x) ≡ map f (with_entry key xs x)
  with_entry-map xs x =
      rw (alike x) (ap (λ ys. ys ++ f x ∷ above other (map f xs) (key x)) (below-map xs (key x)) ∙ ap (λ ys. map f (below key xs (key x)) ++ f x ∷ ys) (above-map xs (key x)) ∙ sym (map-append f (below key xs (key x)) (x ∷ above key xs (key x))))

  pub rank-map : (xs : List X) (t : ℕ) → rank other (map f xs) t ≡ rank key xs t
  rank-map xs t = sym (length-below other (map f xs) t) ∙ ap length (below-map xs t) ∙ length-map (below key xs t) f ∙ length-below key xs t

  key_turned : (o : Option X) (t : ℕ) → option_map_or other (option_map f o) t ≡ option_map_or key o t
  key_turned None t = refl
  key_turned (Some x) t = alike x

  key_of_rank-map : (k : ℕ) (xs : List X) (t : ℕ) → key_of_rank other k (map f xs) t ≡ key_of_rank key k xs t
  key_of_rank-map k xs t =
      ap (λ o. option_map_or other o t) (find-map f (λ x. eqb (rank key xs (key x)) k) (λ y. eqb (rank other (map f xs) (other y)) k) xs (λ x. ap (λ (n : ℕ). eqb n k) (rank-map xs (other (f x)) ∙ ap (λ (h : ℕ). rank key xs h) (alike x))))
      ∙ key_turned (find (λ x. eqb (rank key xs (key x)) k) xs) t

  pub cut-map : (k : ℕ) (xs : List X) (t : ℕ) → cut other k (map f xs) t ≡ turned (cut key k xs t)
  unfolding cut
  cut-map k xs t =
      ap (λ ys. retained other (map f xs) (key_of_rank other k ys t)) (below-map xs t)
      ∙ ap (λ (c : ℕ). retained other (map f xs) c) (key_of_rank-map k (below key xs t) t)
      ∙ ap (λ ys. record { entries = ys; theta = key_of_rank key k (below key xs t) t }) (below-map xs (key_of_rank key k (below key xs t) t))

  pub rebuilt-map : (k : ℕ) (xs : List X) (t : ℕ) → rebuilt other k (map f xs) t ≡ turned (rebuilt key k xs t)
  unfolding rebuilt
  rebuilt-map k xs t =
      rw (length-map xs f) (elim (leb 8 k && ltb (15 * k / 8) (length xs)) as (λ b. cond b (cut other k (map f xs) t) (record { entries = map f xs; theta = t }) ≡ turned (cond b (cut key k xs t) (record { entries = xs; theta = t }))) [
        | true ↦ cut-map k xs t
        | false ↦ refl
      ])
