-- Whether all chosen fields of a line are free.
use Rattle.std.proofs.Common.{◌≡◌, ℕ, suc, ◌+◌, ◌<◌, ◌≤◌, Bool, true, false, List, ◌∷◌, length, map, drop, get_or, sym, ap, ◌∙◌, arith}
use Rattle.std.specs.Prelude.{◌&&◌}
use Rattle.std.specs.List.{list_all}
use Rattle.std.proofs.Math.Seq.{drop-cons}
use Rattle.std.proofs.lemmas.List.{drop_all}

module _ (free : List ℕ → Bool) (f : ℕ → List ℕ) (numbers : List ℕ) (i : ℕ) where
  next_free : i < length numbers → list_all free (map f (drop i numbers)) ≡ free (f (get_or numbers i 0)) && list_all free (map f (drop (i + 1) numbers))
  next_free within = ap (λ ns. list_all free (map f ns)) (drop-cons numbers i 0 within ∙ ap (λ (n : ℕ). get_or numbers i 0 ∷ drop n numbers) {x = suc i} {y = i + 1} (omega arith))

  module _ (is : list_all free (map f numbers) ≡ list_all free (map f (drop i numbers))) where
    pub free_passed : i < length numbers → free (f (get_or numbers i 0)) ≡ true → list_all free (map f numbers) ≡ list_all free (map f (drop (i + 1) numbers))
    free_passed within e = is ∙ next_free within ∙ ap (λ b. b && list_all free (map f (drop (i + 1) numbers))) e

    pub not_free : i < length numbers → free (f (get_or numbers i 0)) ≡ false → false ≡ list_all free (map f numbers)
    not_free within e = sym (is ∙ next_free within ∙ ap (λ b. b && list_all free (map f (drop (i + 1) numbers))) e)

    pub all_free : length numbers ≤ i → true ≡ list_all free (map f numbers)
    all_free ended = sym (is ∙ ap (λ ns. list_all free (map f ns)) (drop_all i numbers ended))
