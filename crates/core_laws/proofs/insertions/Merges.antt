-- Merging a listing into a retained map that is within a whole map.
use Rattle.std.proofs.Common.{◌≡◌, ℕ, ◌<◌, ◌≤◌, Bool, true, false, cond, ltb, List, [], ◌∷◌, Some, None, inl, inr, refl, sym, ap, arith}
use Rattle.std.specs.List.{AllByRecursion}
use Rattle.std.specs.Option.{option_map_or}
use Rattle.std.proofs.lemmas.Bool.Decides.{nat_tests}
use Rattle.core_laws.specs.Maps.{IsAscending, below, entry_at, with_entry}
use Rattle.core_laws.specs.Cuts.{Retained, retained}
use Rattle.core_laws.specs.Insertion.{is_screened, after_upsert, after_upserts, whole_upsert}
use Rattle.core_laws.specs.Step.{merge_step}
use Rattle.core_laws.specs.Lawful.{IsWithin}
use Rattle.core_laws.specs.Operators.{joined}
use Rattle.core_laws.proofs.maps.Ascending.{ascending-filter}
use Rattle.core_laws.proofs.insertions.Cases.{screened_case, is_screened_true}
use Rattle.core_laws.proofs.cuts.WithinWholeMaps.{within-upsert, below-below, lawful-le}
use Rattle.core_laws.specs.Entries.{KeepsKey}

module _ {X : Type 0} (key : X → ℕ) (k m : ℕ) (merges : X → X → X) (refuses : X → X → Bool) (keeps : KeepsKey key merges) where
  whole_merge : (x : X) (whole : List X) → whole_upsert key (key x) (merge_step merges refuses x) whole ≡ with_entry key whole (option_map_or (λ w. merges w x) (entry_at key whole (key x)) x)
  whole_merge x whole = elim (entry_at key whole (key x)) as (λ o. option_map_or (λ w. with_entry key whole (merges w x)) o (with_entry key whole x) ≡ with_entry key whole (option_map_or (λ w. merges w x) o x)) [ Some w ↦ refl | None ↦ refl ]

  pub within-joined : (xs : List X) (v : Retained X) (whole : List X) → AllByRecursion (λ x. 0 < key x) xs → IsWithin key k m v whole → IsWithin key k m (after_upserts key k (merge_step merges refuses) xs v) (joined key merges whole (below key xs m))
  within-joined [] v whole nonzero within = within
  within-joined (x ∷ xs) v whole nonzero within =
      (elim (ltb (key x) m) as (λ b. ltb (key x) m ≡ b → IsWithin key k m (after_upserts key k (merge_step merges refuses) xs (after_upsert key k (key x) (merge_step merges refuses x) v)) (joined key merges whole (cond b (x ∷ below key xs m) (below key xs m)))) [
        | true ↦ λ e.
            let step : IsWithin key k m (after_upsert key k (key x) (merge_step merges refuses x) v) (whole_upsert key (key x) (merge_step merges refuses x) whole) =
            within-upsert key k m (key x) (merge_step merges refuses x) v whole nonzero.0 (λ y same. keeps y x same) (λ y made. let same : x ≡ y = cc in ap key (sym same)) within in
            within-joined xs _ _ nonzero.1 (rw whole_merge at step)
        | false ↦ λ e.
            let le : m ≤ key x = grind (arith, nat_tests) in
            let s : is_screened (key x) v.theta ≡ true = is_screened_true (key x) v.theta (inr (omega (arith, le, lawful-le key whole k m v.theta within.lawful))) in
            rw (screened_case key k (key x) (merge_step merges refuses x) v s).after_is (within-joined xs v whole nonzero.1 within)
      ]) refl

  pub within-lowered : (xs : List X) → IsAscending key xs → IsWithin key k m (retained key xs m) (below key xs m)
  within-lowered xs up = record { ascending = ascending-filter key (λ x. ltb (key x) m) xs up; entries_are = sym (below-below key xs m m (omega arith)); lawful = inl refl }
