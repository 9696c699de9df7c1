-- If a policy refuses, the whole map has a mark.
use Rattle.std.proofs.Common.{◌≡◌, ℕ, Bool, true, false, cond, eqb, ltb, map, Option, Some, None, is_some, List, [], ◌∷◌, refl, sym, ap, ◌∙◌, arith}
use Rattle.std.specs.Option.{option_map, option_map_or}
use Rattle.std.proofs.lemmas.Bool.Decides.{nat_tests}
use Rattle.sketch_base.specs.declared.error.ErrorKind.{ErrorKind}
use Rattle.core_laws.specs.Cuts.{Retained}
use Rattle.core_laws.specs.Maps.{IsApart, below, entry_at, with_entry}
use Rattle.core_laws.specs.Insertion.{whole_upsert, is_screened, upsert_refusal}
use Rattle.core_laws.specs.Operators.{joined, common, both}
use Rattle.core_laws.specs.Folds.{Fold, Value, Refused, fold_key, fold_merges, folded, fold_writes, fold_makes, has_mark}
use Rattle.core_laws.specs.Step.{Step}
use Rattle.core_laws.proofs.maps.MappedEntries.{entry_at-map}
use Rattle.core_laws.proofs.operators.CommonMaps.{entry_at-common}
use Rattle.core_laws.proofs.operators.JoinedMaps.{entry_at-joined, either}
use Rattle.core_laws.proofs.maps.LookUps.{entry_at-below, entry_at-with_entry}
use Rattle.core_laws.proofs.insertions.Unmarked.{fold_keeps}
use Rattle.core_laws.proofs.insertions.Cases.{screened_case, existing_case, absent_case}
use Rattle.core_laws.specs.Entries.{KeepsKey}

module _ {X : Type 0} (key : X → ℕ) where
  -- a mark found at a key is in the map
  pub found_mark : (whole : List (Fold X)) (q h : ℕ) → entry_at (fold_key key) whole q ≡ Some (Refused h) → has_mark whole ≡ true
  found_mark [] q h found = absurd (cc)
  found_mark (Refused g ∷ xs) q h found = refl
  found_mark (Value x ∷ xs) q h found =
      (elim (eqb (key x) q) as (λ b. cond b (Some (Value x)) (entry_at (fold_key key) xs q) ≡ Some (Refused h) → has_mark xs ≡ true) [ true ↦ λ e. absurd (cc) | false ↦ λ e. found_mark xs q h e ]) found

  same_eqb : (q : ℕ) → eqb q q ≡ true
  same_eqb q = grind (arith, nat_tests)

  -- a mark that is inserted is in the map
  put_mark : (whole : List (Fold X)) (h : ℕ) → has_mark (with_entry (fold_key key) whole (Refused h)) ≡ true
  put_mark whole h = found_mark _ h h (entry_at-with_entry (fold_key key) whole (Refused h) h ∙ ap (λ b. cond b (Some (Refused h)) (entry_at (fold_key key) whole h)) (same_eqb h))

  low : (h theta : ℕ) → is_screened h theta ≡ false → ltb h theta ≡ true
  low h theta e = grind (arith, nat_tests)

  -- below theta a whole map has at a key what is retained there
  held_at : (whole : List (Fold X)) (v : Retained X) (q : ℕ) → map Value v.entries ≡ below (fold_key key) whole v.theta → ltb q v.theta ≡ true → entry_at (fold_key key) whole q ≡ option_map Value (entry_at key v.entries q)
  held_at whole v q all lt =
      sym (entry_at-below (fold_key key) whole v.theta q ∙ ap (λ b. cond b (entry_at (fold_key key) whole q) None) lt)
      ∙ ap (λ ys. entry_at (fold_key key) ys q) (sym all)
      ∙ entry_at-map Value key (fold_key key) (λ y. refl) v.entries q

  -- a refused step leaves a mark
  pub step_marks : (h : ℕ) (step : Step X) (v : Retained X) (whole : List (Fold X)) (kind : ErrorKind) → map Value v.entries ≡ below (fold_key key) whole v.theta → upsert_refusal key h step v ≡ Some kind → has_mark (whole_upsert (fold_key key) h (folded key h step) whole) ≡ true
  step_marks h step v whole kind all refused =
      (elim (is_screened h v.theta) as (λ b. is_screened h v.theta ≡ b → has_mark (whole_upsert (fold_key key) h (folded key h step) whole) ≡ true) [
        | true ↦ λ s. let none = sym (screened_case key 0 h step v s).refusal_is ∙ refused in absurd (cc)
        | false ↦ λ s.
            let at : entry_at (fold_key key) whole h ≡ option_map Value (entry_at key v.entries h) = held_at whole v h all (low h v.theta s) in
            (elim (entry_at key v.entries h) as (λ o. entry_at key v.entries h ≡ o → has_mark (whole_upsert (fold_key key) h (folded key h step) whole) ≡ true) [
              | Some w ↦ λ e.
                  let why : step.refuses_existing w ≡ Some kind = sym (existing_case key 0 h step v w s e).refusal_is ∙ refused in
                  ap (λ o. has_mark (option_map_or (λ x. with_entry (fold_key key) whole (fold_writes key step x)) o (option_map_or (λ x. with_entry (fold_key key) whole x) (fold_makes h step) whole))) (at ∙ ap (λ o. option_map Value o) e)
                  ∙ ap (λ (o : Option ErrorKind). has_mark (with_entry (fold_key key) whole (cond (is_some o) (Refused (key w)) (Value (step.writes w))))) why
                  ∙ put_mark whole (key w)
              | None ↦ λ e.
                  let why : step.refuses_absent ≡ Some kind = sym (absent_case key 0 h step v s e).refusal_is ∙ refused in
                  ap (λ o. has_mark (option_map_or (λ x. with_entry (fold_key key) whole (fold_writes key step x)) o (option_map_or (λ x. with_entry (fold_key key) whole x) (fold_makes h step) whole))) (at ∙ ap (λ o. option_map Value o) e)
                  ∙ ap (λ (o : Option ErrorKind). has_mark (option_map_or (λ x. with_entry (fold_key key) whole x) (cond (is_some o) (Some (Refused h)) (option_map Value step.makes)) whole)) why
                  ∙ put_mark whole h
            ]) refl
      ]) refl

module _ {X : Type 0} (key : X → ℕ) (merges : X → X → X) (refuses : X → X → Bool) (keeps : KeepsKey key merges) (whole arriving : List (Fold X)) (q : ℕ) (x y : X) (one : entry_at (fold_key key) whole q ≡ Some (Value x)) (two : entry_at (fold_key key) arriving q ≡ Some (Value y)) (refused : refuses x y ≡ true) where
  marked_fold : ◌≡◌ {A = Option (Fold X)} (Some (fold_merges key merges refuses (Value x) (Value y))) (Some (Refused (key x)))
  marked_fold = ap (λ (b : Bool). Some (cond b (Refused (key x)) (Value (merges x y)))) refused

  -- a refused merge leaves a mark in the joined maps
  pub join_marks : IsApart (fold_key key) arriving → has_mark (joined (fold_key key) (fold_merges key merges refuses) whole arriving) ≡ true
  join_marks apart = found_mark key _ q (key x)
      (entry_at-joined (fold_key key) (fold_merges key merges refuses) (fold_keeps key merges refuses keeps) arriving whole q apart
      ∙ ap (λ o. either (fold_merges key merges refuses) o (entry_at (fold_key key) arriving q)) one
      ∙ ap (λ o. either (fold_merges key merges refuses) (Some (Value x)) o) two
      ∙ marked_fold)

  -- and in their common part
  pub meet_marks : has_mark (common (fold_key key) (fold_merges key merges refuses) whole arriving) ≡ true
  meet_marks = found_mark key _ q (key x)
      (entry_at-common (fold_key key) (fold_merges key merges refuses) (fold_keeps key merges refuses keeps) whole arriving q
      ∙ ap (λ o. both (fold_merges key merges refuses) o (entry_at (fold_key key) arriving q)) one
      ∙ ap (λ o. both (fold_merges key merges refuses) (Some (Value x)) o) two
      ∙ marked_fold)
