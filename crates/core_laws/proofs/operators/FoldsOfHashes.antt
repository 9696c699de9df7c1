-- Unions and meets of hashes, as those of folds.
use Rattle.std.proofs.Common.{◌≡◌, ℕ, Bool, true, false, cond, eqb, not, List, [], ◌∷◌, map, length, min, Option, Some, None, refl, sym, ap, ◌∙◌}
use Rattle.std.specs.Prelude.{◌&&◌}
use Rattle.std.specs.Option.{option_map}
use Rattle.std.proofs.lemmas.List.{length-map}
use Rattle.core_laws.specs.declared.TheConstants.{MAX_THETA}
use Rattle.core_laws.specs.Cuts.{Retained}
use Rattle.core_laws.specs.Maps.{below, entry_at}
use Rattle.core_laws.specs.Entries.{hash_key, first_hash, KeepsKey}
use Rattle.core_laws.specs.Values.{keys, Sketch, Empty, NonEmpty}
use Rattle.core_laws.specs.Operators.{meet_next, unite, meet, common, shared, is_disjoint}
use Rattle.core_laws.specs.Folds.{Value, fold_key, fold_merges, unmarked_value}
use Rattle.core_laws.proofs.maps.MappedEntries.{below-map, entry_at-map}
use Rattle.core_laws.proofs.operators.KeysAlone.{unite-keys_two}
use Rattle.core_laws.proofs.insertions.Unmarked.{fold_keeps}
use Rattle.core_laws.proofs.cuts.WithinWholeMaps.{found_key}

unmarked-hashes : (hs : List ℕ) → map (fold_key hash_key) (map Value hs) ≡ hs
unmarked-hashes [] = refl
unmarked-hashes (h ∷ hs) = ap (λ rest. h ∷ rest) (unmarked-hashes hs)

unmarked-keys : (v : Sketch ℕ) → keys (fold_key hash_key) (unmarked_value v) ≡ v
unmarked-keys Empty = refl
unmarked-keys (NonEmpty v) = ap (λ hs. NonEmpty (record { entries = hs; theta = v.theta })) (unmarked-hashes v.entries)

-- unions of folds as unions of hashes
pub united-hashes : (refuses : ℕ → ℕ → Bool) (k start : ℕ) (new old more : Sketch ℕ) →
    unmarked_value new ≡ unite (fold_key hash_key) (fold_merges hash_key first_hash refuses) k start (unmarked_value old ∷ unmarked_value more ∷ []) →
    new ≡ unite hash_key first_hash k start (old ∷ more ∷ [])
united-hashes refuses k start new old more united =
    sym (unmarked-keys new)
    ∙ ap (keys (fold_key hash_key)) united
    ∙ unite-keys_two (fold_key hash_key) (fold_merges hash_key first_hash refuses) (fold_keeps hash_key first_hash refuses (λ x y same. same)) k start (unmarked_value old) (unmarked_value more)
    ∙ ap (λ v. unite hash_key first_hash k start (v ∷ keys (fold_key hash_key) (unmarked_value more) ∷ [])) (unmarked-keys old)
    ∙ ap (λ v. unite hash_key first_hash k start (old ∷ v ∷ [])) (unmarked-keys more)

module _ {X : Type 0} (key : X → ℕ) (merges : X → X → X) (keeps : KeepsKey key merges) where
  common-keys : (xs ys : List X) → map key (common key merges xs ys) ≡ common hash_key first_hash (map key xs) (map key ys)
  common-keys [] ys = refl
  common-keys (x ∷ xs) ys =
      (elim (entry_at key ys (key x)) as (λ o. entry_at key ys (key x) ≡ o → map key (common key merges (x ∷ xs) ys) ≡ common hash_key first_hash (map key (x ∷ xs)) (map key ys)) [
        | Some y ↦ λ f.
            let there : entry_at hash_key (map key ys) (key x) ≡ Some (key y) = entry_at-map key key hash_key (λ z. refl) ys (key x) ∙ ap (option_map key) f in
            let tie : key y ≡ key x = found_key key ys (key x) y f in
            rw (f, there) (ap (λ (h : ℕ). h ∷ map key (common key merges xs ys)) (keeps x y (sym tie) ∙ tie) ∙ ap (λ hs. key x ∷ hs) (common-keys xs ys))
        | None ↦ λ f.
            let absent : entry_at hash_key (map key ys) (key x) ≡ None = entry_at-map key key hash_key (λ z. refl) ys (key x) ∙ ap (option_map key) f in
            rw (f, absent) (common-keys xs ys)
      ]) refl

  -- a retained map without its summaries
  abbrev hashes_of : Retained X → Retained ℕ
  hashes_of v = record { entries = map key v.entries; theta = v.theta }

  shared-keys : (u v : Retained X) → map key (shared key merges u v).entries ≡ (shared hash_key first_hash (hashes_of u) (hashes_of v)).entries
  shared-keys u v =
      sym (below-map key key hash_key (λ z. refl) (common key merges u.entries v.entries) (min u.theta v.theta)) ∙ ap (λ hs. below hash_key hs (min u.theta v.theta)) (common-keys u.entries v.entries)

  disjoint-keys : (u v : Retained X) → is_disjoint key merges u v ≡ is_disjoint hash_key first_hash (hashes_of u) (hashes_of v)
  disjoint-keys u v =
      let most = eqb (min u.theta v.theta) MAX_THETA in
      ap (λ (n : ℕ). most && (not (eqb n 0) && (not (eqb (length v.entries) 0) && eqb (length (shared key merges u v).entries) 0))) (sym (length-map u.entries key))
      ∙ ap (λ (n : ℕ). most && (not (eqb (length (map key u.entries)) 0) && (not (eqb n 0) && eqb (length (shared key merges u v).entries) 0))) (sym (length-map v.entries key))
      ∙ ap (λ (n : ℕ). most && (not (eqb (length (map key u.entries)) 0) && (not (eqb (length (map key v.entries)) 0) && eqb n 0))) (sym (length-map (shared key merges u v).entries key) ∙ ap length (shared-keys u v))

  -- the keys of an intersection are those that its inputs' keys have in common
  meet-keys_two : (a b : Sketch X) → keys key (meet key merges (a ∷ b ∷ [])) ≡ meet hash_key first_hash (keys key a ∷ keys key b ∷ [])
  meet-keys_two Empty b = refl
  meet-keys_two (NonEmpty u) Empty = refl
  meet-keys_two (NonEmpty u) (NonEmpty v) =
      rw (← disjoint-keys u v) (elim (is_disjoint key merges u v) as (λ b. keys key (cond b Empty (NonEmpty (shared key merges u v))) ≡ cond b Empty (NonEmpty (shared hash_key first_hash (hashes_of u) (hashes_of v)))) [
        | true ↦ refl
        | false ↦ ap (λ hs. NonEmpty (record { entries = hs; theta = min u.theta v.theta })) (shared-keys u v)
      ])

  meet-keys_one : (a : Sketch X) → keys key (meet key merges (a ∷ [])) ≡ meet hash_key first_hash (keys key a ∷ [])
  meet-keys_one Empty = refl
  meet-keys_one (NonEmpty u) = refl

some_same : {X : Type 0} {x y : X} → Some x ≡ Some y → x ≡ y
some_same e = cc

-- intersections of folds as intersections of hashes
pub met-hashes : (refuses : ℕ → ℕ → Bool) (new old : Option (Sketch ℕ)) (more : Sketch ℕ) →
    option_map unmarked_value new ≡ Some (meet_next (fold_key hash_key) (fold_merges hash_key first_hash refuses) (option_map unmarked_value old) (unmarked_value more)) →
    new ≡ Some (meet_next hash_key first_hash old more)
met-hashes refuses None old more met = absurd (cc)
met-hashes refuses (Some new) None more met =
    let keeps = fold_keeps hash_key first_hash refuses (λ x y same. same) in
    ap Some (sym (unmarked-keys new)
    ∙ ap (keys (fold_key hash_key)) (some_same met)
    ∙ meet-keys_one (fold_key hash_key) (fold_merges hash_key first_hash refuses) keeps (unmarked_value more)
    ∙ ap (λ v. meet hash_key first_hash (v ∷ [])) (unmarked-keys more))
met-hashes refuses (Some new) (Some old) more met =
    let keeps = fold_keeps hash_key first_hash refuses (λ x y same. same) in
    ap Some (sym (unmarked-keys new)
    ∙ ap (keys (fold_key hash_key)) (some_same met)
    ∙ meet-keys_two (fold_key hash_key) (fold_merges hash_key first_hash refuses) keeps (unmarked_value old) (unmarked_value more)
    ∙ ap (λ v. meet hash_key first_hash (v ∷ keys (fold_key hash_key) (unmarked_value more) ∷ [])) (unmarked-keys old)
    ∙ ap (λ v. meet hash_key first_hash (old ∷ v ∷ [])) (unmarked-keys more))
