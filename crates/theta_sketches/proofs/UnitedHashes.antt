-- Unions of many values of hashes, as those of folds.
use Rattle.std.proofs.Common.{◌≡◌, ℕ, Bool, true, false, List, [], ◌∷◌, ◌++◌, map, Some, None, inl, inr, refl, sym, ap, ◌∙◌, subst}
use Rattle.std.specs.Prelude.{MatchOption}
use Rattle.std.proofs.lemmas.List.{append_assoc, append-nil, map-append}
use Rattle.sketch_base.specs.declared.error.ErrorKind.{ErrorKind}
use Rattle.sketch_base.specs.declared.error.ErrorKind.TheVariants.{OutOfMemory}
use Rattle.core_laws.specs.Entries.{hash_key, first_hash, KeepsKey}
use Rattle.core_laws.specs.Folds.{Value, fold_key, fold_merges, unmarked_value}
use Rattle.core_laws.specs.Operators.{unite}
use Rattle.core_laws.specs.Shown.{Shown}
use Rattle.core_laws.specs.Values.{keys, Sketch, Empty, NonEmpty}
use Rattle.core_operators.specs.Union.{Union, all_empty, update_all_refusal, IsAllBroken, IsUpdateAllError, IsHashUpdateAllError}
use Rattle.core_laws.proofs.insertions.Unmarked.{fold_keeps}
use Rattle.core_laws.proofs.operators.KeysAlone.{unite-keys_two}
use Rattle.core_laws.proofs.operators.Unions.{union_of_union}

keys_of-hashes : (hs : List ℕ) → map (fold_key hash_key) (map Value hs) ≡ hs
keys_of-hashes [] = refl
keys_of-hashes (h ∷ hs) = ap (λ rest. h ∷ rest) (keys_of-hashes hs)

keys_of-value : (v : Sketch ℕ) → keys (fold_key hash_key) (unmarked_value v) ≡ v
keys_of-value Empty = refl
keys_of-value (NonEmpty v) = ap (λ hs. NonEmpty (record { entries = hs; theta = v.theta })) (keys_of-hashes v.entries)

module _ {X : Type 0} (key : X → ℕ) (merges : X → X → X) (keeps : KeepsKey key merges) (k start : ℕ) (first : Sketch X) where
  -- the keys of the union of some values
  abbrev HasKeys : List (Sketch X) → Type 0
  HasKeys values = keys key (unite key merges k start (first ∷ values)) ≡ unite hash_key first_hash k start (keys key first ∷ map (keys key) values)

  -- one value more
  keys-more : (values : List (Sketch X)) (last : Sketch X) → HasKeys values → HasKeys (values ++ last ∷ [])
  keys-more values last so_far =
      ap (keys key) (union_of_union key merges keeps k start (first ∷ values) last)
      ∙ unite-keys_two key merges keeps k start (unite key merges k start (first ∷ values)) last
      ∙ ap (λ u. unite hash_key first_hash k start (u ∷ keys key last ∷ [])) so_far
      ∙ sym (union_of_union hash_key first_hash (λ x y same. same) k start (keys key first ∷ map (keys key) values) (keys key last))
      ∙ ap (λ vs. unite hash_key first_hash k start (keys key first ∷ vs)) (sym (map-append (keys key) values (last ∷ [])))

  keys-rest : (values rest : List (Sketch X)) → HasKeys values → HasKeys (values ++ rest)
  keys-rest values [] so_far = subst HasKeys (sym (append-nil values)) so_far
  keys-rest values (v ∷ rest) so_far = subst HasKeys (append_assoc values (v ∷ []) rest) (keys-rest (values ++ v ∷ []) rest (keys-more values v so_far))

  keys-alone : HasKeys []
  keys-alone =
      elim first as (λ v. keys key (unite key merges k start (v ∷ [])) ≡ unite hash_key first_hash k start (keys key v ∷ [])) [
        | Empty ↦ refl
        | NonEmpty v ↦ unite-keys_two key merges keeps k start (NonEmpty v) Empty
      ]

  unite-keys : (values : List (Sketch X)) → HasKeys values
  unite-keys values = keys-rest [] values keys-alone

module _ {S : Type 0} (refuses : ℕ → ℕ → Bool) (k start : ℕ) (new old : Sketch ℕ) (value_of : S → Sketch ℕ) where
  keys_of-each : (xs : List S) → map (keys (fold_key hash_key)) (map (λ s. unmarked_value (value_of s)) xs) ≡ map value_of xs
  keys_of-each [] = refl
  keys_of-each (s ∷ xs) = ap (λ v. v ∷ map (keys (fold_key hash_key)) (map (λ r. unmarked_value (value_of r)) xs)) (keys_of-value (value_of s)) ∙ ap (λ vs. value_of s ∷ vs) (keys_of-each xs)

  pub united-all : (xs : List S) → unmarked_value new ≡ unite (fold_key hash_key) (fold_merges hash_key first_hash refuses) k start (unmarked_value old ∷ map (λ s. unmarked_value (value_of s)) xs) → new ≡ unite hash_key first_hash k start (old ∷ map value_of xs)
  united-all xs united =
      sym (keys_of-value new)
      ∙ ap (keys (fold_key hash_key)) united
      ∙ unite-keys (fold_key hash_key) (fold_merges hash_key first_hash refuses) (fold_keeps hash_key first_hash refuses (λ x y same. same)) k start (unmarked_value old) (map (λ s. unmarked_value (value_of s)) xs)
      ∙ ap (λ v. unite hash_key first_hash k start (v ∷ map (keys (fold_key hash_key)) (map (λ s. unmarked_value (value_of s)) xs))) (keys_of-value old)
      ∙ ap (λ vs. unite hash_key first_hash k start (old ∷ vs)) (keys_of-each xs)

-- no merge of hashes is refused, so only memory can run out
pub never-refused : {P S : Type 0} (old new : Union ℕ P) (shown : S → Shown) (listing : S → List ℕ) (sketches : List S) (kind : ErrorKind) → IsUpdateAllError hash_key first_hash (λ x y. false) old new shown listing sketches kind → IsHashUpdateAllError old new shown sketches kind
never-refused old new shown listing sketches kind =
    elim (update_all_refusal old shown sketches) as (λ o. MatchOption o (IsAllBroken hash_key first_hash (λ x y. false) old new shown listing sketches kind) (λ r. (kind ≡ r) × (new ≡ old)) → MatchOption o ((all_empty shown sketches ≡ false) × (kind ≡ OutOfMemory) × (new ≡ record old { failed = true; content = new.content })) (λ r. (kind ≡ r) × (new ≡ old))) [
      | Some r ↦ λ e. e
      | None ↦ λ broken. (broken.nonempty, elim broken.why [ inl out ↦ out | inr policy ↦ absurd (let e = policy.1.4.refused in cc) ], broken.made_with)
    ]
