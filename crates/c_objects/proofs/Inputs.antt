-- Inputs of a merge that show the same and list the same as others: what is said of the ones is said of the others.
use Rattle.std.proofs.Common.{◌≡◌, ℕ, ◌^◌, true, false, cond, List, [], ◌∷◌, map, Some, None, refl, sym, ap, subst, ◌∙◌}
use Rattle.std.specs.Prelude.{◌==◌, ◌||◌, MatchOption, flat_map}
use Rattle.std.specs.List.{list_all}
use Rattle.std.proofs.lemmas.Simd.{map-map}
use Rattle.std.proofs.lemmas.List.Folds.{flat_map-map, list_all-map}
use Rattle.sketch_base.specs.declared.error.ErrorKind.{ErrorKind}
use Rattle.sketch_base.specs.declared.error.ErrorKind.TheVariants.{OutOfMemory, Failed, InvalidArgument}
use Rattle.core_laws.specs.Entries.{hash_key, first_hash}
use Rattle.core_laws.specs.Operators.{least, unite}
use Rattle.core_laws.specs.Shown.{Shown, shown_value}
use Rattle.core_laws.specs.Values.{Sketch}
use Rattle.core_laws.specs.declared.TheConstants.{MAX_THETA}
use Rattle.core_operators.specs.Union.{Union, IsJoined, union_value, all_empty, least_theta, share_seed, update_all_refusal, JoinsAllHashes, UnitesAllHashes, IsHashUpdateAllError}

-- the values of inputs, by what each shows and lists
abbrev values : List Shown → List (List ℕ) → List (Sketch ℕ)
values [] ls = []
values (s ∷ ss) [] = []
values (s ∷ ss) (l ∷ ls) = shown_value hash_key s l ∷ values ss ls

valued : {V : Type 0} (f : V → Shown) (l : V → List ℕ) (vs : List V) → map (λ v. shown_value hash_key (f v) (l v)) vs ≡ values (map f vs) (map l vs)
valued f l [] = refl
valued f l (v ∷ vs) = ap (λ xs. shown_value hash_key (f v) (l v) ∷ xs) (valued f l vs)

module _ {V W P : Type 0} (f : V → Shown) (l : V → List ℕ) (g : W → Shown) (m : W → List ℕ) (vs : List V) (ws : List W) (shown : map f vs ≡ map g ws) (listed : map l vs ≡ map m ws) (old new : Union ℕ P) where
  same_empty : all_empty f vs ≡ all_empty g ws
  same_empty = sym (list_all-map (λ s. s.empty) f vs) ∙ ap (list_all (λ s. s.empty)) shown ∙ list_all-map (λ s. s.empty) g ws

  same_seed : share_seed f old.seed_hash vs ≡ share_seed g old.seed_hash ws
  same_seed =
      sym (list_all-map (λ s. s.empty || old.seed_hash == s.seed_hash) f vs)
      ∙ ap (list_all (λ s. s.empty || old.seed_hash == s.seed_hash)) shown
      ∙ list_all-map (λ s. s.empty || old.seed_hash == s.seed_hash) g ws

  same_theta : least_theta f vs ≡ least_theta g ws
  same_theta = ap (least MAX_THETA) (sym (map-map (λ s. s.theta) f vs) ∙ ap (map (λ s. s.theta)) shown ∙ map-map (λ s. s.theta) g ws)

  same_entries : flat_map l vs ≡ flat_map m ws
  same_entries = sym (flat_map-map (λ x. x) l vs) ∙ ap (flat_map (λ x. x)) listed ∙ flat_map-map (λ x. x) m ws

  pub same_values : map (λ v. shown_value hash_key (f v) (l v)) vs ≡ map (λ w. shown_value hash_key (g w) (m w)) ws
  same_values = valued f l vs ∙ (λ i. values (shown i) (listed i)) ∙ sym (valued g m ws)

  same_refusal : update_all_refusal old f vs ≡ update_all_refusal old g ws
  same_refusal = ap (λ b. cond old.failed (Some Failed) (cond b None (Some InvalidArgument))) same_seed

  pub accepted : update_all_refusal old f vs ≡ None → update_all_refusal old g ws ≡ None
  accepted none = sym same_refusal ∙ none

  pub skipped : (all_empty f vs ≡ true → new ≡ old) → all_empty g ws ≡ true → new ≡ old
  skipped so empty = so (same_empty ∙ empty)

  pub united : UnitesAllHashes old new f l vs → UnitesAllHashes old new g m ws
  united is = is ∙ ap (λ xs. unite hash_key first_hash (2 ^ old.lg_k) old.start (union_value hash_key old ∷ xs)) same_values

  pub joined : JoinsAllHashes old new f l vs → JoinsAllHashes old new g m ws
  joined is = λ some.
      subst (λ es. IsJoined hash_key first_hash (λ _ _. false) old new (least_theta g ws) es) same_entries
      (subst (λ t. IsJoined hash_key first_hash (λ _ _. false) old new t (flat_map l vs)) same_theta (is (same_empty ∙ some)))

  pub refused : (e : ErrorKind) → IsHashUpdateAllError old new f vs e → IsHashUpdateAllError old new g ws e
  refused e is =
      subst (λ b. MatchOption (update_all_refusal old g ws) ((b ≡ false) × (e ≡ OutOfMemory) × (new ≡ record old { failed = true; content = new.content })) (λ kind. (e ≡ kind) × (new ≡ old))) same_empty
      (subst (λ r. MatchOption r ((all_empty f vs ≡ false) × (e ≡ OutOfMemory) × (new ≡ record old { failed = true; content = new.content })) (λ kind. (e ≡ kind) × (new ≡ old))) same_refusal is)
