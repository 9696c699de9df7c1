-- Sketches that are united one after another.
use Rattle.std.proofs.Common.{◌≡◌, ℕ, ◌^◌, ◌<◌, ◌≤◌, true, false, cond, List, [], ◌∷◌, ◌++◌, None, arith, refl, sym, ap, ◌∙◌}
use Rattle.core_compact.specs.CompactState.{Compact, compact_value}
use Rattle.core_laws.specs.Maps.{map_of}
use Rattle.core_laws.specs.Entries.{hash_key, first_hash, KeepsKey}
use Rattle.core_laws.specs.Operators.{unite, unite_nonempty}
use Rattle.core_laws.specs.Values.{Sketch, Empty, NonEmpty}
use Rattle.core_operators.specs.Union.{Union, union_value, empty_union}
use Rattle.core_laws.specs.Shown.{Shown, shown_value}
use Rattle.core_laws.proofs.operators.Unions.{nonempties-more, union_of_union}
use Rattle.std.proofs.lemmas.Bool.Decides.{nat_tests}
use Rattle.sketch_base.specs.Seed.{seed_hash}
use Rattle.core_laws.specs.declared.TheConstants.{MAX_THETA}
use Rattle.theta_sketches.specs.Image.{Reads}
use Rattle.core_laws.specs.Settings.{settings_refusal}
use Rattle.keys_sketches.specs.Shards.{values_of_sketches, AreReadBy, ReadsUnder}
use Rattle.keys_sketches.specs.Unions.{HasUnited}

module _ {X Y P : Type 0} (key : Y → ℕ) (merges : Y → Y → Y) (keeps : KeepsKey key merges) (value_of : Union X P → Sketch Y) where
  -- a union after one more value, where the values of unions are those of hashes, or of folds
  abbrev pub Joins : (old new : Union X P) → Sketch Y → Type 0
  Joins old new Empty = new ≡ old
  Joins old new (NonEmpty v) = value_of new ≡ unite key merges (2 ^ old.lg_k) old.start (value_of old ∷ NonEmpty v ∷ [])

  joined_next : (old new : Union X P) (values : List (Sketch Y)) (v : Sketch Y) → value_of old ≡ unite key merges (2 ^ old.lg_k) old.start values → Joins old new v → value_of new ≡ unite key merges (2 ^ old.lg_k) old.start (values ++ v ∷ [])
  joined_next old new values Empty so_far join =
      ap value_of join ∙ so_far ∙ sym (ap (unite_nonempty key merges (2 ^ old.lg_k) old.start) (nonempties-more values))
  joined_next old new values (NonEmpty v) so_far join =
      join ∙ ap (λ u. unite key merges (2 ^ old.lg_k) old.start (u ∷ NonEmpty v ∷ [])) so_far
      ∙ sym (union_of_union key merges keeps (2 ^ old.lg_k) old.start values (NonEmpty v))

  -- the value after one more, of a union of these settings
  pub value_more : (lg_k start : ℕ) (old new : Union X P) (values : List (Sketch Y)) (v : Sketch Y) → old.lg_k ≡ lg_k → old.start ≡ start → value_of old ≡ unite key merges (2 ^ lg_k) start values →
      Joins old new v → value_of new ≡ unite key merges (2 ^ lg_k) start (values ++ v ∷ [])
  value_more lg_k start old new values v lg from so_far join =
      let by : ℕ → ℕ → List (Sketch Y) → Sketch Y = λ l t vs. unite key merges (2 ^ l) t vs in
      let before : value_of old ≡ by old.lg_k old.start values = so_far ∙ ap (λ l. by l start values) (sym lg) ∙ ap (λ t. by old.lg_k t values) (sym from) in
      joined_next old new values v before join ∙ ap (λ l. by l old.start (values ++ v ∷ [])) lg ∙ ap (λ t. by lg_k t (values ++ v ∷ [])) from

joins_shown : {P : Type 0} (old new : Union ℕ P) (s : Shown) (listing : List ℕ) → (s.empty ≡ true → new ≡ old) →
    (s.empty ≡ false → union_value hash_key new ≡ unite hash_key first_hash (2 ^ old.lg_k) old.start (union_value hash_key old ∷ shown_value hash_key s listing ∷ [])) →
    Joins hash_key first_hash (λ x y same. same) (union_value hash_key) old new (shown_value hash_key s listing)
joins_shown old new s listing skipped united =
    (elim s.empty as (λ b. s.empty ≡ b → Joins hash_key first_hash (λ x y same. same) (union_value hash_key) old new (cond b Empty (NonEmpty (record { entries = map_of hash_key listing; theta = s.theta })))) [
      | true ↦ λ e. skipped e
      | false ↦ λ e. united e ∙ ap (λ b. unite hash_key first_hash (2 ^ old.lg_k) old.start (union_value hash_key old ∷ cond b Empty (NonEmpty (record { entries = map_of hash_key listing; theta = s.theta })) ∷ [])) e
    ]) refl

-- the settings of a union stay
pub made_same : {X P : Type 0} (seed lg_k : ℕ) (old new : Union X P) → old ≡ record (empty_union lg_k MAX_THETA (seed_hash seed) old.policy) { empty = old.empty; content = old.content } → new ≡ record old { empty = new.empty; content = new.content } →
    new ≡ record (empty_union lg_k MAX_THETA (seed_hash seed) new.policy) { empty = new.empty; content = new.content }
made_same {X} {P} seed lg_k old new was made =
    let again : Union X P → Union X P = λ u. record u { empty = new.empty; content = new.content } in
    let policy : P → Union X P = λ p. record (empty_union lg_k MAX_THETA (seed_hash seed) p) { empty = new.empty; content = new.content } in
    made ∙ ap again was ∙ ap policy (sym (ap (λ u. u.policy) made))

-- one more image
pub are_read-more : {S : Type 0} (Reads : List ℕ → S → Type 0) (images : List (List ℕ)) (sketches : List S) (image : List ℕ) (s : S) → AreReadBy Reads images sketches → Reads image s → AreReadBy Reads (images ++ image ∷ []) (sketches ++ s ∷ [])
are_read-more Reads [] [] image s all one = (one, tt)
are_read-more Reads [] (t ∷ ts) image s all one = absurd all
are_read-more Reads (b ∷ bs) [] image s all one = absurd all
are_read-more Reads (b ∷ bs) (t ∷ ts) image s all one = (all.0, are_read-more Reads bs ts image s all.1 one)

values-more : (sketches : List (Compact ℕ)) (s : Compact ℕ) → values_of_sketches (sketches ++ s ∷ []) ≡ values_of_sketches sketches ++ compact_value hash_key s ∷ []
values-more [] s = refl
values-more (t ∷ ts) s = ap (λ vs. compact_value hash_key t ∷ vs) (values-more ts s)

pub image_more : {P : Type 0} (seed lg_k : ℕ) (images : List (List ℕ)) (image : List ℕ) (s : Compact ℕ) (old new : Union ℕ P) (shows : Shown) (listing : List ℕ) → HasUnited seed lg_k images old → Reads image (seed_hash seed) s →
    (shows.empty ≡ true → new ≡ old) → (shows.empty ≡ false → union_value hash_key new ≡ unite hash_key first_hash (2 ^ old.lg_k) old.start (union_value hash_key old ∷ shown_value hash_key shows listing ∷ [])) →
    shown_value hash_key shows listing ≡ compact_value hash_key s → new ≡ record old { empty = new.empty; content = new.content } → HasUnited seed lg_k (images ++ image ∷ []) new
image_more seed lg_k images image s old new shows listing has reads skipped joins is made = record {
  sketches = has.sketches ++ s ∷ [];
  are_read = are_read-more (ReadsUnder seed) images has.sketches image s has.are_read reads;
  value =
      value_more hash_key first_hash (λ x y same. same) (union_value hash_key) lg_k MAX_THETA old new (values_of_sketches has.sketches) (shown_value hash_key shows listing) (ap (λ u. u.lg_k) has.made) (ap (λ u. u.start) has.made) has.value
      (joins_shown old new shows listing skipped joins)
      ∙ ap (λ v. unite hash_key first_hash (2 ^ lg_k) MAX_THETA (values_of_sketches has.sketches ++ v ∷ [])) is
      ∙ ap (unite hash_key first_hash (2 ^ lg_k) MAX_THETA) (sym (values-more has.sketches s));
  made = made_same seed lg_k old new has.made made;
}

-- a new union has united nothing
pub nothing_united : {P : Type 0} (seed lg_k : ℕ) (u : Union ℕ P) → u ≡ empty_union lg_k MAX_THETA (seed_hash seed) u.policy → HasUnited seed lg_k [] u
nothing_united {P} seed lg_k u is =
    let with_policy : P → Union ℕ P = λ p. empty_union lg_k MAX_THETA (seed_hash seed) p in record {
      sketches = [];
      are_read = tt;
      value = ap (union_value hash_key) is;
      made = is ∙ (λ i. record (with_policy u.policy) { empty = sym (ap (λ v. v.empty) is) i; content = sym (ap (λ v. v.content) is) i });
    }

-- the settings of a union
pub size_small : (seed lg_k : ℕ) → settings_refusal lg_k MAX_THETA seed ≡ None → lg_k ≤ 26
size_small seed lg_k is = grind (arith, nat_tests)

-- the seed hash of accepted settings is not 0
pub seeded : (seed lg_k : ℕ) → settings_refusal lg_k MAX_THETA seed ≡ None → 0 < seed_hash seed
seeded seed lg_k is = grind (arith, nat_tests)
