-- Unions that have united some values and take more.
use Rattle.std.proofs.Common.{◌≡◌, ℕ, ◌^◌, List, [], ◌∷◌, ◌++◌, true, map, refl, ap, sym, subst, ◌∙◌}
use Rattle.core_compact.specs.CompactState.{Compact, IsAnswer, compact_value, ordered_sketch}
use Rattle.core_compact.proofs.Answered.{answer-value}
use Rattle.core_laws.specs.Cuts.{Retained}
use Rattle.core_laws.specs.Entries.{hash_key, first_hash}
use Rattle.core_laws.specs.Maps.{IsAscending}
use Rattle.core_laws.specs.Operators.{unite, unite_nonempty, nonempties, joined_all, least}
use Rattle.core_laws.specs.Values.{Sketch, Empty, NonEmpty, IsAscendingValue, theta_of}
use Rattle.core_laws.specs.declared.TheConstants.{MAX_THETA}
use Rattle.core_laws.proofs.maps.Ascending.{ascending-nil, ascending-filter}
use Rattle.core_laws.proofs.maps.MapsOfLists.{iterated-ascending}
use Rattle.core_laws.proofs.cuts.Cuts.{cut_is_below}
use Rattle.core_laws.proofs.operators.Unions.{ascending-joined_all, nonempties-more, union_of_union}
use Rattle.core_operators.specs.Union.{Union, union_value, empty_union}
use Rattle.expression_evaluation.specs.OpenUnions.{united, hashes_in, IsOpenUnion, IsOpenedBy}

-- the value of a union ascends
ascending_united : (k start : ℕ) (vs : List (Retained ℕ)) → IsAscendingValue hash_key (unite_nonempty hash_key first_hash k start vs)
ascending_united k start [] = tt
ascending_united k start (v ∷ vs) =
    let whole : List ℕ = joined_all hash_key first_hash [] (map (λ u. u.entries) (v ∷ vs)) in
    let m : ℕ = least start (map (λ u. u.theta) (v ∷ vs)) in
    let up : IsAscending hash_key whole = ascending-joined_all hash_key first_hash (λ x y same. same) (map (λ u. u.entries) (v ∷ vs)) [] (ascending-nil hash_key) in
    rw (cut_is_below hash_key k whole m) (ascending-filter hash_key _ whole up)

-- the ordered sketch of a value that ascends is an answer
ascending_answer : (v : Sketch ℕ) (h : ℕ) → IsAscendingValue hash_key v → IsAnswer hash_key v h true (ordered_sketch v h)
ascending_answer Empty h up = refl
ascending_answer (NonEmpty v) h up = record { nonempty = refl; same_theta = refl; same_seed = refl; ordered_if = refl; lists_all = iterated-ascending hash_key v.entries up; in_order = λ ordered. refl }

united_answer : (lg_k h : ℕ) (values : List (Sketch ℕ)) → IsAnswer hash_key (united lg_k values) h true (ordered_sketch (united lg_k values) h)
united_answer lg_k h values = ascending_answer (united lg_k values) h (ascending_united (2 ^ lg_k) MAX_THETA (nonempties values))

ordered_seed : (v : Sketch ℕ) (h : ℕ) → (ordered_sketch v h).seed_hash ≡ h
ordered_seed Empty h = refl
ordered_seed (NonEmpty v) h = refl

nothing_more : (lg_k : ℕ) (v : Sketch ℕ) → united lg_k (v ∷ Empty ∷ []) ≡ united lg_k (v ∷ [])
nothing_more lg_k Empty = refl
nothing_more lg_k (NonEmpty v) = refl

-- the union of a union's value alone
united_again : (lg_k : ℕ) (values : List (Sketch ℕ)) → united lg_k (united lg_k values ∷ []) ≡ united lg_k values
united_again lg_k values =
    sym (nothing_more lg_k (united lg_k values)) ∙ sym (union_of_union hash_key first_hash (λ x y same. same) (2 ^ lg_k) MAX_THETA values Empty)
    ∙ ap (unite_nonempty hash_key first_hash (2 ^ lg_k) MAX_THETA) (nonempties-more values)

same_value : (lg_k : ℕ) (v : Sketch ℕ) → hashes_in (united lg_k (v ∷ [])) ≡ hashes_in v → theta_of (united lg_k (v ∷ [])) ≡ theta_of v → united lg_k (v ∷ []) ≡ v
same_value lg_k Empty hashes theta = refl
same_value lg_k (NonEmpty v) hashes theta = λ i. NonEmpty (record { entries = hashes i; theta = theta i })

module _ {P : Type 0} where
  settled : (lg_k : ℕ) (u : Union ℕ P) → IsOpenUnion lg_k u → united lg_k (union_value hash_key u ∷ []) ≡ union_value hash_key u
  settled lg_k u is = same_value lg_k (union_value hash_key u) is.same_hashes is.same_theta

  -- the value of an open union's sketch
  open_value : (lg_k h : ℕ) (u : Union ℕ P) → IsOpenUnion lg_k u → compact_value hash_key (ordered_sketch (union_value hash_key u) h) ≡ union_value hash_key u
  open_value lg_k h u is =
      let v = union_value hash_key u in
      let up : IsAscendingValue hash_key v = subst (IsAscendingValue hash_key) (settled lg_k u is) (ascending_united (2 ^ lg_k) MAX_THETA (nonempties (v ∷ []))) in
      answer-value hash_key v h true (ordered_sketch v h) (ascending_answer v h up)

  -- an open union takes what comes next
  pub opened_again : (lg_k own h : ℕ) (u : Union ℕ P) (c : Compact ℕ) → own ≡ lg_k → IsOpenUnion own u → c ≡ ordered_sketch (union_value hash_key u) u.seed_hash → c.seed_hash ≡ h → IsOpenedBy lg_k h (compact_value hash_key c) u
  opened_again lg_k own h u c nominal is contents seed =
      let here : IsOpenUnion lg_k u = subst (λ (l : ℕ). IsOpenUnion l u) nominal is in
      record {
        sound = is.sound;
        nominal = here.nominal;
        start = is.start;
        same_seed = sym (ap (λ s. s.seed_hash) contents ∙ ordered_seed (union_value hash_key u) u.seed_hash) ∙ seed;
        value = sym (settled lg_k u here) ∙ ap (λ v. united lg_k (v ∷ [])) (sym (ap (compact_value hash_key) contents ∙ open_value lg_k u.seed_hash u here));
      }

  -- a new union to which a value was added
  pub opened_new : (lg_k h : ℕ) (start one : Union ℕ P) (a : Sketch ℕ) → start ≡ empty_union lg_k MAX_THETA h start.policy → one ≡ record start { empty = one.empty; content = one.content } →
      union_value hash_key one ≡ unite hash_key first_hash (2 ^ start.lg_k) start.start (a ∷ []) → IsOpenedBy lg_k h a one
  opened_new lg_k h start one a made added value =
      record {
        sound = ap (λ u. u.failed) added ∙ ap (λ u. u.failed) made;
        nominal = ap (λ u. u.lg_k) added ∙ ap (λ u. u.lg_k) made;
        start = ap (λ u. u.start) added ∙ ap (λ u. u.start) made;
        same_seed = ap (λ u. u.seed_hash) added ∙ ap (λ u. u.seed_hash) made;
        value = value ∙ ap (λ (l : ℕ). unite hash_key first_hash (2 ^ l) start.start (a ∷ [])) (ap (λ u. u.lg_k) made) ∙ ap (λ (t : ℕ). unite hash_key first_hash (2 ^ lg_k) t (a ∷ [])) (ap (λ u. u.start) made);
      }

  -- one more value: the union stays open, and its sketch is that of the two
  module _ (lg_k h : ℕ) (old new : Union ℕ P) (a b : Sketch ℕ) (is : IsOpenedBy lg_k h a old) (added : new ≡ record old { empty = new.empty; content = new.content })
      (more : (values : List (Sketch ℕ)) → union_value hash_key old ≡ unite hash_key first_hash (2 ^ old.lg_k) old.start values → union_value hash_key new ≡ unite hash_key first_hash (2 ^ old.lg_k) old.start (values ++ b ∷ [])) where
    same_settings : (values : List (Sketch ℕ)) → unite hash_key first_hash (2 ^ old.lg_k) old.start values ≡ united lg_k values
    same_settings values = ap (λ (l : ℕ). unite hash_key first_hash (2 ^ l) old.start values) is.nominal ∙ ap (λ (t : ℕ). unite hash_key first_hash (2 ^ lg_k) t values) is.start

    value_after : union_value hash_key new ≡ united lg_k (a ∷ b ∷ [])
    value_after = more (a ∷ []) (is.value ∙ sym (same_settings (a ∷ []))) ∙ same_settings (a ∷ b ∷ [])

    pub still_open : IsOpenUnion lg_k new
    still_open =
        let again : united lg_k (union_value hash_key new ∷ []) ≡ union_value hash_key new = ap (λ v. united lg_k (v ∷ [])) value_after ∙ united_again lg_k (a ∷ b ∷ []) ∙ sym value_after in
        record {
          sound = ap (λ u. u.failed) added ∙ is.sound;
          nominal = ap (λ u. u.lg_k) added ∙ is.nominal;
          start = ap (λ u. u.start) added ∙ is.start;
          same_hashes = ap hashes_in again;
          same_theta = ap theta_of again;
        }

    pub united_two : IsAnswer hash_key (united lg_k (a ∷ b ∷ [])) h true (ordered_sketch (union_value hash_key new) new.seed_hash)
    united_two =
        let seed : new.seed_hash ≡ h = ap (λ u. u.seed_hash) added ∙ is.same_seed in
        subst (λ (s : ℕ). IsAnswer hash_key (united lg_k (a ∷ b ∷ [])) h true (ordered_sketch (union_value hash_key new) s)) (sym seed)
        (subst (λ v. IsAnswer hash_key (united lg_k (a ∷ b ∷ [])) h true (ordered_sketch v h)) (sym value_after) (united_answer lg_k h (a ∷ b ∷ [])))
