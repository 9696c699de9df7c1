-- The value of a union after an update with many inputs.
use Rattle.std.proofs.Common.{◌≡◌, ℕ, ◌^◌, ◌≤◌, min, Bool, true, false, cond, List, [], ◌∷◌, ◌++◌, map, flat_map, inl, inr, refl, sym, ap, ◌∙◌, subst, length, arith}
use Rattle.std.specs.Prelude.{◌&&◌}
use Rattle.std.proofs.lemmas.List.{map-append, length-map}
use Rattle.std.specs.List.{AllByRecursion}
use Rattle.sketch_base.specs.declared.error.ErrorKind.{ErrorKind}
use Rattle.core_laws.specs.declared.TheConstants.{MAX_THETA}
use Rattle.core_laws.specs.Maps.{IsAscending, below, map_of, IsApart}
use Rattle.core_laws.specs.Cuts.{Retained, cut, IsRetained}
use Rattle.core_laws.specs.Entries.{KeepsKey}
use Rattle.core_laws.specs.Folds.{Fold, Value, fold_key, fold_merges, unmarked, unmarked_value}
use Rattle.core_laws.specs.Lawful.{IsWithin}
use Rattle.core_laws.specs.Operators.{joined, joined_all, least, nonempties, unite, unite_nonempty}
use Rattle.core_laws.specs.Shown.{Shown, shown_value}
use Rattle.core_laws.specs.Values.{Sketch, Empty, NonEmpty}
use Rattle.core_operators.specs.Union.{Union, IsUnion, IsJoined, IsInput, all_empty, least_theta, union_value, UnitesAll, IsAllRefusal}
use Rattle.core_laws.proofs.cuts.LawfulThetas.{cut_lawful}
use Rattle.core_laws.proofs.cuts.WithinWholeMaps.{below-below, cut_below}
use Rattle.core_laws.proofs.insertions.Unmarked.{fold_keeps, ascending-marked}
use Rattle.core_laws.proofs.maps.Ascending.{ascending-nil}
use Rattle.core_laws.proofs.maps.MapsOfLists.{apart-distinct, nothing}
use Rattle.core_laws.proofs.maps.MappedEntries.{below-map}
use Rattle.core_laws.proofs.operators.JoinedMaps.{ascending-joined, below-joined}
use Rattle.core_laws.proofs.operators.UnionUpdates.{joined-map_of}
use Rattle.core_laws.proofs.operators.Unions.{cut-again, cut-joined}
use Rattle.core_operators.proofs.JoinedRanges.{joined-append}
use Rattle.core_operators.proofs.UnionValue.{map_of-marked, apart-marked, cut-marked}

-- the lesser of a theta and the least of others
least-min : (ts : List ℕ) (t u : ℕ) → min t (least u ts) ≡ least (min t u) ts
least-min [] t u = refl
least-min (s ∷ ts) t u = let same : min t (min u s) ≡ min (min t u) s = omega arith in least-min ts t (min u s) ∙ ap (λ (v : ℕ). least v ts) same

module _ {X : Type 0} (key : X → ℕ) (merges : X → X → X) (keeps : KeepsKey key merges) where
  -- maps merged into a cut have the same effect as merged into the whole
  cut-joined_all : (k m s : ℕ) (whole : List X) (ws : List (Retained X)) → IsAscending key whole → m ≤ s →
      cut key k (joined_all key merges whole (map (λ w. w.entries) ws)) (least m (map (λ w. w.theta) ws)) ≡ cut key k (joined_all key merges (joined key merges [] (cut key k whole m).entries) (map (λ w. w.entries) ws)) (least (min s (cut key k whole m).theta) (map (λ w. w.theta) ws))
  cut-joined_all k m s whole [] up le = sym (cut-again key merges keeps k m s whole up le)
  cut-joined_all k m s whole (w ∷ ws) up le =
      let first : List X = joined key merges [] (cut key k whole m).entries in
      let t : ℕ = min s (cut key k whole m).theta in
      let up_first : IsAscending key first = ascending-joined key merges keeps (cut key k whole m).entries [] (ascending-nil key) in
      let rest : Retained X → Sketch X = λ c. NonEmpty (cut key k (joined_all key merges (joined key merges [] c.entries) (map (λ v. v.entries) ws)) (least (min s c.theta) (map (λ v. v.theta) ws))) in
      let low : min m w.theta ≤ s = omega (arith, le) in
      let low_first : min t w.theta ≤ s = omega arith in
      cut-joined_all k (min m w.theta) s (joined key merges whole w.entries) ws (ascending-joined key merges keeps w.entries whole up) low
      ∙ ap (λ c. cut key k (joined_all key merges (joined key merges [] c.entries) (map (λ v. v.entries) ws)) (least (min s c.theta) (map (λ v. v.theta) ws))) (cut-joined key merges keeps k m s whole w up le)
      ∙ sym (cut-joined_all k (min t w.theta) s (joined key merges first w.entries) ws (ascending-joined key merges keeps w.entries first up_first) low_first)

  -- what a union retains within a joined map has the value that the cut of the whole has
  pub cut-within : (k m : ℕ) (v : Retained X) (content xs : List X) → IsAscending key content → IsWithin key k m v (joined key merges (below key content m) (below key xs m)) → cut key k v.entries v.theta ≡ cut key k (joined key merges content xs) m
  cut-within k m v content xs up within =
      ap (λ ys. cut key k ys v.theta) within.entries_are
      ∙ cut_below key k (joined key merges (below key content m) (below key xs m)) v.theta within.ascending
      ∙ cut_lawful key (joined key merges (below key content m) (below key xs m)) k m v.theta within.ascending within.lawful
      ∙ ap (λ ys. cut key k ys m) (sym (below-joined key merges keeps xs content m))
      ∙ cut_below key k (joined key merges content xs) m (ascending-joined key merges keeps xs content up)

  module _ {S : Type 0} (shown : S → Shown) (listing : S → List X) where
    -- each input's entries have different keys, and an Empty one has none, and the greatest theta
    pub record IsPlain (s : S) : Type 0 where
      pub apart : IsApart key (listing s)
      pub none : (shown s).empty ≡ true → listing s ≡ []
      pub greatest : (shown s).empty ≡ true → (shown s).theta ≡ MAX_THETA

    abbrev value_of : S → Sketch X
    value_of s = shown_value key (shown s) (listing s)

    maps-joined : (sketches : List S) (whole : List X) → AllByRecursion IsPlain sketches → IsAscending key whole →
        joined_all key merges whole (map (λ v. v.entries) (nonempties (map value_of sketches))) ≡ joined key merges whole (flat_map listing sketches)
    maps-joined [] whole all up = refl
    maps-joined (s ∷ sketches) whole all up =
        (elim (shown s).empty as (λ b. (shown s).empty ≡ b → joined_all key merges whole (map (λ v. v.entries) (nonempties (cond b Empty (NonEmpty (record { entries = map_of key (listing s); theta = (shown s).theta })) ∷ map value_of sketches))) ≡ joined key merges whole (listing s ++ flat_map listing sketches)) [
          | true ↦ λ e. rw (all.0.none e) (maps-joined sketches whole all.1 up)
          | false ↦ λ e.
              ap (λ ys. joined_all key merges ys (map (λ v. v.entries) (nonempties (map value_of sketches)))) (sym (joined-map_of key merges keeps whole (listing s) up all.0.apart))
              ∙ maps-joined sketches (joined key merges whole (listing s)) all.1 (ascending-joined key merges keeps (listing s) whole up)
              ∙ sym (joined-append key merges keeps (listing s) (flat_map listing sketches) whole)
        ]) refl

    thetas-least : (sketches : List S) (t : ℕ) → AllByRecursion IsPlain sketches → t ≤ MAX_THETA →
        least t (map (λ v. v.theta) (nonempties (map value_of sketches))) ≡ least t (map (λ s. (shown s).theta) sketches)
    thetas-least [] t all le = refl
    thetas-least (s ∷ sketches) t all le =
        (elim (shown s).empty as (λ b. (shown s).empty ≡ b → least t (map (λ v. v.theta) (nonempties (cond b Empty (NonEmpty (record { entries = map_of key (listing s); theta = (shown s).theta })) ∷ map value_of sketches))) ≡ least (min t (shown s).theta) (map (λ r. (shown r).theta) sketches)) [
          | true ↦ λ e.
              let same : t ≡ min t (shown s).theta = omega (arith, all.0.greatest e, le) in
              thetas-least sketches t all.1 le ∙ ap (λ (u : ℕ). least u (map (λ r. (shown r).theta) sketches)) same
          | false ↦ λ e. thetas-least sketches (min t (shown s).theta) all.1 (omega (arith, le))
        ]) refl

    -- a union with no others, and one that was empty
    pub united-none : (sketches : List S) → all_empty shown sketches ≡ true → nonempties (map value_of sketches) ≡ []
    united-none [] all = refl
    united-none (s ∷ sketches) all =
        (elim (shown s).empty as (λ b. (b && all_empty shown sketches) ≡ true → nonempties (cond b Empty (NonEmpty (record { entries = map_of key (listing s); theta = (shown s).theta })) ∷ map value_of sketches) ≡ []) [
          | true ↦ λ rest. united-none sketches rest
          | false ↦ λ rest. absurd (cc)
        ]) all

    some-nonempty : (k start : ℕ) (sketches : List S) → all_empty shown sketches ≡ false →
        unite_nonempty key merges k start (nonempties (map value_of sketches)) ≡ NonEmpty (cut key k (joined_all key merges [] (map (λ v. v.entries) (nonempties (map value_of sketches)))) (least start (map (λ v. v.theta) (nonempties (map value_of sketches)))))
    some-nonempty k start [] some = absurd (cc)
    some-nonempty k start (s ∷ sketches) some =
        (elim (shown s).empty as (λ b. (b && all_empty shown sketches) ≡ false → unite_nonempty key merges k start (nonempties (cond b Empty (NonEmpty (record { entries = map_of key (listing s); theta = (shown s).theta })) ∷ map value_of sketches)) ≡ NonEmpty (cut key k (joined_all key merges [] (map (λ v. v.entries) (nonempties (cond b Empty (NonEmpty (record { entries = map_of key (listing s); theta = (shown s).theta })) ∷ map value_of sketches)))) (least start (map (λ v. v.theta) (nonempties (cond b Empty (NonEmpty (record { entries = map_of key (listing s); theta = (shown s).theta })) ∷ map value_of sketches)))))) [
          | true ↦ λ rest. some-nonempty k start sketches rest
          | false ↦ λ rest. refl
        ]) some

    -- the cut of the map of all inputs, merged into that of a union, is its value united with theirs
    pub united-all : (k start : ℕ) (content : Retained X) (sketches : List S) → AllByRecursion IsPlain sketches → IsAscending key content.entries → content.theta ≤ start → content.theta ≤ MAX_THETA →
        NonEmpty (cut key k (joined key merges content.entries (flat_map listing sketches)) (min content.theta (least_theta shown sketches))) ≡ unite key merges k start (NonEmpty (cut key k content.entries content.theta) ∷ map value_of sketches)
    united-all k start content sketches all up le high =
        let same : min content.theta MAX_THETA ≡ content.theta = omega (arith, high) in
        let vs = nonempties (map value_of sketches) in
        let theta_is : min content.theta (least_theta shown sketches) ≡ least content.theta (map (λ v. v.theta) vs) =
        least-min (map (λ s. (shown s).theta) sketches) content.theta MAX_THETA ∙ ap (λ (t : ℕ). least t (map (λ s. (shown s).theta) sketches)) same ∙ sym (thetas-least sketches content.theta all high) in
        ap NonEmpty (
        ap (λ (t : ℕ). cut key k (joined key merges content.entries (flat_map listing sketches)) t) theta_is
        ∙ ap (λ xs. cut key k xs (least content.theta (map (λ v. v.theta) vs))) (sym (maps-joined sketches content.entries all up))
        ∙ cut-joined_all k content.theta start content.entries vs up le
        )

    -- if the union was empty
    pub united-first : (k start : ℕ) (sketches : List S) → AllByRecursion IsPlain sketches → start ≤ MAX_THETA → all_empty shown sketches ≡ false →
        NonEmpty (cut key k (joined key merges [] (flat_map listing sketches)) (min start (least_theta shown sketches))) ≡ unite key merges k start (Empty ∷ map value_of sketches)
    united-first k start sketches all high some =
        let same : min start MAX_THETA ≡ start = omega (arith, high) in
        let vs = nonempties (map value_of sketches) in
        let theta_is : min start (least_theta shown sketches) ≡ least start (map (λ v. v.theta) vs) =
        least-min (map (λ s. (shown s).theta) sketches) start MAX_THETA ∙ ap (λ (t : ℕ). least t (map (λ s. (shown s).theta) sketches)) same ∙ sym (thetas-least sketches start all high) in
        ap NonEmpty (
        ap (λ (t : ℕ). cut key k (joined key merges [] (flat_map listing sketches)) t) theta_is
        ∙ ap (λ xs. cut key k xs (least start (map (λ v. v.theta) vs))) (sym (maps-joined sketches [] all (ascending-nil key)))
        )
        ∙ sym (some-nonempty k start sketches some)

    -- if all inputs are Empty, the value is as it was
    pub united-nothing : (k start : ℕ) (content : Retained X) (sketches : List S) → IsAscending key content.entries → content.theta ≤ start → all_empty shown sketches ≡ true →
        NonEmpty (cut key k content.entries content.theta) ≡ unite key merges k start (NonEmpty (cut key k content.entries content.theta) ∷ map value_of sketches)
    united-nothing k start content sketches up le none =
        ap NonEmpty (cut-joined_all k content.theta start content.entries [] up le)
        ∙ ap (λ vs. unite_nonempty key merges k start (cut key k content.entries content.theta ∷ vs)) (sym (united-none sketches none))

module _ {X S : Type 0} (key : X → ℕ) (merges : X → X → X) (refuses : X → X → Bool) (keeps : KeepsKey key merges) (shown : S → Shown) (listing : S → List X) where
  abbrev folds_of : S → List (Fold X)
  folds_of s = map Value (listing s)

  plain : (sketches : List S) → AllByRecursion (λ s. IsInput key (shown s) (listing s)) sketches → AllByRecursion (λ s. IsPlain (fold_key key) (fold_merges key merges refuses) (fold_keeps key merges refuses keeps) shown folds_of s) sketches
  plain [] all = tt
  plain (s ∷ sketches) all = (
    record {
      apart = apart-marked key (listing s) (apart-distinct key (listing s) (rw all.0.hashes all.0.lawful.distinct));
      none = λ e. ap (map Value) (nothing key (listing s) (sym (length-map (listing s) key) ∙ ap length (all.0.hashes ∙ all.0.lawful.none e)));
      greatest = all.0.lawful.greatest;
    },
    plain sketches all.1,
  )

  values-marked : (sketches : List S) → map (λ s. shown_value (fold_key key) (shown s) (folds_of s)) sketches ≡ map (λ s. unmarked_value (shown_value key (shown s) (listing s))) sketches
  values-marked [] = refl
  values-marked (s ∷ sketches) =
      (elim (shown s).empty as (λ b. cond b Empty (NonEmpty (record { entries = map_of (fold_key key) (folds_of s); theta = (shown s).theta })) ∷ map (λ r. shown_value (fold_key key) (shown r) (folds_of r)) sketches ≡ unmarked_value (cond b Empty (NonEmpty (record { entries = map_of key (listing s); theta = (shown s).theta }))) ∷ map (λ r. unmarked_value (shown_value key (shown r) (listing r))) sketches) [
        | true ↦ ap (λ vs. Empty ∷ vs) (values-marked sketches)
        | false ↦ ap (λ xs. NonEmpty (record { entries = xs; theta = (shown s).theta }) ∷ map (λ r. shown_value (fold_key key) (shown r) (folds_of r)) sketches) (sym (map_of-marked key (listing s))) ∙ ap (λ vs. NonEmpty (record { entries = map Value (map_of key (listing s)); theta = (shown s).theta }) ∷ vs) (values-marked sketches)
      ])

  listings-marked : (sketches : List S) → flat_map folds_of sketches ≡ map Value (flat_map listing sketches)
  listings-marked [] = refl
  listings-marked (s ∷ sketches) = ap (λ ys. map Value (listing s) ++ ys) (listings-marked sketches) ∙ sym (map-append Value (listing s) (flat_map listing sketches))

  module _ {P : Type 0} (old new : Union X P) (sketches : List S) (sound : IsUnion old) (ok : old.failed ≡ false) (retained : IsRetained key old.content) (all : AllByRecursion (λ s. IsInput key (shown s) (listing s)) sketches) where
    abbrev unites_from : Sketch (Fold X) → Sketch (Fold X) → Type 0
    unites_from value first = value ≡ unite (fold_key key) (fold_merges key merges refuses) (2 ^ old.lg_k) old.start (first ∷ map (λ s. unmarked_value (shown_value key (shown s) (listing s))) sketches)

    -- no input
    pub unites-nothing : all_empty shown sketches ≡ true → UnitesAll key merges refuses old old shown listing sketches
    unites-nothing none =
        let k = 2 ^ old.lg_k in
        let fkeeps = fold_keeps key merges refuses keeps in
        (elim old.empty as (λ b. unites_from (unmarked_value (cond b Empty (NonEmpty (cut key k old.content.entries old.content.theta)))) (unmarked_value (cond b Empty (NonEmpty (cut key k old.content.entries old.content.theta))))) [
          | true ↦ sym (ap (λ vs. unite_nonempty (fold_key key) (fold_merges key merges refuses) k old.start (nonempties vs)) (sym (values-marked sketches)) ∙ ap (unite_nonempty (fold_key key) (fold_merges key merges refuses) k old.start) (united-none (fold_key key) (fold_merges key merges refuses) fkeeps shown folds_of sketches none))
          | false ↦
              subst (λ v. unites_from v v) (cut-marked key k old.content)
              (united-nothing (fold_key key) (fold_merges key merges refuses) fkeeps shown folds_of k old.start (unmarked old.content) sketches (ascending-marked key old.content.entries retained.ascending) (sound.theta_high ok) none
              ∙ ap (λ vs. unite (fold_key key) (fold_merges key merges refuses) k old.start (NonEmpty (cut (fold_key key) k (map Value old.content.entries) old.content.theta) ∷ vs)) (values-marked sketches))
        ])

    -- some inputs that aren't Empty
    pub unites-joined : all_empty shown sketches ≡ false → IsJoined key merges refuses old new (least_theta shown sketches) (flat_map listing sketches) → UnitesAll key merges refuses old new shown listing sketches
    unites-joined some join =
        let k = 2 ^ old.lg_k in
        let fkey = fold_key key in
        let fmerges = fold_merges key merges refuses in
        let fkeeps = fold_keeps key merges refuses keeps in
        let m : ℕ = min old.content.theta (least_theta shown sketches) in
        let flat : List (Fold X) = flat_map folds_of sketches in
        let entries : List (Fold X) = map Value old.content.entries in
        let up : IsAscending fkey entries = ascending-marked key old.content.entries retained.ascending in
        let within : IsWithin (fold_key key) k m (unmarked new.content) (joined (fold_key key) (fold_merges key merges refuses) (below (fold_key key) entries m) (below (fold_key key) flat m)) =
        rw (listings-marked sketches, below-map Value key (fold_key key) (λ y. refl) old.content.entries m, below-map Value key (fold_key key) (λ y. refl) (flat_map listing sketches) m) join.whole in
        let value : unmarked_value (union_value key new) ≡ NonEmpty (cut (fold_key key) k (joined (fold_key key) (fold_merges key merges refuses) entries flat) m) =
        ap (λ u. unmarked_value (union_value key u)) join.made_with ∙ sym (cut-marked key k new.content) ∙ ap NonEmpty (cut-within fkey fmerges fkeeps k m (unmarked new.content) entries flat up within) in
        value ∙
        (elim old.empty as (λ b. old.empty ≡ b → unites_from (NonEmpty (cut (fold_key key) k (joined (fold_key key) (fold_merges key merges refuses) entries flat) m)) (unmarked_value (cond b Empty (NonEmpty (cut key k old.content.entries old.content.theta))))) [
          | true ↦ λ e.
              let nothing_held : old.content ≡ record { entries = []; theta = old.start } = sound.none_held ok e in
              ap (λ (v : Retained X). NonEmpty (cut (fold_key key) k (joined (fold_key key) (fold_merges key merges refuses) (map Value v.entries) flat) (min v.theta (least_theta shown sketches)))) nothing_held
              ∙ united-first fkey fmerges fkeeps shown folds_of k old.start sketches (plain sketches all) (subst (λ (v : Retained X). v.theta ≤ MAX_THETA) nothing_held retained.theta_high) some
              ∙ ap (λ vs. unite (fold_key key) (fold_merges key merges refuses) k old.start (Empty ∷ vs)) (values-marked sketches)
          | false ↦ λ e.
              united-all fkey fmerges fkeeps shown folds_of k old.start (unmarked old.content) sketches (plain sketches all) up (sound.theta_high ok) retained.theta_high
              ∙ ap (λ vs. unite (fold_key key) (fold_merges key merges refuses) k old.start (NonEmpty (cut (fold_key key) k entries old.content.theta) ∷ vs)) (values-marked sketches)
              ∙ ap (λ u. unite (fold_key key) (fold_merges key merges refuses) k old.start (u ∷ map (λ s. unmarked_value (shown_value key (shown s) (listing s))) sketches)) (cut-marked key k old.content)
        ]) refl

  -- what is refused below the entries of a table is refused below those of a union
  pub refused-below : (content : List X) (m theta : ℕ) (sketches : List S) (kind : ErrorKind) → m ≤ theta → IsAllRefusal key merges refuses content m listing sketches kind → IsAllRefusal key merges refuses (below key content theta) m listing sketches kind
  refused-below content m theta sketches kind le why =
      elim why [
        | inl out ↦ inl out
        | inr policy ↦
            let stop = policy.1 in
            let at = stop.4 in
            inr (
              policy.0,
              (
                stop.0,
                stop.1,
                stop.2,
                stop.3,
                record {
                  at = at.at;
                  held_entry = at.held_entry;
                  new_entry = at.new_entry;
                  is_held = rw (below-below key content m theta le) at.is_held;
                  comes = at.comes;
                  refused = at.refused;
                },
              ),
            )
      ]
