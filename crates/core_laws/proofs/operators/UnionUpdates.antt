-- The effect of an update on a union's value.
use Rattle.std.proofs.Common.{◌≡◌, ℕ, ◌<◌, ◌≤◌, min, Bool, ltb, List, [], ◌∷◌, map, refl, sym, ap, ◌∙◌, subst, arith}
use Rattle.std.specs.List.{AllByRecursion}
use Rattle.core_laws.specs.Maps.{IsAscending, below, entry_at, map_of, IsApart}
use Rattle.core_laws.specs.Cuts.{Retained, retained, cut, IsRetained}
use Rattle.core_laws.specs.Step.{merge_step}
use Rattle.core_laws.specs.Insertion.{after_upserts}
use Rattle.core_laws.specs.Lawful.{IsWithin}
use Rattle.core_laws.specs.Operators.{joined, unite}
use Rattle.core_laws.specs.Values.{Empty, NonEmpty}
use Rattle.core_laws.specs.Folds.{Fold, Value, fold_key, fold_merges, unmarked, never}
use Rattle.core_laws.proofs.maps.Ascending.{ascending-nil, each-filter}
use Rattle.core_laws.proofs.maps.MappedEntries.{below-map}
use Rattle.core_laws.proofs.insertions.Merges.{within-joined, within-lowered}
use Rattle.core_laws.proofs.insertions.Unmarked.{fold_keeps, each-marked, ascending-marked}
use Rattle.core_laws.proofs.cuts.LawfulThetas.{cut_lawful}
use Rattle.core_laws.proofs.maps.LookUps.{same_map}
use Rattle.core_laws.proofs.operators.JoinedMaps.{either, entry_at-joined, ascending-joined, below-joined}
use Rattle.core_laws.proofs.maps.MapsOfLists.{ascending-apart, entry_at-map_of, ascending-map_of}
use Rattle.core_laws.proofs.operators.Unions.{cut-joined}
use Rattle.core_laws.proofs.cuts.Cuts.{below_all}
use Rattle.core_laws.proofs.cuts.WithinWholeMaps.{below-below, cut_below, within-below}
use Rattle.core_laws.specs.Entries.{KeepsKey}

module _ {X : Type 0} (key : X → ℕ) (merges : X → X → X) (refuses : X → X → Bool) (keeps : KeepsKey key merges) where
  pub union-joined : (k m : ℕ) (content listing : List X) (kept : Retained X) → IsAscending key content → AllByRecursion (λ x. 0 < key x) listing →
      unmarked kept ≡ after_upserts (fold_key key) k (merge_step (fold_merges key merges refuses) never) (map Value listing) (unmarked (retained key content m)) →
      IsWithin (fold_key key) k m (unmarked kept) (joined (fold_key key) (fold_merges key merges refuses) (map Value (below key content m)) (map Value (below key listing m)))
  union-joined k m content listing kept up nonzero merged =
      let start : IsWithin (fold_key key) k m (unmarked (retained key content m)) (map Value (below key content m)) =
      subst (λ ys. IsWithin (fold_key key) k m (record { entries = ys; theta = m }) ys) (below-map Value key (fold_key key) (λ y. refl) content m) (within-lowered (fold_key key) k m (fold_merges key merges refuses) never (fold_keeps key merges refuses keeps) (map Value content) (ascending-marked key content up)) in
      rw merged (subst (λ ys. IsWithin (fold_key key) k m (after_upserts (fold_key key) k (merge_step (fold_merges key merges refuses) never) (map Value listing) (unmarked (retained key content m))) (joined (fold_key key) (fold_merges key merges refuses) (map Value (below key content m)) ys)) (below-map Value key (fold_key key) (λ y. refl) listing m)
      (within-joined (fold_key key) k m (fold_merges key merges refuses) never (fold_keeps key merges refuses keeps) (map Value listing) (unmarked (retained key content m)) (map Value (below key content m)) (each-marked key (λ h. 0 < h) listing nonzero) start))

  -- if the union keeps the entries of a table below theta, and an input below m ≤ theta is merged into the table
  pub union-below : (k m theta : ℕ) (kept now : Retained X) (listing : List X) → IsRetained key kept → m ≤ theta → theta ≤ kept.theta → AllByRecursion (λ x. 0 < key x) listing →
      unmarked now ≡ after_upserts (fold_key key) k (merge_step (fold_merges key merges refuses) never) (map Value (below key listing m)) (unmarked kept) →
      IsWithin (fold_key key) k m (unmarked (retained key now.entries (min m now.theta))) (joined (fold_key key) (fold_merges key merges refuses) (map Value (below key (below key kept.entries theta) m)) (map Value (below key listing m)))
  union-below k m theta kept now listing good le high nonzero merged =
      let fkey = fold_key key in
      let fmerges = fold_merges key merges refuses in
      let whole : List (Fold X) = joined fkey fmerges (map Value (below key kept.entries kept.theta)) (map Value (below key (below key listing m) kept.theta)) in
      let all : retained key kept.entries kept.theta ≡ kept = ap (λ ys. record { entries = ys; theta = kept.theta }) (below_all key kept.entries kept.theta good.below_theta) in
      let within : IsWithin fkey k kept.theta (unmarked now) whole =
      union-joined k kept.theta kept.entries (below key listing m) now good.ascending (each-filter (λ x. 0 < key x) (λ x. ltb (key x) m) listing nonzero)
      (merged ∙ ap (λ v. after_upserts fkey k (merge_step fmerges never) (map Value (below key listing m)) (unmarked v)) (sym all)) in
      let held_is : below fkey (map Value (below key kept.entries kept.theta)) m ≡ map Value (below key (below key kept.entries theta) m) =
      below-map Value key fkey (λ y. refl) (below key kept.entries kept.theta) m ∙ ap (λ ys. map Value ys) (below-below key kept.entries m kept.theta (omega (arith, le, high)) ∙ sym (below-below key kept.entries m theta le)) in
      let come_is : below fkey (map Value (below key (below key listing m) kept.theta)) m ≡ map Value (below key listing m) =
      below-map Value key fkey (λ y. refl) (below key (below key listing m) kept.theta) m ∙ ap (λ ys. map Value ys) (below-below key (below key listing m) m kept.theta (omega (arith, le, high)) ∙ below-below key listing m m (omega arith)) in
      let whole_is : below fkey whole m ≡ joined fkey fmerges (map Value (below key (below key kept.entries theta) m)) (map Value (below key listing m)) =
      below-joined fkey fmerges (fold_keeps key merges refuses keeps) (map Value (below key (below key listing m) kept.theta)) (map Value (below key kept.entries kept.theta)) m
      ∙ ap (λ ys. joined fkey fmerges ys (below fkey (map Value (below key (below key listing m) kept.theta)) m)) held_is
      ∙ ap (λ ys. joined fkey fmerges (map Value (below key (below key kept.entries theta) m)) ys) come_is in
      let low : IsWithin fkey k m (record { entries = below fkey (map Value now.entries) (min m now.theta); theta = min m now.theta }) (below fkey whole m) = within-below fkey k kept.theta m (unmarked now) whole (omega (arith, le, high)) within in
      subst (λ ys. IsWithin fkey k m (record { entries = ys; theta = min m now.theta }) (joined fkey fmerges (map Value (below key (below key kept.entries theta) m)) (map Value (below key listing m)))) (below-map Value key fkey (λ y. refl) now.entries (min m now.theta))
      (subst (λ ys. IsWithin fkey k m (record { entries = below fkey (map Value now.entries) (min m now.theta); theta = min m now.theta }) ys) whole_is low)

module _ {X : Type 0} (key : X → ℕ) (merges : X → X → X) (keeps : KeepsKey key merges) where
  -- entries may be merged in any order
  pub joined-map_of : (whole xs : List X) → IsAscending key whole → IsApart key xs → joined key merges whole xs ≡ joined key merges whole (map_of key xs)
  joined-map_of whole xs up apart =
      same_map key _ _ (ascending-joined key merges keeps xs whole up) (ascending-joined key merges keeps (map_of key xs) whole up)
      (λ q. entry_at-joined key merges keeps xs whole q apart ∙ ap (λ o. either merges (entry_at key whole q) o) (sym (entry_at-map_of key xs q)) ∙ sym (entry_at-joined key merges keeps (map_of key xs) whole q (ascending-apart key (map_of key xs) (ascending-map_of key xs))))

  -- a retained map within a joined map has the value that the cut of the whole has
  pub joined-value : (k m : ℕ) (v : Retained X) (content xs : List X) → IsAscending key content → IsApart key xs → IsWithin key k m v (joined key merges (below key content m) (below key xs m)) → cut key k v.entries v.theta ≡ cut key k (joined key merges content (map_of key xs)) m
  joined-value k m v content xs up apart within =
      ap (λ ys. cut key k ys v.theta) within.entries_are
      ∙ cut_below key k (joined key merges (below key content m) (below key xs m)) v.theta within.ascending
      ∙ cut_lawful key (joined key merges (below key content m) (below key xs m)) k m v.theta within.ascending within.lawful
      ∙ ap (λ ys. cut key k ys m) (sym (below-joined key merges keeps xs content m))
      ∙ cut_below key k (joined key merges content xs) m (ascending-joined key merges keeps xs content up)
      ∙ ap (λ ys. cut key k ys m) (joined-map_of content xs up apart)

  -- the value after an update is the union of the value before and the input
  pub update-value : (k start m : ℕ) (old new : Retained X) (xs : List X) (theta : ℕ) → m ≡ min old.theta theta → old.theta ≤ start → IsAscending key old.entries → IsApart key xs → IsWithin key k m new (joined key merges (below key old.entries m) (below key xs m)) →
      NonEmpty (cut key k new.entries new.theta) ≡ unite key merges k start (NonEmpty (cut key k old.entries old.theta) ∷ NonEmpty (record { entries = map_of key xs; theta = theta }) ∷ [])
  update-value k start m old new xs theta m_is le up apart within =
      ap NonEmpty (joined-value k m new old.entries xs up apart within
      ∙ ap (λ (t : ℕ). cut key k (joined key merges old.entries (map_of key xs)) t) m_is
      ∙ cut-joined key merges keeps k old.theta start old.entries (record { entries = map_of key xs; theta = theta }) up le)

  -- if the union was empty
  pub first-value : (k start m : ℕ) (new : Retained X) (xs : List X) (theta : ℕ) → m ≡ min start theta → IsApart key xs → IsWithin key k m new (joined key merges [] (below key xs m)) →
      NonEmpty (cut key k new.entries new.theta) ≡ unite key merges k start (Empty ∷ NonEmpty (record { entries = map_of key xs; theta = theta }) ∷ [])
  first-value k start m new xs theta m_is apart within =
      ap NonEmpty (joined-value k m new [] xs (ascending-nil key) apart within ∙ ap (λ (t : ℕ). cut key k (joined key merges [] (map_of key xs)) t) m_is)
