-- Unions whose merges commute, associate or are idempotent.
use Rattle.std.proofs.Common.{◌≡◌, ℕ, min, Bool, true, false, cond, List, [], ◌∷◌, map, Option, Some, None, inl, inr, refl, sym, ap, ◌∙◌, arith}
use Rattle.std.proofs.lemmas.Bool.{cases_lt}
use Rattle.core_laws.specs.Commuting.{Commutes, Associates, IsIdempotent}
use Rattle.core_laws.specs.Cuts.{Retained, cut}
use Rattle.core_laws.specs.Entries.{KeepsKey}
use Rattle.core_laws.specs.Folds.{Value, Refused, fold_key, fold_merges}
use Rattle.core_laws.specs.Lawful.{IsLawful, IsWithin}
use Rattle.core_laws.specs.Maps.{IsAscending, below, entry_at}
use Rattle.core_laws.specs.Operators.{joined, joined_all, least, nonempties, unite, unite_nonempty}
use Rattle.core_laws.specs.Values.{Sketch, Empty, NonEmpty, IsAscendingValue}
use Rattle.core_laws.proofs.maps.Ascending.{ascending-nil, ascending-filter}
use Rattle.core_laws.proofs.maps.LookUps.{same_map}
use Rattle.core_laws.proofs.maps.MapsOfLists.{ascending-apart}
use Rattle.core_laws.proofs.cuts.Cuts.{cut_is_below}
use Rattle.core_laws.proofs.cuts.LawfulThetas.{cut_lawful}
use Rattle.core_laws.proofs.cuts.WithinWholeMaps.{below-below, cut_below, within-cut, found_key}
use Rattle.core_laws.proofs.operators.JoinedMaps.{either, entry_at-joined, ascending-joined, below-joined, joined-nil, joined-extends_right}
use Rattle.core_laws.proofs.operators.Unions.{ascending-joined_all, nonempties-more, union_of_union}

module _ {X : Type 0} (key : X → ℕ) (merges : X → X → X) (keeps : KeepsKey key merges) where
  -- ---- the order of two

  either_commutes : Commutes key merges → (o p : Option X) (q : ℕ) → ((x : X) → o ≡ Some x → key x ≡ q) → ((x : X) → p ≡ Some x → key x ≡ q) → either merges o p ≡ either merges p o
  either_commutes commutes None None q io ip = refl
  either_commutes commutes None (Some y) q io ip = refl
  either_commutes commutes (Some x) None q io ip = refl
  either_commutes commutes (Some x) (Some y) q io ip = ap Some (commutes x y (io x refl ∙ sym (ip y refl)))

  joined_commutes : Commutes key merges → (xs ys : List X) → IsAscending key xs → IsAscending key ys → joined key merges xs ys ≡ joined key merges ys xs
  joined_commutes commutes xs ys upx upy =
      same_map key _ _ (ascending-joined key merges keeps ys xs upx) (ascending-joined key merges keeps xs ys upy)
      (λ q. entry_at-joined key merges keeps ys xs q (ascending-apart key ys upy)
      ∙ either_commutes commutes (entry_at key xs q) (entry_at key ys q) q (λ x e. found_key key xs q x e) (λ y e. found_key key ys q y e)
      ∙ sym (entry_at-joined key merges keeps xs ys q (ascending-apart key xs upx)))

  pub unite_commutes : Commutes key merges → (k start : ℕ) (a b : Sketch X) → IsAscendingValue key a → IsAscendingValue key b → unite key merges k start (a ∷ b ∷ []) ≡ unite key merges k start (b ∷ a ∷ [])
  unite_commutes commutes k start Empty Empty upa upb = refl
  unite_commutes commutes k start (NonEmpty a) Empty upa upb = refl
  unite_commutes commutes k start Empty (NonEmpty b) upa upb = refl
  unite_commutes commutes k start (NonEmpty a) (NonEmpty b) upa upb =
      let same : min (min start a.theta) b.theta ≡ min (min start b.theta) a.theta = omega arith in
      let maps : joined key merges (joined key merges [] a.entries) b.entries ≡ joined key merges (joined key merges [] b.entries) a.entries =
      ap (λ xs. joined key merges xs b.entries) (joined-nil key merges keeps a.entries upa)
      ∙ joined_commutes commutes a.entries b.entries upa upb
      ∙ ap (λ xs. joined key merges xs a.entries) (sym (joined-nil key merges keeps b.entries upb)) in
      ap NonEmpty (ap (λ xs. cut key k xs (min (min start a.theta) b.theta)) maps
      ∙ ap (λ (t : ℕ). cut key k (joined key merges (joined key merges [] b.entries) a.entries) t) same)

  -- ---- the grouping of three

  either_associates : Associates key merges → (o p r : Option X) (q : ℕ) → ((x : X) → o ≡ Some x → key x ≡ q) → ((x : X) → p ≡ Some x → key x ≡ q) → ((x : X) → r ≡ Some x → key x ≡ q) → either merges (either merges o p) r ≡ either merges o (either merges p r)
  either_associates associates o p None q io ip ir = refl
  either_associates associates o None (Some z) q io ip ir = refl
  either_associates associates None (Some y) (Some z) q io ip ir = refl
  either_associates associates (Some x) (Some y) (Some z) q io ip ir = ap Some (associates x y z (io x refl ∙ sym (ip y refl)) (ip y refl ∙ sym (ir z refl)))

  joined_associates : Associates key merges → (xs ys zs : List X) → IsAscending key xs → IsAscending key ys → IsAscending key zs → joined key merges (joined key merges xs ys) zs ≡ joined key merges xs (joined key merges ys zs)
  joined_associates associates xs ys zs upx upy upz =
      let up : IsAscending key (joined key merges ys zs) = ascending-joined key merges keeps zs ys upy in
      same_map key _ _ (ascending-joined key merges keeps zs _ (ascending-joined key merges keeps ys xs upx)) (ascending-joined key merges keeps (joined key merges ys zs) xs upx)
      (λ q. entry_at-joined key merges keeps zs (joined key merges xs ys) q (ascending-apart key zs upz)
      ∙ ap (λ o. either merges o (entry_at key zs q)) (entry_at-joined key merges keeps ys xs q (ascending-apart key ys upy))
      ∙ either_associates associates (entry_at key xs q) (entry_at key ys q) (entry_at key zs q) q (λ x e. found_key key xs q x e) (λ y e. found_key key ys q y e) (λ z e. found_key key zs q z e)
      ∙ ap (λ o. either merges (entry_at key xs q) o) (sym (entry_at-joined key merges keeps zs ys q (ascending-apart key zs upz)))
      ∙ sym (entry_at-joined key merges keeps (joined key merges ys zs) xs q (ascending-apart key (joined key merges ys zs) up)))

  -- a theta that is lawful for the merged map stays lawful, or is replaced by a lesser one
  lawful-joining : (k m u t : ℕ) (whole xs : List X) → IsAscending key whole → IsAscending key xs → IsLawful key xs k m u → IsLawful key (joined key merges whole xs) k (min t m) (min t u)
  lawful-joining k m u t whole xs up upx (inl e) = inl (omega arith)
  lawful-joining k m u t whole xs up upx (inr low) =
      elim (cases_lt u t) [
        | inl lt ↦
            let same : min t u ≡ u = omega arith in
            let more = joined-extends_right key merges keeps xs whole upx up in
            rw same (inr (record { below_start = omega (arith, low.below_start); is_key = more.has u low.is_key; ranked = omega (arith, low.ranked, more.ranks u) }))
        | inr le ↦ inl (omega (arith, low.below_start))
      ]

  -- merging a cut has the same effect as merging the whole that is cut
  joined-cut : (k m t : ℕ) (whole xs : List X) → IsAscending key whole → IsAscending key xs → cut key k (joined key merges whole (cut key k xs m).entries) (min t (cut key k xs m).theta) ≡ cut key k (joined key merges whole xs) (min t m)
  joined-cut k m t whole xs up upx =
      let within : IsWithin key k m (cut key k xs m) xs = within-cut key k m m xs upx (inl refl) in
      let u : ℕ = (cut key k xs m).theta in
      let v : ℕ = min t u in
      let up_low : IsAscending key (joined key merges whole (below key xs u)) = ascending-joined key merges keeps (below key xs u) whole up in
      let up_all : IsAscending key (joined key merges whole xs) = ascending-joined key merges keeps xs whole up in
      let same : below key (joined key merges whole (below key xs u)) v ≡ below key (joined key merges whole xs) v =
      below-joined key merges keeps (below key xs u) whole v ∙ ap (λ ys. joined key merges (below key whole v) ys) (below-below key xs v u (omega arith)) ∙ sym (below-joined key merges keeps xs whole v) in
      ap (λ ys. cut key k (joined key merges whole ys) v) within.entries_are
      ∙ sym (cut_below key k (joined key merges whole (below key xs u)) v up_low)
      ∙ ap (λ ys. cut key k ys v) same
      ∙ cut_below key k (joined key merges whole xs) v up_all
      ∙ cut_lawful key (joined key merges whole xs) k (min t m) v up_all (lawful-joining k m u t whole xs up upx within.lawful)

  -- a value united with a cut
  with_cut : (k start m : ℕ) (a : Retained X) (xs : List X) → IsAscending key xs → unite key merges k start (NonEmpty a ∷ NonEmpty (cut key k xs m) ∷ []) ≡ NonEmpty (cut key k (joined key merges (joined key merges [] a.entries) xs) (min (min start a.theta) m))
  with_cut k start m a xs upx = ap NonEmpty (joined-cut k m (min start a.theta) (joined key merges [] a.entries) xs (ascending-joined key merges keeps a.entries [] (ascending-nil key)) upx)

  -- one of two is Empty
  one_more : (k start : ℕ) (a b : Retained X) → IsAscending key b.entries → unite key merges k start (NonEmpty a ∷ NonEmpty b ∷ []) ≡ unite key merges k start (NonEmpty a ∷ NonEmpty (cut key k (joined key merges [] b.entries) (min start b.theta)) ∷ [])
  one_more k start a b upb =
      let theta : min (min start a.theta) b.theta ≡ min (min start a.theta) (min start b.theta) = omega arith in
      ap NonEmpty (ap (λ (t : ℕ). cut key k (joined key merges (joined key merges [] a.entries) b.entries) t) theta
      ∙ ap (λ xs. cut key k (joined key merges (joined key merges [] a.entries) xs) (min (min start a.theta) (min start b.theta))) (sym (joined-nil key merges keeps b.entries upb)))
      ∙ sym (with_cut k start (min start b.theta) a (joined key merges [] b.entries) (ascending-joined key merges keeps b.entries [] (ascending-nil key)))

  two_more : Associates key merges → (k start : ℕ) (a b c : Retained X) → IsAscending key b.entries → IsAscending key c.entries → unite key merges k start (NonEmpty a ∷ NonEmpty b ∷ NonEmpty c ∷ []) ≡ unite key merges k start (NonEmpty a ∷ unite key merges k start (NonEmpty b ∷ NonEmpty c ∷ []) ∷ [])
  two_more associates k start a b c upb upc =
      let m : ℕ = min (min start b.theta) c.theta in
      let theta : min (min (min start a.theta) b.theta) c.theta ≡ min (min start a.theta) (min (min start b.theta) c.theta) = omega arith in
      let first : List X = joined key merges [] a.entries in
      let up_first : IsAscending key first = ascending-joined key merges keeps a.entries [] (ascending-nil key) in
      let maps : joined key merges (joined key merges first b.entries) c.entries ≡ joined key merges first (joined key merges (joined key merges [] b.entries) c.entries) =
      joined_associates associates first b.entries c.entries up_first upb upc
      ∙ ap (λ xs. joined key merges first (joined key merges xs c.entries)) (sym (joined-nil key merges keeps b.entries upb)) in
      ap NonEmpty (ap (λ xs. cut key k xs (min (min (min start a.theta) b.theta) c.theta)) maps
      ∙ ap (λ (t : ℕ). cut key k (joined key merges first (joined key merges (joined key merges [] b.entries) c.entries)) t) theta)
      ∙ sym (with_cut k start m a (joined key merges (joined key merges [] b.entries) c.entries) (ascending-joined key merges keeps c.entries _ (ascending-joined key merges keeps b.entries [] (ascending-nil key))))

  all_three : Associates key merges → (k start : ℕ) (a b c : Sketch X) → IsAscendingValue key b → IsAscendingValue key c → unite key merges k start (a ∷ b ∷ c ∷ []) ≡ unite key merges k start (a ∷ unite key merges k start (b ∷ c ∷ []) ∷ [])
  all_three associates k start Empty Empty Empty upb upc = refl
  all_three associates k start Empty Empty (NonEmpty c) upb upc = union_of_union key merges keeps k start (Empty ∷ NonEmpty c ∷ []) Empty
  all_three associates k start Empty (NonEmpty b) Empty upb upc = union_of_union key merges keeps k start (NonEmpty b ∷ Empty ∷ []) Empty
  all_three associates k start Empty (NonEmpty b) (NonEmpty c) upb upc = union_of_union key merges keeps k start (NonEmpty b ∷ NonEmpty c ∷ []) Empty
  all_three associates k start (NonEmpty a) Empty Empty upb upc = refl
  all_three associates k start (NonEmpty a) Empty (NonEmpty c) upb upc = one_more k start a c upc
  all_three associates k start (NonEmpty a) (NonEmpty b) Empty upb upc = one_more k start a b upb
  all_three associates k start (NonEmpty a) (NonEmpty b) (NonEmpty c) upb upc = two_more associates k start a b c upb upc

  pub unite_associates : Associates key merges → (k start : ℕ) (a b c : Sketch X) → IsAscendingValue key b → IsAscendingValue key c → unite key merges k start (unite key merges k start (a ∷ b ∷ []) ∷ c ∷ []) ≡ unite key merges k start (a ∷ unite key merges k start (b ∷ c ∷ []) ∷ [])
  unite_associates associates k start a b c upb upc = sym (union_of_union key merges keeps k start (a ∷ b ∷ []) c) ∙ all_three associates k start a b c upb upc

  -- ---- a union with itself

  either_itself : IsIdempotent merges → (o : Option X) → either merges o o ≡ o
  either_itself idempotent None = refl
  either_itself idempotent (Some x) = ap Some (idempotent x)

  joined_itself : IsIdempotent merges → (xs : List X) → IsAscending key xs → joined key merges (joined key merges [] xs) xs ≡ joined key merges [] xs
  joined_itself idempotent xs up =
      ap (λ ys. joined key merges ys xs) (joined-nil key merges keeps xs up)
      ∙ same_map key _ _ (ascending-joined key merges keeps xs xs up) up (λ q. entry_at-joined key merges keeps xs xs q (ascending-apart key xs up) ∙ either_itself idempotent (entry_at key xs q))
      ∙ sym (joined-nil key merges keeps xs up)

  unite_itself : IsIdempotent merges → (k start : ℕ) (a : Sketch X) → IsAscendingValue key a → unite key merges k start (a ∷ a ∷ []) ≡ unite key merges k start (a ∷ Empty ∷ [])
  unite_itself idempotent k start Empty up = refl
  unite_itself idempotent k start (NonEmpty a) up =
      let same : min (min start a.theta) a.theta ≡ min start a.theta = omega arith in
      ap NonEmpty (ap (λ ys. cut key k ys (min (min start a.theta) a.theta)) (joined_itself idempotent a.entries up) ∙ ap (λ (t : ℕ). cut key k (joined key merges [] a.entries) t) same)

  ascending_union : (k start : ℕ) (vs : List (Retained X)) → IsAscendingValue key (unite_nonempty key merges k start vs)
  ascending_union k start [] = tt
  ascending_union k start (v ∷ vs) =
      let whole : List X = joined_all key merges [] (map (λ u. u.entries) (v ∷ vs)) in
      let m : ℕ = least start (map (λ u. u.theta) (v ∷ vs)) in
      let up : IsAscending key whole = ascending-joined_all key merges keeps (map (λ u. u.entries) (v ∷ vs)) [] (ascending-nil key) in
      rw (cut_is_below key k whole m) (ascending-filter key _ whole up)

  pub unite_again : IsIdempotent merges → (k start : ℕ) (values : List (Sketch X)) → unite key merges k start (unite key merges k start values ∷ unite key merges k start values ∷ []) ≡ unite key merges k start values
  unite_again idempotent k start values =
      unite_itself idempotent k start (unite key merges k start values) (ascending_union k start (nonempties values))
      ∙ sym (union_of_union key merges keeps k start values Empty)
      ∙ ap (unite_nonempty key merges k start) (nonempties-more values)

-- ---- merges of folds

module _ {X : Type 0} (key : X → ℕ) (merges : X → X → X) (refuses : X → X → Bool) where
  -- merges of folds are commutative if refusals don't depend on the order and the merges that aren't refused are
  pub folds_commute : ((x y : X) → key x ≡ key y → refuses x y ≡ refuses y x) → ((x y : X) → key x ≡ key y → refuses x y ≡ false → merges x y ≡ merges y x) → Commutes (fold_key key) (fold_merges key merges refuses)
  folds_commute alike commutes (Refused g) (Refused h) same = ap Refused same
  folds_commute alike commutes (Refused g) (Value y) same = ap Refused same
  folds_commute alike commutes (Value x) (Refused h) same = ap Refused same
  folds_commute alike commutes (Value x) (Value y) same =
      (elim (refuses x y) as (λ b. refuses x y ≡ b → cond b (Refused (key x)) (Value (merges x y)) ≡ cond (refuses y x) (Refused (key y)) (Value (merges y x))) [
        | true ↦ λ e. ap Refused same ∙ sym (ap (λ b. cond b (Refused (key y)) (Value (merges y x))) (sym (alike x y same) ∙ e))
        | false ↦ λ e. ap Value (commutes x y same e) ∙ sym (ap (λ b. cond b (Refused (key y)) (Value (merges y x))) (sym (alike x y same) ∙ e))
      ]) refl

  pub folds_idempotent : ((x : X) → refuses x x ≡ false) → IsIdempotent merges → IsIdempotent (fold_merges key merges refuses)
  folds_idempotent allows idempotent (Refused h) = refl
  folds_idempotent allows idempotent (Value x) = ap (λ b. cond b (Refused (key x)) (Value (merges x x))) (allows x) ∙ ap Value (idempotent x)

  pub folds_associate : KeepsKey key merges → ((x y z : X) → key x ≡ key y → key y ≡ key z → fold_merges key merges refuses (fold_merges key merges refuses (Value x) (Value y)) (Value z) ≡ fold_merges key merges refuses (Value x) (fold_merges key merges refuses (Value y) (Value z))) → Associates (fold_key key) (fold_merges key merges refuses)
  folds_associate keeps associates (Refused h) y z one two = refl
  folds_associate keeps associates (Value x) (Refused h) z one two = refl
  folds_associate keeps associates (Value x) (Value y) (Refused g) one two =
      elim (refuses x y) as (λ b. fold_merges key merges refuses (cond b (Refused (key x)) (Value (merges x y))) (Refused g) ≡ Refused (key x)) [
        | true ↦ refl
        | false ↦ ap Refused (keeps x y one ∙ sym one)
      ]
  folds_associate keeps associates (Value x) (Value y) (Value z) one two = associates x y z one two
