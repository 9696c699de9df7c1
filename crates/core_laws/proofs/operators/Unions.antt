-- Laws of `unite`.
use Rattle.std.proofs.Common.{◌≡◌, ℕ, ◌≤◌, min, List, [], ◌∷◌, ◌++◌, map, inl, refl, sym, ap, ◌∙◌, arith}
use Rattle.core_laws.specs.Maps.{IsAscending, below}
use Rattle.core_laws.specs.Cuts.{Retained, cut}
use Rattle.core_laws.specs.Lawful.{IsLawful, IsWithin}
use Rattle.core_laws.specs.Values.{Sketch, Empty, NonEmpty, cut_value}
use Rattle.core_laws.specs.Operators.{joined, joined_all, least, nonempties, unite, unite_nonempty}
use Rattle.core_laws.proofs.maps.Ascending.{ascending-nil, ascending-filter}
use Rattle.core_laws.proofs.cuts.LawfulThetas.{cut_lawful}
use Rattle.core_laws.proofs.cuts.WithinWholeMaps.{below-below, cut_below, cut_of_cut, lawful-le, within-cut}
use Rattle.core_laws.proofs.operators.JoinedMaps.{ascending-joined, below-joined, joined-nil, lawful-joined}
use Rattle.core_laws.specs.Entries.{KeepsKey}

pub least-le : (ts : List ℕ) (t : ℕ) → least t ts ≤ t
least-le [] t = omega arith
least-le (u ∷ ts) t = omega (arith, least-le ts (min t u))

least-append : (ts : List ℕ) (t u : ℕ) → least t (ts ++ u ∷ []) ≡ min (least t ts) u
least-append [] t u = refl
least-append (s ∷ ts) t u = least-append ts (min t s) u

module _ {X : Type 0} where
  nonempties-append : (values : List (Sketch X)) (v : Retained X) → nonempties (values ++ NonEmpty v ∷ []) ≡ nonempties values ++ v ∷ []
  nonempties-append [] v = refl
  nonempties-append (Empty ∷ values) v = nonempties-append values v
  nonempties-append (NonEmpty u ∷ values) v = ap (λ vs. u ∷ vs) (nonempties-append values v)

  pub nonempties-more : (values : List (Sketch X)) → nonempties (values ++ Empty ∷ []) ≡ nonempties values
  nonempties-more [] = refl
  nonempties-more (Empty ∷ values) = nonempties-more values
  nonempties-more (NonEmpty u ∷ values) = ap (λ vs. u ∷ vs) (nonempties-more values)

  map-append : {Y : Type 0} → (f : X → Y) (xs : List X) (y : X) → map f (xs ++ y ∷ []) ≡ map f xs ++ f y ∷ []
  map-append f [] y = refl
  map-append f (x ∷ xs) y = ap (λ ys. f x ∷ ys) (map-append f xs y)

module _ {X : Type 0} (key : X → ℕ) (merges : X → X → X) (keeps : KeepsKey key merges) where
  joined_all-append : (maps : List (List X)) (whole xs : List X) → joined_all key merges whole (maps ++ xs ∷ []) ≡ joined key merges (joined_all key merges whole maps) xs
  joined_all-append [] whole xs = refl
  joined_all-append (ys ∷ maps) whole xs = joined_all-append maps (joined key merges whole ys) xs

  pub ascending-joined_all : (maps : List (List X)) (whole : List X) → IsAscending key whole → IsAscending key (joined_all key merges whole maps)
  ascending-joined_all [] whole up = up
  ascending-joined_all (xs ∷ maps) whole up = ascending-joined_all maps (joined key merges whole xs) (ascending-joined key merges keeps xs whole up)

  -- a cut of a cut, if nothing is above its theta
  pub cut-again : (k m s : ℕ) (whole : List X) → IsAscending key whole → m ≤ s → cut key k (joined key merges [] (cut key k whole m).entries) (min s (cut key k whole m).theta) ≡ cut key k whole m
  cut-again k m s whole up le =
      let within : IsWithin key k m (cut key k whole m) whole = within-cut key k m m whole up (inl refl) in
      let low : (cut key k whole m).theta ≤ m = lawful-le key whole k m _ within.lawful in
      let theta : min s (cut key k whole m).theta ≡ (cut key k whole m).theta = omega arith in
      let up_below : IsAscending key (below key whole (cut key k whole m).theta) = ascending-filter key _ whole up in
      ap (λ (t : ℕ). cut key k (joined key merges [] (cut key k whole m).entries) t) theta
      ∙ ap (λ xs. cut key k (joined key merges [] xs) (cut key k whole m).theta) within.entries_are
      ∙ ap (λ xs. cut key k xs (cut key k whole m).theta) (joined-nil key merges keeps _ up_below)
      ∙ cut_below key k whole (cut key k whole m).theta up
      ∙ cut_lawful key whole k m (cut key k whole m).theta up within.lawful

  -- one more map merged into a cut has the same effect as merged into the whole
  pub cut-joined : (k m s : ℕ) (whole : List X) (w : Retained X) → IsAscending key whole → m ≤ s → cut key k (joined key merges whole w.entries) (min m w.theta) ≡ cut key k (joined key merges (joined key merges [] (cut key k whole m).entries) w.entries) (min (min s (cut key k whole m).theta) w.theta)
  cut-joined k m s whole w up le =
      let within : IsWithin key k m (cut key k whole m) whole = within-cut key k m m whole up (inl refl) in
      let low : (cut key k whole m).theta ≤ m = lawful-le key whole k m _ within.lawful in
      let u : ℕ = (cut key k whole m).theta in
      let t : ℕ = min u w.theta in
      let theta : min (min s (cut key k whole m).theta) w.theta ≡ min (cut key k whole m).theta w.theta = omega arith in
      let up_below : IsAscending key (below key whole u) = ascending-filter key _ whole up in
      let inner : joined key merges [] (cut key k whole m).entries ≡ below key whole u = ap (λ xs. joined key merges [] xs) within.entries_are ∙ joined-nil key merges keeps _ up_below in
      let up_all : IsAscending key (joined key merges whole w.entries) = ascending-joined key merges keeps w.entries whole up in
      let up_low : IsAscending key (joined key merges (below key whole u) w.entries) = ascending-joined key merges keeps w.entries _ up_below in
      let lawful : IsLawful key (joined key merges whole w.entries) k (min m w.theta) t = lawful-joined key merges keeps k m u w.theta whole w.entries up within.lawful in
      let same : below key (joined key merges (below key whole u) w.entries) t ≡ below key (joined key merges whole w.entries) t =
      below-joined key merges keeps w.entries (below key whole u) t ∙ ap (λ ys. joined key merges ys (below key w.entries t)) (below-below key whole t u (omega arith)) ∙ sym (below-joined key merges keeps w.entries whole t) in
      sym (
      ap (λ (v : ℕ). cut key k (joined key merges (joined key merges [] (cut key k whole m).entries) w.entries) v) theta
      ∙ ap (λ xs. cut key k (joined key merges xs w.entries) t) inner
      ∙ sym (cut_below key k (joined key merges (below key whole u) w.entries) t up_low)
      ∙ ap (λ xs. cut key k xs t) same
      ∙ cut_below key k (joined key merges whole w.entries) t up_all
      ∙ cut_lawful key (joined key merges whole w.entries) k (min m w.theta) t up_all lawful
      )

  union_with_empty : (k start : ℕ) (vs : List (Retained X)) → unite_nonempty key merges k start vs ≡ unite key merges k start (unite_nonempty key merges k start vs ∷ Empty ∷ [])
  union_with_empty k start [] = refl
  union_with_empty k start (v ∷ vs) =
      ap NonEmpty (sym (cut-again k (least start (map (λ u. u.theta) (v ∷ vs))) start (joined_all key merges [] (map (λ u. u.entries) (v ∷ vs))) (ascending-joined_all (map (λ u. u.entries) (v ∷ vs)) [] (ascending-nil key)) (least-le (map (λ u. u.theta) (v ∷ vs)) start)))

  union_with : (k start : ℕ) (vs : List (Retained X)) (w : Retained X) → unite_nonempty key merges k start (vs ++ w ∷ []) ≡ unite key merges k start (unite_nonempty key merges k start vs ∷ NonEmpty w ∷ [])
  union_with k start [] w = refl
  union_with k start (v ∷ vs) w =
      let whole : List X = joined_all key merges [] (map (λ u. u.entries) (v ∷ vs)) in
      let m : ℕ = least start (map (λ u. u.theta) (v ∷ vs)) in
      ap (λ maps. NonEmpty (cut key k (joined_all key merges [] maps) (least start (map (λ u. u.theta) ((v ∷ vs) ++ w ∷ []))))) (map-append (λ u. u.entries) (v ∷ vs) w)
      ∙ ap (λ ts. NonEmpty (cut key k (joined_all key merges [] (map (λ u. u.entries) (v ∷ vs) ++ w.entries ∷ [])) (least start ts))) (map-append (λ u. u.theta) (v ∷ vs) w)
      ∙ ap (λ xs. NonEmpty (cut key k xs (least start (map (λ u. u.theta) (v ∷ vs) ++ w.theta ∷ [])))) (joined_all-append (map (λ u. u.entries) (v ∷ vs)) [] w.entries)
      ∙ ap (λ (t : ℕ). NonEmpty (cut key k (joined key merges whole w.entries) t)) (least-append (map (λ u. u.theta) (v ∷ vs)) start w.theta)
      ∙ ap NonEmpty (cut-joined k m start whole w (ascending-joined_all (map (λ u. u.entries) (v ∷ vs)) [] (ascending-nil key)) (least-le (map (λ u. u.theta) (v ∷ vs)) start))

  -- uniting a list at once is uniting its last value with the union of the others
  pub union_of_union : (k start : ℕ) (values : List (Sketch X)) (last : Sketch X) → unite key merges k start (values ++ last ∷ []) ≡ unite key merges k start (unite key merges k start values ∷ last ∷ [])
  union_of_union k start values Empty = ap (unite_nonempty key merges k start) (nonempties-more values) ∙ union_with_empty k start (nonempties values)
  union_of_union k start values (NonEmpty w) = ap (unite_nonempty key merges k start) (nonempties-append values w) ∙ union_with k start (nonempties values) w

  cut_of_united : (less k start : ℕ) (vs : List (Retained X)) → less ≤ k → cut_value key less (unite_nonempty key merges k start vs) ≡ unite_nonempty key merges less start vs
  cut_of_united less k start [] le = refl
  cut_of_united less k start (v ∷ vs) le =
      ap NonEmpty (cut_of_cut key less k (joined_all key merges [] (map (λ u. u.entries) (v ∷ vs))) (least start (map (λ u. u.theta) (v ∷ vs))) le (ascending-joined_all (map (λ u. u.entries) (v ∷ vs)) [] (ascending-nil key)))

  -- a union cut to fewer nominal entries is the union at that number from the start
  pub cut_of_union : (less k start : ℕ) (values : List (Sketch X)) → less ≤ k → cut_value key less (unite key merges k start values) ≡ unite key merges less start values
  cut_of_union less k start values le = cut_of_united less k start (nonempties values) le
