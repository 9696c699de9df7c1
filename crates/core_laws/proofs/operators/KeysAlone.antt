-- Unions in keys, theta and emptiness alone.
use Rattle.std.proofs.Common.{◌≡◌, ℕ, min, List, [], ◌∷◌, map, Option, Some, None, refl, sym, ap, ◌∙◌, arith}
use Rattle.std.specs.Option.{option_map_or}
use Rattle.core_laws.specs.Maps.{IsAscending, entry_at, with_entry}
use Rattle.core_laws.specs.Cuts.{cut}
use Rattle.core_laws.specs.Values.{Sketch, Empty, NonEmpty, keys, IsAscendingValue}
use Rattle.core_laws.specs.Operators.{join, joined, joined_all, least, nonempties, unite, unite_nonempty}
use Rattle.core_laws.specs.Entries.{hash_key, first_hash, KeepsKey}
use Rattle.core_laws.proofs.maps.Ascending.{ascending-nil, ascending-filter}
use Rattle.core_laws.proofs.cuts.Cuts.{cut_is_below}
use Rattle.core_laws.proofs.maps.MapsOfLists.{ascending-map, ascending-apart}
use Rattle.core_laws.proofs.maps.LookUps.{same_map}
use Rattle.core_laws.proofs.cuts.WithinWholeMaps.{found_key}
use Rattle.core_laws.proofs.maps.MappedEntries.{with_entry-map, cut-map}
use Rattle.core_laws.proofs.operators.JoinedMaps.{either, entry_at-joined, ascending-joined, join_key, joined-nil}
use Rattle.core_laws.proofs.operators.Unions.{union_of_union, nonempties-more}

keeps_hash : (x y : ℕ) → hash_key x ≡ hash_key y → hash_key (first_hash x y) ≡ hash_key y
keeps_hash x y e = e

-- either of two equal hashes may stay
join_hash : (o : Option ℕ) (h : ℕ) → ((w : ℕ) → o ≡ Some w → w ≡ h) → option_map_or (λ w. first_hash w h) o h ≡ h
join_hash None h is = refl
join_hash (Some w) h is = is w refl

either_swap : (o p r : Option ℕ) (q : ℕ) → ((w : ℕ) → o ≡ Some w → w ≡ q) → ((w : ℕ) → p ≡ Some w → w ≡ q) → ((w : ℕ) → r ≡ Some w → w ≡ q) → either first_hash (either first_hash o p) r ≡ either first_hash (either first_hash o r) p
either_swap o None None q io ip ir = refl
either_swap o None (Some x) q io ip ir = refl
either_swap o (Some x) None q io ip ir = refl
either_swap None (Some x) (Some y) q io ip ir = ap Some (ip x refl ∙ sym (ir y refl))
either_swap (Some w) (Some x) (Some y) q io ip ir = refl

joined_swap : (whole xs ys : List ℕ) → IsAscending hash_key whole → IsAscending hash_key xs → IsAscending hash_key ys → joined hash_key first_hash (joined hash_key first_hash whole xs) ys ≡ joined hash_key first_hash (joined hash_key first_hash whole ys) xs
joined_swap whole xs ys up upx upy =
    let join_up = ascending-joined hash_key first_hash keeps_hash in
    let look = entry_at-joined hash_key first_hash keeps_hash in
    same_map hash_key _ _ (join_up ys _ (join_up xs whole up)) (join_up xs _ (join_up ys whole up))
    (λ q. look ys (joined hash_key first_hash whole xs) q (ascending-apart hash_key ys upy)
    ∙ ap (λ o. either first_hash o (entry_at hash_key ys q)) (look xs whole q (ascending-apart hash_key xs upx))
    ∙ either_swap (entry_at hash_key whole q) (entry_at hash_key xs q) (entry_at hash_key ys q) q (λ w e. found_key hash_key whole q w e) (λ w e. found_key hash_key xs q w e) (λ w e. found_key hash_key ys q w e)
    ∙ sym (ap (λ o. either first_hash o (entry_at hash_key xs q)) (look ys whole q (ascending-apart hash_key ys upy)))
    ∙ sym (look xs (joined hash_key first_hash whole ys) q (ascending-apart hash_key xs upx)))

module _ {X : Type 0} (key : X → ℕ) (merges : X → X → X) (keeps : KeepsKey key merges) where
  join-keys : (whole : List X) (x : X) → map key (join key merges whole x) ≡ join hash_key first_hash (map key whole) (key x)
  join-keys whole x =
      sym (with_entry-map key key hash_key (λ y. refl) whole (option_map_or (λ w. merges w x) (entry_at key whole (key x)) x))
      ∙ ap (λ (h : ℕ). with_entry hash_key (map key whole) h) (join_key key merges keeps whole x)
      ∙ sym (ap (λ (h : ℕ). with_entry hash_key (map key whole) h) (join_hash (entry_at hash_key (map key whole) (key x)) (key x) (λ w e. found_key hash_key (map key whole) (key x) w e)))

  joined-keys : (xs whole : List X) → map key (joined key merges whole xs) ≡ joined hash_key first_hash (map key whole) (map key xs)
  joined-keys [] whole = refl
  joined-keys (x ∷ xs) whole = joined-keys xs (join key merges whole x) ∙ ap (λ ys. joined hash_key first_hash ys (map key xs)) (join-keys whole x)

  joined_all-keys : (vs : List (Sketch X)) (whole : List X) → map key (joined_all key merges whole (map (λ u. u.entries) (nonempties vs))) ≡ joined_all hash_key first_hash (map key whole) (map (λ u. u.entries) (nonempties (map (keys key) vs)))
  joined_all-keys [] whole = refl
  joined_all-keys (Empty ∷ vs) whole = joined_all-keys vs whole
  joined_all-keys (NonEmpty v ∷ vs) whole = joined_all-keys vs (joined key merges whole v.entries) ∙ ap (λ ys. joined_all hash_key first_hash ys (map (λ u. u.entries) (nonempties (map (keys key) vs)))) (joined-keys v.entries whole)

  least-keys : (vs : List (Sketch X)) (t : ℕ) → least t (map (λ u. u.theta) (nonempties vs)) ≡ least t (map (λ u. u.theta) (nonempties (map (keys key) vs)))
  least-keys [] t = refl
  least-keys (Empty ∷ vs) t = least-keys vs t
  least-keys (NonEmpty v ∷ vs) t = least-keys vs (min t v.theta)

  keys_cut : (k : ℕ) (vs : List (Sketch X)) (start : ℕ) →
      keys key (NonEmpty (cut key k (joined_all key merges [] (map (λ u. u.entries) (nonempties vs))) (least start (map (λ u. u.theta) (nonempties vs)))))
      ≡ NonEmpty (cut hash_key k (joined_all hash_key first_hash [] (map (λ u. u.entries) (nonempties (map (keys key) vs)))) (least start (map (λ u. u.theta) (nonempties (map (keys key) vs)))))
  keys_cut k vs start =
      ap NonEmpty (sym (cut-map key key hash_key (λ y. refl) k (joined_all key merges [] (map (λ u. u.entries) (nonempties vs))) (least start (map (λ u. u.theta) (nonempties vs))))
      ∙ ap (λ ys. cut hash_key k ys (least start (map (λ u. u.theta) (nonempties vs)))) (joined_all-keys vs [])
      ∙ ap (λ (t : ℕ). cut hash_key k (joined_all hash_key first_hash [] (map (λ u. u.entries) (nonempties (map (keys key) vs)))) t) (least-keys vs start))

  -- the keys of a union are the union of the keys
  pub unite-keys_two : (k start : ℕ) (a b : Sketch X) → keys key (unite key merges k start (a ∷ b ∷ [])) ≡ unite hash_key first_hash k start (keys key a ∷ keys key b ∷ [])
  unite-keys_two k start Empty Empty = refl
  unite-keys_two k start (NonEmpty a) Empty = keys_cut k (NonEmpty a ∷ Empty ∷ []) start
  unite-keys_two k start Empty (NonEmpty b) = keys_cut k (Empty ∷ NonEmpty b ∷ []) start
  unite-keys_two k start (NonEmpty a) (NonEmpty b) = keys_cut k (NonEmpty a ∷ NonEmpty b ∷ []) start

ascending-cut : (k : ℕ) (xs : List ℕ) (t : ℕ) → IsAscending hash_key xs → IsAscending hash_key (cut hash_key k xs t).entries
ascending-cut k xs t up = rw (cut_is_below hash_key k xs t) (ascending-filter hash_key _ xs up)

unite_swap : (k start : ℕ) (a b : Sketch ℕ) → IsAscendingValue hash_key a → IsAscendingValue hash_key b → unite hash_key first_hash k start (a ∷ b ∷ []) ≡ unite hash_key first_hash k start (b ∷ a ∷ [])
unite_swap k start Empty Empty upa upb = refl
unite_swap k start (NonEmpty a) Empty upa upb = refl
unite_swap k start Empty (NonEmpty b) upa upb = refl
unite_swap k start (NonEmpty a) (NonEmpty b) upa upb =
    let same : min (min start a.theta) b.theta ≡ min (min start b.theta) a.theta = omega arith in
    ap NonEmpty (ap (λ ys. cut hash_key k ys (min (min start a.theta) b.theta)) (joined_swap [] a.entries b.entries (ascending-nil hash_key) upa upb)
    ∙ ap (λ (t : ℕ). cut hash_key k (joined hash_key first_hash (joined hash_key first_hash [] b.entries) a.entries) t) same)

-- the last two of three
unite_swap_last : (k start : ℕ) (a b c : Sketch ℕ) → IsAscendingValue hash_key a → IsAscendingValue hash_key b → IsAscendingValue hash_key c → unite hash_key first_hash k start (a ∷ b ∷ c ∷ []) ≡ unite hash_key first_hash k start (a ∷ c ∷ b ∷ [])
unite_swap_last k start Empty b c upa upb upc = unite_swap k start b c upb upc
unite_swap_last k start (NonEmpty a) Empty Empty upa upb upc = refl
unite_swap_last k start (NonEmpty a) (NonEmpty b) Empty upa upb upc = refl
unite_swap_last k start (NonEmpty a) Empty (NonEmpty c) upa upb upc = refl
unite_swap_last k start (NonEmpty a) (NonEmpty b) (NonEmpty c) upa upb upc =
    let t : ℕ = min start a.theta in
    let same : min (min t b.theta) c.theta ≡ min (min t c.theta) b.theta = omega arith in
    let up : IsAscending hash_key (joined hash_key first_hash [] a.entries) = ascending-joined hash_key first_hash keeps_hash a.entries [] (ascending-nil hash_key) in
    ap NonEmpty (ap (λ ys. cut hash_key k ys (min (min t b.theta) c.theta)) (joined_swap (joined hash_key first_hash [] a.entries) b.entries c.entries up upb upc)
    ∙ ap (λ (m : ℕ). cut hash_key k (joined hash_key first_hash (joined hash_key first_hash (joined hash_key first_hash [] a.entries) c.entries) b.entries) m) same)

module _ {X : Type 0} (key : X → ℕ) (merges : X → X → X) (keeps : KeepsKey key merges) where
  ascending-keys : (a : Sketch X) → IsAscendingValue key a → IsAscendingValue hash_key (keys key a)
  ascending-keys Empty up = tt
  ascending-keys (NonEmpty v) up = ascending-map key v.entries up

  pub union_commutes : (k start : ℕ) (a b : Sketch X) → IsAscendingValue key a → IsAscendingValue key b → keys key (unite key merges k start (a ∷ b ∷ [])) ≡ keys key (unite key merges k start (b ∷ a ∷ []))
  union_commutes k start a b upa upb =
      unite-keys_two key merges keeps k start a b ∙ unite_swap k start (keys key a) (keys key b) (ascending-keys a upa) (ascending-keys b upb) ∙ sym (unite-keys_two key merges keeps k start b a)

  -- of three hash sets
  associates : (k start : ℕ) (a b c : Sketch ℕ) → IsAscendingValue hash_key a → IsAscendingValue hash_key b → IsAscendingValue hash_key c → IsAscendingValue hash_key (unite hash_key first_hash k start (b ∷ c ∷ [])) → unite hash_key first_hash k start (unite hash_key first_hash k start (a ∷ b ∷ []) ∷ c ∷ []) ≡ unite hash_key first_hash k start (a ∷ unite hash_key first_hash k start (b ∷ c ∷ []) ∷ [])
  associates k start a b c upa upb upc upbc =
      ap (λ u. unite hash_key first_hash k start (u ∷ c ∷ [])) (unite_swap k start a b upa upb)
      ∙ sym (union_of_union hash_key first_hash keeps_hash k start (b ∷ a ∷ []) c)
      ∙ unite_swap_last k start b a c upb upa upc
      ∙ union_of_union hash_key first_hash keeps_hash k start (b ∷ c ∷ []) a
      ∙ unite_swap k start (unite hash_key first_hash k start (b ∷ c ∷ [])) a upbc upa

  ascending-united : (k start : ℕ) (b c : Sketch ℕ) → IsAscendingValue hash_key (unite hash_key first_hash k start (b ∷ c ∷ []))
  ascending-united k start Empty Empty = tt
  ascending-united k start Empty (NonEmpty c) = ascending-cut k _ _ (ascending-joined hash_key first_hash keeps_hash c.entries [] (ascending-nil hash_key))
  ascending-united k start (NonEmpty b) Empty = ascending-cut k _ _ (ascending-joined hash_key first_hash keeps_hash b.entries [] (ascending-nil hash_key))
  ascending-united k start (NonEmpty b) (NonEmpty c) = ascending-cut k _ _ (ascending-joined hash_key first_hash keeps_hash c.entries _ (ascending-joined hash_key first_hash keeps_hash b.entries [] (ascending-nil hash_key)))

  pub union_associates : (k start : ℕ) (a b c : Sketch X) → IsAscendingValue key a → IsAscendingValue key b → IsAscendingValue key c → keys key (unite key merges k start (unite key merges k start (a ∷ b ∷ []) ∷ c ∷ [])) ≡ keys key (unite key merges k start (a ∷ unite key merges k start (b ∷ c ∷ []) ∷ []))
  union_associates k start a b c upa upb upc =
      unite-keys_two key merges keeps k start (unite key merges k start (a ∷ b ∷ [])) c
      ∙ ap (λ u. unite hash_key first_hash k start (u ∷ keys key c ∷ [])) (unite-keys_two key merges keeps k start a b)
      ∙ associates k start (keys key a) (keys key b) (keys key c) (ascending-keys a upa) (ascending-keys b upb) (ascending-keys c upc) (ascending-united k start (keys key b) (keys key c))
      ∙ sym (ap (λ u. unite hash_key first_hash k start (keys key a ∷ u ∷ [])) (unite-keys_two key merges keeps k start b c))
      ∙ sym (unite-keys_two key merges keeps k start a (unite key merges k start (b ∷ c ∷ [])))

either_self : (o : Option ℕ) → either first_hash o o ≡ o
either_self None = refl
either_self (Some h) = refl

joined_self : (xs : List ℕ) → IsAscending hash_key xs → joined hash_key first_hash (joined hash_key first_hash [] xs) xs ≡ joined hash_key first_hash [] xs
joined_self xs up =
    ap (λ ys. joined hash_key first_hash ys xs) (joined-nil hash_key first_hash keeps_hash xs up)
    ∙ same_map hash_key _ _ (ascending-joined hash_key first_hash keeps_hash xs xs up) up (λ q. entry_at-joined hash_key first_hash keeps_hash xs xs q (ascending-apart hash_key xs up) ∙ either_self (entry_at hash_key xs q))
    ∙ sym (joined-nil hash_key first_hash keeps_hash xs up)

unite_self : (k start : ℕ) (a : Sketch ℕ) → IsAscendingValue hash_key a → unite hash_key first_hash k start (a ∷ a ∷ []) ≡ unite hash_key first_hash k start (a ∷ Empty ∷ [])
unite_self k start Empty up = refl
unite_self k start (NonEmpty a) up =
    let same : min (min start a.theta) a.theta ≡ min start a.theta = omega arith in
    ap NonEmpty (ap (λ ys. cut hash_key k ys (min (min start a.theta) a.theta)) (joined_self a.entries up) ∙ ap (λ (t : ℕ). cut hash_key k (joined hash_key first_hash [] a.entries) t) same)

module _ {X : Type 0} (key : X → ℕ) (merges : X → X → X) (keeps : KeepsKey key merges) where
  -- a union of some values, with itself
  pub union_again : (k start : ℕ) (values : List (Sketch X)) → IsAscendingValue key (unite key merges k start values) → keys key (unite key merges k start (unite key merges k start values ∷ unite key merges k start values ∷ [])) ≡ keys key (unite key merges k start values)
  union_again k start values up =
      let u : Sketch X = unite key merges k start values in
      unite-keys_two key merges keeps k start (unite key merges k start values) (unite key merges k start values)
      ∙ unite_self k start (keys key (unite key merges k start values)) (ascending-keys key merges keeps (unite key merges k start values) up)
      ∙ sym (unite-keys_two key merges keeps k start (unite key merges k start values) Empty)
      ∙ ap (keys key) (sym (union_of_union key merges keeps k start values Empty) ∙ ap (unite_nonempty key merges k start) (nonempties-more values))
