-- Differences of listings, and the states of the kept entries.
use Rattle.std.proofs.Common.{◌+◌, inl, inr, take, drop, set, ◌≡◌, ℕ, suc, ◌<◌, ◌≤◌, ◌≢◌, ◌^◌, Bool, true, false, cond, ltb, leb, is_none, is_some, not, min, List, [], ◌∷◌, ◌++◌, length, map, Option, Some, None, refl, sym, ap, ◌∙◌, arith}
use Rattle.std.specs.Prelude.{◌&&◌, ◌==◌, if◌then◌else◌, option_map}
use Rattle.core_laws.proofs.maps.MappedEntries.{entry_at-map}
use Rattle.std.specs.List.{filter, slice_get, AllByRecursion, AllPairs}
use Rattle.std.proofs.lemmas.Bool.{cases_lt}
use Rattle.std.proofs.lemmas.Bool.Decides.{nat_tests}
use Rattle.std.proofs.lemmas.List.{length-map, map-id, map-append, append_assoc, take_more_set, take-set}
use Rattle.std.proofs.lemmas.List.Sorted.{length_permutation}
use Rattle.core_compact.specs.CompactState.{Compact, IsCompactOf, IsAnswer, shown_of, empty_compact, is_answer_ordered}
use Rattle.core_laws.specs.Maps.{IsAscending, IsApart, below, entry_at, map_of}
use Rattle.core_laws.specs.Entries.{hash_key}
use Rattle.core_laws.specs.Operators.{lacking, minus, unless_nothing}
use Rattle.core_laws.specs.Shown.{Shown, IsShown, shown_value}
use Rattle.core_laws.specs.Values.{Empty, NonEmpty}
use Rattle.core_laws.specs.declared.TheConstants.{MAX_THETA}
use Rattle.core_laws.proofs.maps.Ascending.{each-filter, each-weaker, each-passes, ascending-head, ascending-tail, ascending-nil, ascending-cons, ascending-filter}
use Rattle.core_laws.proofs.operators.CommonMaps.{filter-agree, lacking-nil}
use Rattle.core_laws.proofs.cuts.Cuts.{below_all}
use Rattle.core_laws.proofs.maps.MapsOfLists.{distinct-apart, each-hash, apart-distinct, ascending-from_map, each-from_map, ascending-map, entry_at-map_of, ascending-map_of}
use Rattle.core_laws.proofs.maps.ApartEntries.{apart-filter}
use Rattle.core_laws.proofs.maps.LookUps.{entry_at_rest, entry_at-filter_in, entry_at-filter_out, entry_at-below, entry_at_head, past, same_map}
use Rattle.core_table.proofs.OtherOrders.{map_of-ascending, map_of-moved, each-map_of}
use Rattle.core_compact.proofs.LawsOfShown.{IsShown-retained}

-- what a state of entries shows, in their own order and sorted

module _ {X : Type 0} (key : X → ℕ) (theta seed_hash : ℕ) where
  abbrev listed : List X → Bool → Compact X
  listed xs ordered = record { empty = false; entries = xs; theta = theta; seed_hash = seed_hash; ordered = ordered }

  pub apart_shown : (xs : List X) (ordered : Bool) → IsShown (shown_of key (listed xs ordered)) → IsApart key xs
  apart_shown xs ordered shown = apart-distinct key xs shown.distinct

  one_ascends : (xs : List X) → length xs ≡ 1 → IsAscending key xs
  one_ascends [] e = ascending-nil key
  one_ascends (x ∷ []) e = ascending-cons key x [] tt (ascending-nil key)
  one_ascends (x ∷ y ∷ xs) e = absurd (omega arith)

  -- entries that are known to be in order ascend
  known : (xs : List X) (ascending : Bool) → IsShown (shown_of key (listed xs ascending)) → is_answer_ordered ascending (length xs) theta ≡ true → IsAscending key xs
  known xs true shown e = ascending-from_map key xs (shown.ascending refl)
  known xs false shown e =
      (elim (length xs == 1) as (λ b. (length xs == 1) ≡ b → (b && theta == MAX_THETA) ≡ true → IsAscending key xs) [
        | true ↦ λ one _. one_ascends xs (grind (arith, nat_tests))
        | false ↦ λ _ f. absurd (cc)
      ]) refl e

  pub shown_known : (xs : List X) (ascending : Bool) → IsShown (shown_of key (listed xs ascending)) → IsShown (shown_of key (listed xs (is_answer_ordered ascending (length xs) theta)))
  shown_known xs ascending shown = record {
    theta_low = shown.theta_low;
    theta_high = shown.theta_high;
    distinct = shown.distinct;
    nonzero = shown.nonzero;
    below_theta = shown.below_theta;
    limited = shown.limited;
    ascending = λ e. ascending-map key xs (known xs ascending shown e);
    none = λ e. absurd (cc);
    greatest = λ e. absurd (cc);
  }

  pub count_sorted : (xs : List X) → IsApart key xs → length (map_of key xs) ≡ length xs
  count_sorted xs each = sym (length_permutation (map_of key xs) xs (map_of-moved key xs each))

  pub shown_sorted : (xs : List X) (ordered : Bool) → IsShown (shown_of key (listed xs ordered)) → IsShown (shown_of key (listed (map_of key xs) true))
  shown_sorted xs ordered shown =
      IsShown-retained key (record { entries = map_of key xs; theta = theta }) seed_hash true
      (record {
        ascending = ascending-map_of key xs;
        nonzero = each-map_of key (λ x. 0 < key x) xs (each-from_map key (λ h. 0 < h) xs shown.nonzero);
        below_theta = each-map_of key (λ x. key x < theta) xs (each-from_map key (λ h. h < theta) xs shown.below_theta);
        theta_low = shown.theta_low;
        theta_high = shown.theta_high;
      })
      (rw (count_sorted xs (apart_shown xs ordered shown), ← length-map xs key) shown.limited)

  pub compact_known : (xs : List X) (ascending : Bool) → IsShown (shown_of key (listed xs ascending)) → IsCompactOf key (record { entries = map_of key xs; theta = theta }) seed_hash ascending (listed xs (is_answer_ordered ascending (length xs) theta))
  compact_known xs ascending shown =
      let each = apart_shown xs ascending shown in
      record {
        nonempty = refl;
        same_theta = refl;
        same_seed = refl;
        ordered_if = ap (λ (n : ℕ). is_answer_ordered ascending n theta) (sym (count_sorted xs each));
        lists_all = record { each_once = map_of-moved key xs each; apart = each; same_map = refl };
        in_order = λ e. sym (map_of-ascending key xs (known xs ascending shown e));
      }

  pub compact_sorted : (xs : List X) (ordered : Bool) → IsShown (shown_of key (listed xs ordered)) → IsCompactOf key (record { entries = map_of key xs; theta = theta }) seed_hash true (listed (map_of key xs) true)
  compact_sorted xs ordered shown =
      let sound = shown_sorted xs ordered shown in
      let each = apart_shown (map_of key xs) true sound in
      rw (map_of-ascending key (map_of key xs) (ascending-map_of key xs)) at (compact_known (map_of key xs) true sound)

module _ {X : Type 0} where
  pub fewer : (p : X → Bool) (xs : List X) → length (filter p xs) ≤ length xs
  fewer p [] = omega arith
  fewer p (x ∷ xs) = elim (p x) as (λ b. length (cond b (x ∷ filter p xs) (filter p xs)) ≤ suc (length xs)) [ true ↦ omega (arith, fewer p xs) | false ↦ omega (arith, fewer p xs) ]

module _ {X : Type 0} (key : X → ℕ) where
  -- filtering by a test of keys alone
  pub entry_at-keyed : (f : ℕ → Bool) (xs : List X) (q : ℕ) → entry_at key (filter (λ x. f (key x)) xs) q ≡ cond (f q) (entry_at key xs q) None
  entry_at-keyed f xs q =
      (elim (f q) as (λ b. f q ≡ b → entry_at key (filter (λ x. f (key x)) xs) q ≡ cond b (entry_at key xs q) None) [
        | true ↦ λ e. entry_at-filter_in key (λ x. f (key x)) xs q (λ x same. ap f same ∙ e)
        | false ↦ λ e. entry_at-filter_out key (λ x. f (key x)) xs q (λ x same. ap f same ∙ e)
      ]) refl

module _ {X : Type 0} (key : X → ℕ) where
  none_low : (xs : List X) (theta : ℕ) → AllByRecursion (λ y. theta ≤ key y) xs → below key xs theta ≡ []
  none_low [] theta all = refl
  none_low (x ∷ xs) theta all = let e : ltb (key x) theta ≡ false = grind (arith, nat_tests, all.0) in rw e (none_low xs theta all.1)

  -- if entries ascend and the first is not below theta, none is
  pub stops : (x : X) (left : List X) (theta : ℕ) → IsAscending key (x ∷ left) → theta ≤ key x → below key (x ∷ left) theta ≡ []
  stops x left theta up le = none_low (x ∷ left) theta (le, each-weaker _ _ (λ y lt. omega (arith, le, lt)) left (ascending-head key x left up))

  both_tests : (a b : Bool) (o : Option X) → cond a (cond b o None) None ≡ cond b (cond a o None) None
  both_tests true true o = refl
  both_tests true false o = refl
  both_tests false true o = refl
  both_tests false false o = refl

  -- the kept entries of a listing: those below theta, and not among the hashes
  abbrev pub kept_of : List X → List ℕ → ℕ → List X
  kept_of listing hashes theta = lacking key hash_key (below key listing theta) hashes

  same_filter : (p q : X → Bool) (xs : List X) → AllByRecursion (λ x. p x ≡ q x) xs → filter p xs ≡ filter q xs
  same_filter p q [] all = refl
  same_filter p q (x ∷ xs) all = rw (all.0, same_filter p q xs all.1) refl

  -- hashes that fail a test make no difference, if the keys of all entries below theta pass it
  pub kept_tested : (test : ℕ → Bool) (xs : List X) (hs : List ℕ) (theta : ℕ) → AllByRecursion (λ x. test (key x) ≡ true) (below key xs theta) → kept_of xs (filter (λ h. test (hash_key h)) (map_of hash_key hs)) theta ≡ kept_of xs hs theta
  kept_tested test xs hs theta passes =
      let tested = filter (λ h. test (hash_key h)) (map_of hash_key hs) in
      same_filter (λ x. is_none (entry_at hash_key tested (key x))) (λ x. is_none (entry_at hash_key hs (key x))) (below key xs theta)
      (each-weaker (λ x. test (key x) ≡ true) (λ x. is_none (entry_at hash_key tested (key x)) ≡ is_none (entry_at hash_key hs (key x)))
      (λ x e. ap is_none (entry_at-keyed hash_key test (map_of hash_key hs) (key x) ∙ ap (λ b. cond b (entry_at hash_key (map_of hash_key hs) (key x)) None) e ∙ entry_at-map_of hash_key hs (key x))) (below key xs theta) passes)

  -- the map of the entries that pass a test of keys
  pub map_of-tested : (test : ℕ → Bool) (xs : List X) → map_of key (filter (λ x. test (key x)) xs) ≡ filter (λ x. test (key x)) (map_of key xs)
  map_of-tested test xs =
      same_map key _ _ (ascending-map_of key (filter (λ x. test (key x)) xs)) (ascending-filter key _ _ (ascending-map_of key xs))
      (λ q.
      entry_at-map_of key (filter (λ x. test (key x)) xs) q
      ∙ entry_at-keyed key test xs q
      ∙ ap (λ o. cond (test q) o None) (sym (entry_at-map_of key xs q))
      ∙ sym (entry_at-keyed key test (map_of key xs) q))

  -- without hashes all entries below theta are kept
  pub kept_all : (xs : List X) (theta : ℕ) → AllByRecursion (λ x. key x < theta) xs → kept_of xs [] theta ≡ xs
  kept_all xs theta all = lacking-nil key hash_key (below key xs theta) ∙ below_all key xs theta all

  -- the map of the kept entries is the difference of the maps, below theta
  pub kept_map : (xs : List X) (hs : List ℕ) (theta : ℕ) → map_of key (kept_of xs hs theta) ≡ below key (lacking key hash_key (map_of key xs) (map_of hash_key hs)) theta
  kept_map xs hs theta =
      same_map key _ _ (ascending-map_of key (kept_of xs hs theta)) (ascending-filter key _ _ (ascending-filter key _ _ (ascending-map_of key xs)))
      (λ q.
      entry_at-map_of key (kept_of xs hs theta) q
      ∙ entry_at-keyed key (λ h. is_none (entry_at hash_key hs h)) (below key xs theta) q
      ∙ ap (λ o. cond (is_none (entry_at hash_key hs q)) o None) (entry_at-below key xs theta q)
      ∙ both_tests (is_none (entry_at hash_key hs q)) (ltb q theta) (entry_at key xs q)
      ∙ ap (λ o. cond (ltb q theta) (cond (is_none o) (entry_at key xs q) None) None) (sym (entry_at-map_of hash_key hs q))
      ∙ ap (λ o. cond (ltb q theta) (cond (is_none (entry_at hash_key (map_of hash_key hs) q)) o None) None) (sym (entry_at-map_of key xs q))
      ∙ ap (λ o. cond (ltb q theta) o None) (sym (entry_at-keyed key (λ h. is_none (entry_at hash_key (map_of hash_key hs) h)) (map_of key xs) q))
      ∙ sym (entry_at-below key (lacking key hash_key (map_of key xs) (map_of hash_key hs)) theta q))

  -- a state of the kept entries meets the laws of a sketch
  pub shown_kept : (a : Shown) (listing : List X) (hs : List ℕ) (theta seed_hash : ℕ) → IsShown a → map key listing ≡ a.hashes → 0 < theta → theta ≤ a.theta → IsShown (shown_of key (listed key theta seed_hash (kept_of listing hs theta) a.ordered))
  shown_kept a listing hs theta seed_hash shown hashes low high = record {
    theta_low = low;
    theta_high = omega (arith, high, shown.theta_high);
    distinct = distinct-apart key (kept_of listing hs theta) (apart-filter key _ _ (apart-filter key _ listing (apart-distinct key listing (rw hashes shown.distinct))));
    nonzero = each-hash key (λ h. 0 < h) (kept_of listing hs theta) (each-filter _ _ _ (each-filter _ _ listing (each-from_map key (λ h. 0 < h) listing (rw hashes shown.nonzero))));
    below_theta = each-hash key (λ h. h < theta) (kept_of listing hs theta) (each-filter _ _ _ (each-passes (λ x. key x < theta) (λ x. ltb (key x) theta) (λ x e. grind (arith, nat_tests)) listing));
    limited =
        let bound : length (map key listing) < 2 ^ 32 = rw hashes shown.limited in
        let there : length listing < 2 ^ 32 = rw (length-map listing key) at bound in
        let once = fewer (λ x. ltb (key x) theta) listing in
        let twice = fewer (λ x. is_none (entry_at hash_key hs (key x))) (below key listing theta) in
        rw (length-map (kept_of listing hs theta) key) (omega (arith, there, once, twice));
    ascending = λ e. ascending-map key (kept_of listing hs theta) (ascending-filter key _ _ (ascending-filter key _ listing (ascending-from_map key listing (rw hashes (shown.ascending e)))));
    none = λ e. absurd (cc);
    greatest = λ e. absurd (cc);
  }

  -- the map of the entries below theta
  pub map_of_below : (xs : List X) (theta : ℕ) → map_of key (below key xs theta) ≡ below key (map_of key xs) theta
  map_of_below xs theta = map_of-tested (λ h. ltb h theta) xs

  -- what is below theta is below it again
  pub below_twice : (xs : List X) (theta : ℕ) → below key (below key xs theta) theta ≡ below key xs theta
  below_twice xs theta = below_all key (below key xs theta) theta (each-passes (λ x. key x < theta) (λ x. ltb (key x) theta) (λ x e. grind (arith, nat_tests)) xs)

  -- a state of the kept entries in ascending order meets the laws of a sketch, and may be known to be ordered
  pub shown_ascending : (a : Shown) (listing : List X) (hs : List ℕ) (theta seed_hash : ℕ) (ordered : Bool) → IsShown a → map key listing ≡ a.hashes → 0 < theta → theta ≤ a.theta → IsShown (shown_of key (listed key theta seed_hash (kept_of (map_of key listing) hs theta) ordered))
  shown_ascending a listing hs theta seed_hash ordered shown hashes low high =
      let whole = map_of key listing in
      let count : length whole ≡ length listing = count_sorted key theta seed_hash listing (apart-distinct key listing (rw hashes shown.distinct)) in
      let once = fewer (λ x. ltb (key x) theta) whole in
      let twice = fewer (λ x. is_none (entry_at hash_key hs (key x))) (below key whole theta) in
      IsShown-retained key (record { entries = kept_of whole hs theta; theta = theta }) seed_hash ordered
      (record {
        ascending = ascending-filter key _ _ (ascending-filter key _ whole (ascending-map_of key listing));
        nonzero = each-filter _ _ _ (each-filter _ _ whole (each-map_of key (λ x. 0 < key x) listing (each-from_map key (λ h. 0 < h) listing (rw hashes shown.nonzero))));
        below_theta = each-filter _ _ _ (each-passes (λ x. key x < theta) (λ x. ltb (key x) theta) (λ x e. grind (arith, nat_tests)) whole);
        theta_low = low;
        theta_high = omega (arith, high, shown.theta_high);
      })
      (omega (arith, count, once, twice, length-map listing key, ap length hashes, shown.limited))

-- hashes alone
pub apart_hashes : (hs : List ℕ) → AllPairs (λ x y. x ≢ y) hs → IsApart hash_key hs
apart_hashes hs distinct = apart-distinct hash_key hs (rw (map-id hs) distinct)

pub some_apart : (p : ℕ → Bool) (hs : List ℕ) → AllPairs (λ x y. x ≢ y) hs → IsApart hash_key (filter p hs)
some_apart p hs distinct = apart-filter hash_key p hs (apart_hashes hs distinct)

pub below_more : (done : List ℕ) (h : ℕ) (left : List ℕ) (theta : ℕ) → h < theta → (done ++ h ∷ []) ++ below hash_key left theta ≡ done ++ below hash_key (h ∷ left) theta
below_more done h left theta lt =
    let e : ltb h theta ≡ true = grind (arith, nat_tests) in
    rw e (append_assoc done (h ∷ []) (below hash_key left theta))

-- at most as many ascending hashes as a sketch has
pub few_hashes : (p : ℕ → Bool) (hs : List ℕ) → AllPairs (λ x y. x ≢ y) hs → length (filter p (map_of hash_key hs)) ≤ length hs
few_hashes p hs distinct = omega (arith, count_sorted hash_key 1 0 hs (apart_hashes hs distinct), fewer p (map_of hash_key hs))

-- a search that found nothing, and one that found something
pub unfound : {R Y : Type 0} (at : R → Y) (r : Option R) (b : Bool) → is_some r ≡ not b → b ≡ true → (o : Option Y) → option_map at r ≡ o → o ≡ None
unfound at None b tested e o is = sym is
unfound at (Some r) b tested e o is = absurd (let f : true ≡ not true = rw e at tested in cc)

pub was_found : {R Y : Type 0} (at : R → Y) (r : Option R) (b : Bool) → is_some r ≡ not b → b ≡ false → (o : Option Y) → option_map at r ≡ o → is_none o ≡ false
was_found at None b tested e o is = absurd (let f : false ≡ not false = rw e at tested in cc)
was_found at (Some r) b tested e o is = ap is_none (sym is)

-- an entry is written behind the first ones, and counts or doesn't
module _ {X R : Type 0} (at : R → X) (r : R) (kept : List R) (count : ℕ) where
  pub written : count < length kept → map at (take (count + 1) (set kept count r)) ≡ map at (take count kept) ++ at r ∷ []
  written room = ap (map at) (take_more_set kept count r room) ∙ map-append at (take count kept) (r ∷ [])

  pub stays : map at (take (count + 0) (set kept count r)) ≡ map at (take count kept)
  stays = ap (λ (n : ℕ). map at (take n (set kept count r))) (omega arith) ∙ ap (map at) (take-set kept count r)

module _ {X Y : Type 0} (key : X → ℕ) (other : Y → ℕ) (theta : ℕ) where
  none_mapped : (o : Option Y) → is_none o ≡ is_none (option_map other o)
  none_mapped None = refl
  none_mapped (Some y) = refl

  -- the entries to keep: those below theta, and not among the others
  abbrev pub to_keep : List X → List Y → List X
  to_keep left others = lacking key other (below key left theta) others

  -- ascending entries and others are read side by side: the entries kept so far, then those to keep among the entries
  -- left, are all entries to keep
  pub record IsSifting (whole left : List X) (others : List Y) (kept : List X) : Type 0 where
    pub rest : kept ++ to_keep left others ≡ whole
    pub ascending : IsAscending key left
    pub others_ascend : IsAscending other others

  -- an other that is less than all entries makes no difference
  lesser_other : (y : Y) (others : List Y) (left : List X) → AllByRecursion (λ x. other y < key x) left → to_keep left (y ∷ others) ≡ to_keep left others
  lesser_other y others [] all = refl
  lesser_other y others (x ∷ left) all =
      let differs : other y ≢ key x = λ same. absurd (omega (arith, same, all.0)) in
      let seen : entry_at other (y ∷ others) (key x) ≡ entry_at other others (key x) = entry_at_rest other y others (key x) differs in
      let on = lesser_other y others left all.1 in
      elim (ltb (key x) theta) as (λ t. lacking key other (cond t (x ∷ below key left theta) (below key left theta)) (y ∷ others) ≡ lacking key other (cond t (x ∷ below key left theta) (below key left theta)) others) [
        | true ↦ ap (λ o. cond (is_none o) (x ∷ to_keep left (y ∷ others)) (to_keep left (y ∷ others))) seen ∙ ap (λ zs. cond (is_none (entry_at other others (key x))) (x ∷ zs) zs) on
        | false ↦ on
      ]

  -- an entry below theta is kept if no other has its hash
  kept_first : (x : X) (left : List X) (others : List Y) → key x < theta → entry_at other others (key x) ≡ None → to_keep (x ∷ left) others ≡ x ∷ to_keep left others
  kept_first x left others lt absent = let e : ltb (key x) theta ≡ true = grind (arith, nat_tests) in rw (e, absent) refl

  left_first : (x : X) (left : List X) (others : List Y) → key x < theta → is_none (entry_at other others (key x)) ≡ false → to_keep (x ∷ left) others ≡ to_keep left others
  left_first x left others lt there = let e : ltb (key x) theta ≡ true = grind (arith, nat_tests) in rw (e, there) refl

  module _ (whole : List X) (x : X) (left : List X) (y : Y) (others : List Y) (kept : List X) (lt : key x < theta) (was : IsSifting whole (x ∷ left) (y ∷ others) kept) where
    sifted_less : key x < other y → IsSifting whole left (y ∷ others) (kept ++ x ∷ [])
    sifted_less less = record {
      rest = append_assoc kept (x ∷ []) (to_keep left (y ∷ others)) ∙ ap (λ zs. kept ++ zs) (sym (kept_first x left (y ∷ others) lt (past other y others (key x) was.others_ascend less))) ∙ was.rest;
      ascending = ascending-tail key x left was.ascending;
      others_ascend = was.others_ascend;
    }

    sifted_same : key x ≡ other y → IsSifting whole left others kept
    sifted_same same =
        let met : is_none (entry_at other (y ∷ others) (key x)) ≡ false = ap is_none (entry_at_head other y others (key x) (sym same)) in
        let later : AllByRecursion (λ z. other y < key z) left = each-weaker (λ z. key x < key z) (λ z. other y < key z) (λ z after. omega (arith, same, after)) left (ascending-head key x left was.ascending) in
        record {
          rest = ap (λ zs. kept ++ zs) (sym (lesser_other y others left later) ∙ sym (left_first x left (y ∷ others) lt met)) ∙ was.rest;
          ascending = ascending-tail key x left was.ascending;
          others_ascend = ascending-tail other y others was.others_ascend;
        }

    sifted_greater : other y < key x → IsSifting whole (x ∷ left) others kept
    sifted_greater greater =
        let all : AllByRecursion (λ z. other y < key z) (x ∷ left) = (greater, each-weaker (λ z. key x < key z) (λ z. other y < key z) (λ z after. omega (arith, greater, after)) left (ascending-head key x left was.ascending)) in
        record {
          rest = ap (λ zs. kept ++ zs) (sym (lesser_other y others (x ∷ left) all)) ∙ was.rest;
          ascending = was.ascending;
          others_ascend = ascending-tail other y others was.others_ascend;
        }

  -- one comparison more, by numbers alone: the entry is written after the kept ones, and counts if it is less; a list
  -- advances if its first isn't the greater
  module _ {R : Type 0} (at : R → X) (whole : List X) (r : R) (left : List X) (y : Y) (others : List Y) (kept : List R) (count : ℕ) (room : count < length kept) (lt : key (at r) < theta)
      (was : IsSifting whole (at r ∷ left) (y ∷ others) (map at (take count kept))) where
    abbrev after : (more passed others_passed : ℕ) → Type 0
    after more passed others_passed = IsSifting whole (drop passed (at r ∷ left)) (drop others_passed (y ∷ others)) (map at (take more (set kept count r)))

    pub sifted_more : after (count + cond (ltb (key (at r)) (other y)) 1 0) (cond (leb (key (at r)) (other y)) 1 0) (cond (leb (other y) (key (at r))) 1 0)
    sifted_more =
        elim (cases_lt (key (at r)) (other y)) [
          | inl less ↦
              let a : ltb (key (at r)) (other y) ≡ true = grind (arith, nat_tests) in
              let b : leb (key (at r)) (other y) ≡ true = grind (arith, nat_tests) in
              let c : leb (other y) (key (at r)) ≡ false = grind (arith, nat_tests) in
              rw (a, b, c, written at r kept count room) (sifted_less whole (at r) left y others (map at (take count kept)) lt was less)
          | inr no_less ↦ elim (cases_lt (other y) (key (at r))) [
            | inl greater ↦
                let a : ltb (key (at r)) (other y) ≡ false = grind (arith, nat_tests) in
                let b : leb (key (at r)) (other y) ≡ false = grind (arith, nat_tests) in
                let c : leb (other y) (key (at r)) ≡ true = grind (arith, nat_tests) in
                rw (a, b, c, stays at r kept count) (sifted_greater whole (at r) left y others (map at (take count kept)) lt was greater)
            | inr no_greater ↦
                let a : ltb (key (at r)) (other y) ≡ false = grind (arith, nat_tests) in
                let b : leb (key (at r)) (other y) ≡ true = grind (arith, nat_tests) in
                let c : leb (other y) (key (at r)) ≡ true = grind (arith, nat_tests) in
                rw (a, b, c, stays at r kept count) (sifted_same whole (at r) left y others (map at (take count kept)) lt was (omega (arith, no_less, no_greater)))
          ]
        ]

  -- the same, stated by the fronts of both lists and by the numbers that the comparisons return
  pub sifted_on : {R : Type 0} (at : R → X) (whole left : List X) (others : List Y) (r : R) (y : Y) (kept : List R) (count hash other_hash more passed others_passed : ℕ)
      → Some (at r) ≡ slice_get left 0 → Some y ≡ slice_get others 0 → count < length kept → hash ≡ key (at r) → other_hash ≡ other y → hash < theta
      → more ≡ cond (ltb hash other_hash) 1 0 → passed ≡ cond (leb hash other_hash) 1 0 → others_passed ≡ cond (leb other_hash hash) 1 0
      → IsSifting whole left others (map at (take count kept)) → IsSifting whole (drop passed left) (drop others_passed others) (map at (take (count + more) (set kept count r)))
  sifted_on at whole [] others r y kept count hash other_hash more passed others_passed first other_first room hash_is known_is lt more_is passed_is others_passed_is was = absurd (cc)
  sifted_on at whole (x ∷ left) [] r y kept count hash other_hash more passed others_passed first other_first room hash_is known_is lt more_is passed_is others_passed_is was = absurd (cc)
  sifted_on at whole (x ∷ left) (z ∷ others) r y kept count hash other_hash more passed others_passed first other_first room hash_is known_is lt more_is passed_is others_passed_is was =
      let x_is : x ≡ at r = cc in
      let z_is : z ≡ y = cc in
      rw (more_is, passed_is, others_passed_is, hash_is, known_is, x_is, z_is) (sifted_more at whole r left y others kept count room (rw (← hash_is) lt) (rw (x_is, z_is) at was))

  -- if either list is at its end, or the first entry is not below theta, all entries below theta are kept
  pub whole_at_end : (left : List X) (others : List Y) → None ≡ slice_get left 0 → to_keep left others ≡ below key left theta
  whole_at_end [] others none = refl
  whole_at_end (x ∷ left) others none = absurd (cc)

  pub whole_with_none : (left : List X) (others : List Y) → None ≡ slice_get others 0 → to_keep left others ≡ below key left theta
  whole_with_none left [] none = lacking-nil key other (below key left theta)
  whole_with_none left (y ∷ others) none = absurd (cc)

  pub whole_past : (left : List X) (others : List Y) (x : X) → Some x ≡ slice_get left 0 → IsAscending key left → theta ≤ key x → to_keep left others ≡ below key left theta
  whole_past [] others x first up le = refl
  whole_past (z ∷ left) others x first up le =
      let z_is : z ≡ x = cc in
      let none : below key (z ∷ left) theta ≡ [] = stops key z left theta up (rw z_is le) in
      ap (λ xs. lacking key other xs others) none ∙ sym none

  -- one entry more, which is kept if no other has its hash
  pub kept_on : (kept : List X) (x : X) (left : List X) (others : List Y) (hash : ℕ) → hash ≡ key x → hash < theta → entry_at other others hash ≡ None → (kept ++ x ∷ []) ++ to_keep left others ≡ kept ++ to_keep (x ∷ left) others
  kept_on kept x left others hash is lt absent = append_assoc kept (x ∷ []) (to_keep left others) ∙ ap (λ zs. kept ++ zs) (sym (kept_first x left others (rw (← is) lt) (ap (λ (h : ℕ). entry_at other others h) (sym is) ∙ absent)))

  pub dropped_on : (kept : List X) (x : X) (left : List X) (others : List Y) (hash : ℕ) → hash ≡ key x → hash < theta → is_none (entry_at other others hash) ≡ false → kept ++ to_keep left others ≡ kept ++ to_keep (x ∷ left) others
  dropped_on kept x left others hash is lt there = ap (λ zs. kept ++ zs) (sym (left_first x left others (rw (← is) lt) (ap (λ (h : ℕ). is_none (entry_at other others h)) (sym is) ∙ there)))

  pub keeps_stop : (x : X) (left : List X) (others : List Y) → IsAscending key (x ∷ left) → theta ≤ key x → to_keep (x ∷ left) others ≡ []
  keeps_stop x left others up le = ap (λ xs. lacking key other xs others) (stops key x left theta up le)

  -- the others may be replaced by their hashes
  pub kept_of_hashes : (left : List X) (others : List Y) → to_keep left others ≡ lacking key hash_key (below key left theta) (map other others)
  kept_of_hashes left others = filter-agree (λ x. is_none (entry_at other others (key x))) (λ x. is_none (entry_at hash_key (map other others) (key x))) (below key left theta) (λ x.
      none_mapped (entry_at other others (key x)) ∙ ap is_none (sym (entry_at-map other other hash_key (λ y. refl) others (key x))))

module _ {X : Type 0} (key : X → ℕ) where
  -- the difference of two sketches has the kept entries
  minus_value : (a b : Shown) (listing : List X) (hs : List ℕ) (theta : ℕ) → a.empty ≡ false → b.empty ≡ false → theta ≡ min a.theta b.theta →
      minus key hash_key (shown_value key a listing) (shown_value hash_key b hs) ≡ unless_nothing (record { entries = map_of key (kept_of key listing hs theta); theta = theta })
  minus_value a b listing hs theta first second theta_is =
      let whole = lacking key hash_key (map_of key listing) (map_of hash_key hs) in
      rw (first, second) (ap (λ (t : ℕ). unless_nothing (record { entries = below key whole t; theta = t })) (sym theta_is) ∙ ap (λ xs. unless_nothing (record { entries = xs; theta = theta })) (sym (kept_map key listing hs theta)))

  pub answer_kept : (a b : Shown) (listing : List X) (hs : List ℕ) (theta seed_hash : ℕ) (requested : Bool) (s : Compact X) → a.empty ≡ false → b.empty ≡ false → theta ≡ min a.theta b.theta → IsApart key (kept_of key listing hs theta) →
      (length (kept_of key listing hs theta) == 0 && theta == MAX_THETA) ≡ false → IsCompactOf key (record { entries = map_of key (kept_of key listing hs theta); theta = theta }) seed_hash requested s → IsAnswer key (minus key hash_key (shown_value key a listing) (shown_value hash_key b hs)) seed_hash requested s
  answer_kept a b listing hs theta seed_hash requested s first second theta_is each some is =
      rw (minus_value a b listing hs theta first second theta_is, count_sorted key theta seed_hash (kept_of key listing hs theta) each, some) is

  pub answer_nothing : (a b : Shown) (listing : List X) (hs : List ℕ) (theta seed_hash : ℕ) (requested : Bool) → a.empty ≡ false → b.empty ≡ false → theta ≡ min a.theta b.theta → IsApart key (kept_of key listing hs theta) →
      (length (kept_of key listing hs theta) == 0 && theta == MAX_THETA) ≡ true → IsAnswer key (minus key hash_key (shown_value key a listing) (shown_value hash_key b hs)) seed_hash requested (empty_compact seed_hash)
  answer_nothing a b listing hs theta seed_hash requested first second theta_is each nothing =
      rw (minus_value a b listing hs theta first second theta_is, count_sorted key theta seed_hash (kept_of key listing hs theta) each, nothing) refl

  -- the same of the entries kept in ascending order
  again : (a : Shown) (listing : List X) → shown_value key a (map_of key listing) ≡ shown_value key a listing
  again a listing = ap (λ zs. if◌then◌else◌ a.empty Empty (NonEmpty (record { entries = zs; theta = a.theta }))) (map_of-ascending key (map_of key listing) (ascending-map_of key listing))

  pub answer_kept_sorted : (a b : Shown) (listing : List X) (hs : List ℕ) (theta seed_hash : ℕ) (requested : Bool) (s : Compact X) → a.empty ≡ false → b.empty ≡ false → theta ≡ min a.theta b.theta → IsApart key (kept_of key (map_of key listing) hs theta) →
      (length (kept_of key (map_of key listing) hs theta) == 0 && theta == MAX_THETA) ≡ false → IsCompactOf key (record { entries = map_of key (kept_of key (map_of key listing) hs theta); theta = theta }) seed_hash requested s → IsAnswer key (minus key hash_key (shown_value key a listing) (shown_value hash_key b hs)) seed_hash requested s
  answer_kept_sorted a b listing hs theta seed_hash requested s first second theta_is each some is =
      rw (again a listing) at (answer_kept a b (map_of key listing) hs theta seed_hash requested s first second theta_is each some is)

  pub answer_nothing_sorted : (a b : Shown) (listing : List X) (hs : List ℕ) (theta seed_hash : ℕ) (requested : Bool) → a.empty ≡ false → b.empty ≡ false → theta ≡ min a.theta b.theta → IsApart key (kept_of key (map_of key listing) hs theta) →
      (length (kept_of key (map_of key listing) hs theta) == 0 && theta == MAX_THETA) ≡ true → IsAnswer key (minus key hash_key (shown_value key a listing) (shown_value hash_key b hs)) seed_hash requested (empty_compact seed_hash)
  answer_nothing_sorted a b listing hs theta seed_hash requested first second theta_is each nothing =
      rw (again a listing) at (answer_nothing a b (map_of key listing) hs theta seed_hash requested first second theta_is each nothing)

  pub answer_all : (a b : Shown) (listing : List X) (hs : List ℕ) (seed_hash : ℕ) (requested : Bool) (s : Compact X) → a.empty ≡ false → b.empty ≡ true → IsShown a → map key listing ≡ a.hashes →
      IsCompactOf key (record { entries = map_of key (kept_of key listing [] a.theta); theta = a.theta }) seed_hash requested s → IsAnswer key (minus key hash_key (shown_value key a listing) (shown_value hash_key b hs)) seed_hash requested s
  answer_all a b listing hs seed_hash requested s first second shown hashes is =
      rw (first, second) (rw (kept_all key listing a.theta (each-from_map key (λ h. h < a.theta) listing (rw hashes shown.below_theta))) at is)

  shown_below : (a b : Shown) (listing : List X) (hs : List ℕ) (theta seed_hash : ℕ) (ordered : Bool) → IsShown a → IsShown b → map key listing ≡ a.hashes → theta ≡ min a.theta b.theta → IsShown (shown_of key (listed key theta seed_hash (kept_of key (map_of key listing) hs theta) ordered))
  shown_below a b listing hs theta seed_hash ordered shown_a shown_b hashes theta_is =
      shown_ascending key a listing hs theta seed_hash ordered shown_a hashes (omega (arith, theta_is, shown_a.theta_low, shown_b.theta_low)) (omega (arith, theta_is))

lesser : (theta first second : ℕ) (a b : Shown) → theta ≡ min first second → a.theta ≡ first → b.theta ≡ second → theta ≡ min a.theta b.theta
lesser theta first second a b is first_is second_is = rw (first_is, second_is) is

module _ {X : Type 0} (key : X → ℕ) where
  -- the entries that one sketch has below the lesser of two thetas, and another lacks
  pub record IsKeptBelow (a b : Shown) (listing : List X) (theta seed_hash : ℕ) : Type 0 where
    pub theta_is : theta ≡ min a.theta b.theta
    pub shown : (ordered : Bool) → IsShown (shown_of key (listed key theta seed_hash (kept_of key (map_of key listing) b.hashes theta) ordered))
    pub apart : IsApart key (kept_of key (map_of key listing) b.hashes theta)

  pub kept_below : (a b : Shown) (listing : List X) (theta first second seed_hash : ℕ) → IsShown a → IsShown b → map key listing ≡ a.hashes → theta ≡ min first second → a.theta ≡ first → b.theta ≡ second → IsKeptBelow a b listing theta seed_hash
  kept_below a b listing theta first second seed_hash shown_a shown_b hashes is first_is second_is =
      let theta_is = lesser theta first second a b is first_is second_is in
      let shown = shown_below key a b listing b.hashes theta seed_hash in
      record {
        theta_is = theta_is;
        shown = λ ordered. shown ordered shown_a shown_b hashes theta_is;
        apart = apart_shown key theta seed_hash _ false (shown false shown_a shown_b hashes theta_is);
      }
