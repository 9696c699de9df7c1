-- The entries that a table and a listing share.
use Rattle.std.proofs.Common.{◌≡◌, ℕ, ◌<◌, ◌≤◌, ◌≢◌, ◌^◌, ◌+◌, Bool, true, false, cond, ltb, leb, eqb, List, [], ◌∷◌, ◌++◌, map, length, drop, min, Option, Some, None, inl, inr, refl, sym, ap, ◌∙◌, subst, arith}
use Rattle.std.specs.List.{filter, AllByRecursion, slice_get}
use Rattle.std.specs.Option.{option_map, option_map_or}
use Rattle.std.proofs.lemmas.Bool.{cases_lt}
use Rattle.std.proofs.lemmas.Bool.Decides.{nat_tests}
use Rattle.std.specs.Prelude.{IfSome}
use Rattle.std.proofs.lemmas.List.{length-map, length-append, append_assoc, append-nil}
use Rattle.core_laws.specs.Maps.{IsAscending, IsApart, below, entry_at, with_entry, map_of}
use Rattle.core_laws.specs.Cuts.{Retained, IsRetained}
use Rattle.core_laws.specs.Shown.{Shown, IsShown}
use Rattle.core_laws.specs.Operators.{common, shared, both}
use Rattle.core_laws.specs.Folds.{Fold, Value, fold_key, fold_merges, unmarked}
use Rattle.core_operators.specs.Union.{IsMergeRefused}
use Rattle.core_operators.specs.Intersection.{IsSharedFold, IsSharedPair, IsRefusedPair}
use Rattle.core_laws.proofs.maps.MappedEntries.{map-append, below-map, entry_at-map, with_entry-map}
use Rattle.core_laws.proofs.maps.ApartEntries.{apart-filter}
use Rattle.core_laws.proofs.maps.Ascending.{ascending-filter, ascending-tail, ascending-head, ascending-nil, ascending-cons, each-weaker}
use Rattle.core_laws.proofs.operators.CommonMaps.{entry_at-common, each-common, ascending-common, common-nil}
use Rattle.core_laws.proofs.maps.LookUps.{entry_at-below, entry_at_head, entry_at_rest, past, same_map}
use Rattle.core_laws.proofs.insertions.Unmarked.{fold_keeps, ascending-marked, each-marked}
use Rattle.core_laws.proofs.maps.MapsOfLists.{entry_at-map_of, ascending-map_of, ascending-from_map, ascending-apart, apart-distinct, each-from_map}
use Rattle.core_laws.proofs.cuts.Cuts.{below_all}
use Rattle.core_table.proofs.OtherOrders.{map_of-ascending, each-map_of}
use Rattle.core_operators.proofs.DifferenceEntries.{count_sorted, fewer, stops, entry_at-keyed}
use Rattle.core_laws.proofs.cuts.WithinWholeMaps.{found_key}
use Rattle.core_laws.specs.Entries.{KeepsKey}

-- a merge with its arguments swapped: the incoming entry first
abbrev pub turned_round : {X : Type 0} → (X → X → X) → X → X → X
turned_round merges y x = merges x y

module _ {X : Type 0} (key : X → ℕ) where
  -- the entries left of a listing that is read
  pub record IsReading (listing left : List X) (ordered : Bool) : Type 0 where
    pub apart : IsApart key left
    pub among : (q : ℕ) (x : X) → entry_at key left q ≡ Some x → entry_at key listing q ≡ Some x
    pub in_order : ordered ≡ true → IsAscending key left

  pub reading-start : (listing : List X) (ordered : Bool) → IsApart key listing → (ordered ≡ true → IsAscending key listing) → IsReading listing listing ordered
  reading-start listing ordered apart in_order = record { apart = apart; among = λ q x found. found; in_order = in_order }

  differs_later : (x : X) (left : List X) (q : ℕ) (y : X) → entry_at key left (key x) ≡ None → entry_at key left q ≡ Some y → key x ≢ q
  differs_later x left q y none found tie = let there : entry_at key left q ≡ None = subst (λ (h : ℕ). entry_at key left h ≡ None) tie none in let e : None ≡ Some y = sym there ∙ found in cc

  pub reading-next : (listing left : List X) (x : X) (ordered : Bool) → IsReading listing (x ∷ left) ordered → IsReading listing left ordered
  reading-next listing left x ordered so_far = record {
    apart = so_far.apart.1;
    among = λ q y found. so_far.among q y (entry_at_rest key x left q (differs_later x left q y so_far.apart.0 found) ∙ found);
    in_order = λ e. ascending-tail key x left (so_far.in_order e);
  }

  only_one : (x : X) (q : ℕ) (y : X) → entry_at key (x ∷ []) q ≡ Some y → x ≡ y
  only_one x q y = elim (eqb (key x) q) as (λ b. cond b (Some x) None ≡ Some y → x ≡ y) [ true ↦ λ e. (cc) | false ↦ λ e. absurd (cc) ]

  -- a refused entry is one of the listing
  pub reading-refused : (refuses : X → X → Bool) (content listing left : List X) (x : X) (ordered : Bool) → IsReading listing (x ∷ left) ordered → IsMergeRefused key refuses content (x ∷ []) → IsMergeRefused key refuses content listing
  reading-refused refuses content listing left x ordered so_far refused =
      let present : key refused.new_entry ≡ refused.at = found_key key (x ∷ []) refused.at refused.new_entry refused.comes in
      let only : x ≡ refused.new_entry = only_one x refused.at refused.new_entry refused.comes in
      record {
        at = refused.at;
        held_entry = refused.held_entry;
        new_entry = refused.new_entry;
        is_held = refused.is_held;
        comes = so_far.among refused.at refused.new_entry (entry_at_head key x left refused.at (ap key only ∙ present) ∙ ap Some only);
        refused = refused.refused;
      }

module _ {X : Type 0} (key : X → ℕ) (merges : X → X → X) (keeps : KeepsKey key merges) where
  key_kept : (x : X) (ys : List X) (y : X) → entry_at key ys (key x) ≡ Some y → key (merges x y) ≡ key x
  key_kept x ys y e = let same : key y ≡ key x = found_key key ys (key x) y e in keeps x y (sym same) ∙ same

  pub apart-common : (xs ys : List X) → IsApart key xs → IsApart key (common key merges xs ys)
  apart-common [] ys apart = tt
  apart-common (x ∷ xs) ys apart =
      let rest : IsApart key (common key merges xs ys) = apart-common xs ys apart.1 in
      (elim (entry_at key ys (key x)) as (λ o. entry_at key ys (key x) ≡ o → IsApart key (common key merges (x ∷ xs) ys)) [
        | Some y ↦ λ f.
            let none : entry_at key (common key merges xs ys) (key (merges x y)) ≡ None =
            ap (λ (h : ℕ). entry_at key (common key merges xs ys) h) (key_kept x ys y f) ∙ entry_at-common key merges keeps xs ys (key x) ∙ ap (λ o. both merges o (entry_at key ys (key x))) apart.0 in
            rw f (none, rest)
        | None ↦ λ f. rw f rest
      ]) refl

  pub length-common : (xs ys : List X) → length (common key merges xs ys) ≤ length xs
  length-common [] ys = omega arith
  length-common (x ∷ xs) ys =
      let rest = length-common xs ys in
      (elim (entry_at key ys (key x)) as (λ o. entry_at key ys (key x) ≡ o → length (common key merges (x ∷ xs) ys) ≤ length (x ∷ xs)) [
        | Some y ↦ λ f. rw f (omega (arith, rest))
        | None ↦ λ f. rw f (omega (arith, rest))
      ]) refl

  is_below : (ys : List X) (t q : ℕ) (y : X) → entry_at key (below key ys t) q ≡ Some y → q < t
  is_below ys t q y found =
      (elim (ltb q t) as (λ b. ltb q t ≡ b → cond b (entry_at key ys q) None ≡ Some y → q < t) [
        | true ↦ λ e f. grind (arith, nat_tests)
        | false ↦ λ e f. absurd (cc)
      ]) refl (sym (entry_at-below key ys t q) ∙ found)

  -- the shared entries below a theta are below it
  pub common_low : (xs ys : List X) (t : ℕ) → AllByRecursion (λ z. key z < t) (common key merges xs (below key ys t))
  common_low [] ys t = tt
  common_low (x ∷ xs) ys t =
      let rest = common_low xs ys t in
      (elim (entry_at key (below key ys t) (key x)) as (λ o. entry_at key (below key ys t) (key x) ≡ o → AllByRecursion (λ z. key z < t) (common key merges (x ∷ xs) (below key ys t))) [
        | Some y ↦ λ f. rw f (omega (arith, key_kept x (below key ys t) y f, is_below ys t (key x) y f), rest)
        | None ↦ λ f. rw f rest
      ]) refl

  -- entries that are not below a theta share nothing below it
  pub common_past : (xs ys : List X) (t : ℕ) → AllByRecursion (λ x. t ≤ key x) xs → common key merges xs (below key ys t) ≡ []
  common_past [] ys t all = refl
  common_past (x ∷ xs) ys t all =
      let past : ltb (key x) t ≡ false = grind (arith, nat_tests, all.0) in
      let none : entry_at key (below key ys t) (key x) ≡ None = entry_at-below key ys t (key x) ∙ ap (λ b. cond b (entry_at key ys (key x)) None) past in
      rw none (common_past xs ys t all.1)

  pub turned_keeps : (y x : X) → key y ≡ key x → key (turned_round merges y x) ≡ key x
  turned_keeps y x same = keeps x y (sym same) ∙ same

  both_turned : (o p : Option X) → both (turned_round merges) o p ≡ both merges p o
  both_turned None None = refl
  both_turned None (Some y) = refl
  both_turned (Some x) None = refl
  both_turned (Some x) (Some y) = refl

module _ {X : Type 0} (key : X → ℕ) (merges : X → X → X) (keeps : KeepsKey key merges) where
  -- a listing shares the same entries with a map as the map of the listing
  pub common-map_of : (content listing : List X) (t : ℕ) → IsAscending key content → map_of key (common key (turned_round merges) listing (below key content t)) ≡ below key (common key merges content (map_of key listing)) t
  common-map_of content listing t up =
      same_map key _ _ (ascending-map_of key (common key (turned_round merges) listing (below key content t))) (ascending-filter key _ _ (ascending-common key merges keeps content (map_of key listing) up))
      (λ q. entry_at-map_of key (common key (turned_round merges) listing (below key content t)) q
      ∙ entry_at-common key (turned_round merges) (turned_keeps key merges keeps) listing (below key content t) q
      ∙ both_turned key merges keeps (entry_at key listing q) (entry_at key (below key content t) q)
      ∙ ap (λ o. both merges o (entry_at key listing q)) (entry_at-below key content t q)
      ∙ (elim (ltb q t) as (λ b. both merges (cond b (entry_at key content q) None) (entry_at key listing q) ≡ cond b (entry_at key (common key merges content (map_of key listing)) q) None) [
        | true ↦ ap (λ o. both merges (entry_at key content q) o) (sym (entry_at-map_of key listing q)) ∙ sym (entry_at-common key merges keeps content (map_of key listing) q)
        | false ↦ refl
      ])
      ∙ sym (entry_at-below key (common key merges content (map_of key listing)) t q))

module _ {X : Type 0} (key : X → ℕ) where
  pub marked-map_of : (xs : List X) → map Value (map_of key xs) ≡ map_of (fold_key key) (map Value xs)
  marked-map_of [] = refl
  marked-map_of (x ∷ xs) = sym (with_entry-map Value key (fold_key key) (λ y. refl) (map_of key xs) x) ∙ ap (λ ys. with_entry (fold_key key) ys (Value x)) (marked-map_of xs)

  some_is_none : (o : Option X) → option_map Value o ≡ None → o ≡ None
  some_is_none None e = refl
  some_is_none (Some x) e = absurd (cc)

  -- facts on keys, of entries and of folds
  pub apart-marked : (xs : List X) → IsApart key xs → IsApart (fold_key key) (map Value xs)
  apart-marked [] apart = tt
  apart-marked (x ∷ xs) apart = (entry_at-map Value key (fold_key key) (λ y. refl) xs (key x) ∙ ap (option_map Value) apart.0, apart-marked xs apart.1)

  pub apart-unmarked : (xs : List X) → IsApart (fold_key key) (map Value xs) → IsApart key xs
  apart-unmarked [] apart = tt
  apart-unmarked (x ∷ xs) apart = (some_is_none (entry_at key xs (key x)) (sym (entry_at-map Value key (fold_key key) (λ y. refl) xs (key x)) ∙ apart.0), apart-unmarked xs apart.1)

  pub each-unmarked : (P : ℕ → Type 0) (xs : List X) → AllByRecursion (λ u. P (fold_key key u)) (map Value xs) → AllByRecursion (λ x. P (key x)) xs
  each-unmarked P [] all = tt
  each-unmarked P (x ∷ xs) all = (all.0, each-unmarked P xs all.1)

module _ {X : Type 0} (key : X → ℕ) (merges : X → X → X) (refuses : X → X → Bool) where
  -- the folds that a listing and a map share below a theta
  abbrev pub read_from : (listing content : List X) (t : ℕ) → List (Fold X)
  read_from listing content t = common (fold_key key) (turned_round (fold_merges key merges refuses)) (map Value listing) (map Value (below key content t))

  -- the fold that one entry shares, or none
  abbrev pub read_one : (content : List X) (t : ℕ) → X → Option (Fold X)
  read_one content t x = option_map (λ w. fold_merges key merges refuses (Value w) (Value x)) (entry_at key (below key content t) (key x))

  one_low : (content : List X) (t : ℕ) (x : X) → key x < t → entry_at key (below key content t) (key x) ≡ entry_at key content (key x)
  one_low content t x lt = let e : ltb (key x) t ≡ true = grind (arith, nat_tests) in entry_at-below key content t (key x) ∙ ap (λ b. cond b (entry_at key content (key x)) None) e

  pub one_absent : (content : List X) (t : ℕ) (x : X) → key x < t → entry_at key content (key x) ≡ None → None ≡ read_one content t x
  one_absent content t x lt none = sym (ap (option_map (λ w. fold_merges key merges refuses (Value w) (Value x))) (one_low content t x lt ∙ none))

  pub one_refused : (content : List X) (t : ℕ) (x w : X) → key x < t → entry_at key content (key x) ≡ Some w → refuses w x ≡ true → IsMergeRefused key refuses (below key content t) (x ∷ [])
  one_refused content t x w lt found refused = record { at = key x; held_entry = w; new_entry = x; is_held = one_low content t x lt ∙ found; comes = entry_at_head key x [] (key x) refl; refused = refused }

module _ {X : Type 0} (key : X → ℕ) (merges : X → X → X) (refuses : X → X → Bool) (keeps : KeepsKey key merges) where
  read_is : (listing content : List X) (t : ℕ) → read_from key merges refuses listing content t ≡ common (fold_key key) (turned_round (fold_merges key merges refuses)) (map Value listing) (below (fold_key key) (map Value content) t)
  read_is listing content t = ap (λ ys. common (fold_key key) (turned_round (fold_merges key merges refuses)) (map Value listing) ys) (sym (below-map Value key (fold_key key) (λ y. refl) content t))

  keeps_turned : (y x : Fold X) → fold_key key y ≡ fold_key key x → fold_key key (turned_round (fold_merges key merges refuses) y x) ≡ fold_key key x
  keeps_turned = turned_keeps (fold_key key) (fold_merges key merges refuses) (fold_keeps key merges refuses keeps)

  -- the entries read may be a table's
  pub record IsRead (items : List X) (t n : ℕ) : Type 0 where
    pub apart : IsApart key items
    pub nonzero : AllByRecursion (λ x. 0 < key x) items
    pub below_theta : AllByRecursion (λ x. key x < t) items
    pub limited : length items ≤ n

  pub items_read : (listing content items : List X) (t : ℕ) → map Value items ≡ read_from key merges refuses listing content t → IsApart key listing → AllByRecursion (λ x. 0 < key x) listing → IsRead items t (length listing)
  items_read listing content items t all apart nonzero =
      let fk = fold_key key in
      let m = turned_round (fold_merges key merges refuses) in
      let is = all ∙ read_is listing content t in
      let ys = below fk (map Value content) t in
      let marked : X → Fold X = λ x. Value x in
      let short : length (common fk m (map Value listing) ys) ≤ length (map Value listing) = length-common fk m keeps_turned (map Value listing) ys in
      record {
        apart = apart-unmarked key items (rw is (apart-common fk m keeps_turned (map Value listing) ys (apart-marked key listing apart)));
        nonzero = each-unmarked key (λ h. 0 < h) items (rw is (each-common fk m keeps_turned (λ h. 0 < h) (map Value listing) ys (each-marked key (λ h. 0 < h) listing nonzero)));
        below_theta = each-unmarked key (λ h. h < t) items (rw is (common_low fk m keeps_turned (map Value listing) (map Value content) t));
        limited = omega (arith, short, ap length is, length-map items marked, length-map listing marked);
      }

  -- the rest of an ascending listing, past a theta, is not read
  pub read_past : (listing left content : List X) (x : X) (t : ℕ) → IsReading key listing (x ∷ left) true → t ≤ key x → read_from key merges refuses (x ∷ left) content t ≡ []
  read_past listing left content x t so_far le =
      let all : AllByRecursion (λ y. t ≤ key y) (x ∷ left) = (le, each-weaker _ _ (λ y lt. omega (arith, le, lt)) left (ascending-head key x left (so_far.in_order refl))) in
      read_is (x ∷ left) content t ∙ common_past (fold_key key) (turned_round (fold_merges key merges refuses)) keeps_turned (map Value (x ∷ left)) (map Value content) t (each-marked key (λ h. t ≤ h) (x ∷ left) all)

  looked : (x : X) (o : Option X) → option_map (λ u. turned_round (fold_merges key merges refuses) (Value x) u) (option_map Value o) ≡ option_map (λ w. fold_merges key merges refuses (Value w) (Value x)) o
  looked x None = refl
  looked x (Some w) = refl

  one_read : (content : List X) (x : X) (t : ℕ) (o : Option (Fold X)) → o ≡ read_one key merges refuses content t x →
      option_map (λ u. turned_round (fold_merges key merges refuses) (Value x) u) (entry_at (fold_key key) (map Value (below key content t)) (key x)) ≡ o
  one_read content x t o is =
      ap (option_map (λ u. turned_round (fold_merges key merges refuses) (Value x) u)) (entry_at-map Value key (fold_key key) (λ y. refl) (below key content t) (key x)) ∙ looked x (entry_at key (below key content t) (key x)) ∙ sym is

  pub read_some : (left content : List X) (x z : X) (t : ℕ) → Some (Value z) ≡ read_one key merges refuses content t x → read_from key merges refuses (x ∷ left) content t ≡ Value z ∷ read_from key merges refuses left content t
  read_some left content x z t is = rw (one_read content x t (Some (Value z)) is) refl

  pub read_none : (left content : List X) (x : X) (t : ℕ) → None ≡ read_one key merges refuses content t x → read_from key merges refuses (x ∷ left) content t ≡ read_from key merges refuses left content t
  read_none left content x t is = rw (one_read content x t None is) refl

  -- the map of the entries read is the shared map
  pub read_shares : (content : Retained X) (listing items : List X) (theta : ℕ) → IsAscending key content.entries → map Value items ≡ read_from key merges refuses listing content.entries (min content.theta theta) →
      unmarked (record { entries = map_of key items; theta = min content.theta theta }) ≡ shared (fold_key key) (fold_merges key merges refuses) (unmarked content) (unmarked (record { entries = map_of key listing; theta = theta }))
  read_shares content listing items theta up all =
      let t = min content.theta theta in
      let fk = fold_key key in
      let fm = fold_merges key merges refuses in
      let entries : map Value (map_of key items) ≡ below fk (common fk fm (map Value content.entries) (map Value (map_of key listing))) t =
      marked-map_of key items ∙ ap (map_of fk) (all ∙ read_is listing content.entries t)
      ∙ common-map_of fk fm (fold_keeps key merges refuses keeps) (map Value content.entries) (map Value listing) t (ascending-marked key content.entries up)
      ∙ ap (λ ys. below fk (common fk fm (map Value content.entries) ys) t) (sym (marked-map_of key listing)) in
      ap (λ ys. record { entries = ys; theta = t }) entries

  -- one more entry is read
  pub more_read : (items left content : List X) (x : X) (t : ℕ) (o : Option X) (all : List (Fold X)) → option_map Value o ≡ read_one key merges refuses content t x → map Value items ++ read_from key merges refuses (x ∷ left) content t ≡ all →
      map Value (option_map_or (λ z. items ++ z ∷ []) o items) ++ read_from key merges refuses left content t ≡ all
  more_read items left content x t None all is so_far = ap (λ ys. map Value items ++ ys) (sym (read_none left content x t is)) ∙ so_far
  more_read items left content x t (Some z) all is so_far =
      ap (λ ys. ys ++ read_from key merges refuses left content t) (map-append Value items (z ∷ []))
      ∙ append_assoc (map Value items) (Value z ∷ []) (read_from key merges refuses left content t)
      ∙ ap (λ ys. map Value items ++ ys) (sym (read_some left content x z t is)) ∙ so_far

-- an entry that was found is one more, and took a comparison
pub fewer_than : {X : Type 0} (entries : List X) (o : Option X) → length (option_map_or (λ z. entries ++ z ∷ []) o entries) ≤ length entries + 1
fewer_than entries None = omega arith
fewer_than entries (Some z) = omega (arith, length-append entries (z ∷ []))

pub found_few : {X R : Type 0} (items : List X) (o : Option X) (r : Option R) (before now next : ℕ) → (r ≡ None → o ≡ None) → IfSome r (λ _. now < next) → now ≤ next → before + length items ≤ now → before + length (option_map_or (λ z. items ++ z ∷ []) o items) ≤ next
found_few items o None before now next none looked grows was = rw (none refl) (omega (arith, was, grows))
found_few items o (Some r) before now next none looked grows was = omega (arith, fewer_than items o, was, looked)

module _ {X : Type 0} (key : X → ℕ) (merges : X → X → X) where
  -- a retained entry whose key is less than all others makes no difference
  pub common_lesser : (y : X) (ys xs : List X) → AllByRecursion (λ x. key y < key x) xs → common key merges xs (y ∷ ys) ≡ common key merges xs ys
  common_lesser y ys [] all = refl
  common_lesser y ys (x ∷ xs) all =
      let differs : key y ≢ key x = λ same. absurd (omega (arith, same, all.0)) in
      let seen : entry_at key (y ∷ ys) (key x) ≡ entry_at key ys (key x) = entry_at_rest key y ys (key x) differs in
      let on = common_lesser y ys xs all.1 in
      (elim (entry_at key ys (key x)) as (λ o. entry_at key ys (key x) ≡ o → common key merges (x ∷ xs) (y ∷ ys) ≡ common key merges (x ∷ xs) ys) [
        | Some z ↦ λ e. rw (seen, e) (ap (λ zs. merges x z ∷ zs) on)
        | None ↦ λ e. rw (seen, e) on
      ]) refl

  -- entries in front of which the same is shared share the same with one more
  common_behind : (x : X) (xs zs ys : List X) → common key merges xs ys ≡ common key merges zs ys → common key merges (x ∷ xs) ys ≡ common key merges (x ∷ zs) ys
  common_behind x xs zs ys same =
      (elim (entry_at key ys (key x)) as (λ o. entry_at key ys (key x) ≡ o → common key merges (x ∷ xs) ys ≡ common key merges (x ∷ zs) ys) [
        | Some z ↦ λ e. rw e (ap (λ us. merges x z ∷ us) same)
        | None ↦ λ e. rw e same
      ]) refl

module _ {X : Type 0} (key : X → ℕ) where
  pub ascending-unmarked : (xs : List X) → IsAscending (fold_key key) (map Value xs) → IsAscending key xs
  ascending-unmarked [] up = ascending-nil key
  ascending-unmarked (x ∷ xs) up =
      ascending-cons key x xs (each-unmarked key (λ h. key x < h) xs (ascending-head (fold_key key) (Value x) (map Value xs) up)) (ascending-unmarked xs (ascending-tail (fold_key key) (Value x) (map Value xs) up))

module _ {X : Type 0} (key : X → ℕ) (merges : X → X → X) (refuses : X → X → Bool) (keeps : KeepsKey key merges) where
  -- a retained entry that is less than all arriving ones shares nothing
  read_lesser : (y : X) (ys xs : List X) (t : ℕ) → AllByRecursion (λ x. key y < key x) xs → read_from key merges refuses xs (y ∷ ys) t ≡ read_from key merges refuses xs ys t
  read_lesser y ys xs t all =
      let fk = fold_key key in
      let m = turned_round (fold_merges key merges refuses) in
      elim (ltb (key y) t) as (λ b. common fk m (map Value xs) (map Value (cond b (y ∷ below key ys t) (below key ys t))) ≡ read_from key merges refuses xs ys t) [
        | true ↦ common_lesser fk m (Value y) (map Value (below key ys t)) (map Value xs) (each-marked key (λ h. key y < h) xs all)
        | false ↦ refl
      ]

  absent_untested : (test : ℕ → Bool) (ys : List X) (q : ℕ) → AllByRecursion (λ y. test (key y) ≡ true) ys → test q ≡ false → entry_at key ys q ≡ None
  absent_untested test [] q all fails = refl
  absent_untested test (y ∷ ys) q all fails =
      (elim (eqb (key y) q) as (λ b. eqb (key y) q ≡ b → cond b (Some y) (entry_at key ys q) ≡ None) [
        | true ↦ λ e. let same : key y ≡ q = grind (arith, nat_tests) in let tie : true ≡ false = sym all.0 ∙ ap test same ∙ fails in absurd (cc)
        | false ↦ λ e. absent_untested test ys q all.1 fails
      ]) refl

  -- arriving entries that fail a test of keys share nothing, if all retained entries below theta pass it
  pub read_tested : (test : ℕ → Bool) (xs content : List X) (t : ℕ) → AllByRecursion (λ y. test (key y) ≡ true) (below key content t) → read_from key merges refuses (filter (λ x. test (key x)) xs) content t ≡ read_from key merges refuses xs content t
  read_tested test [] content t passes = refl
  read_tested test (x ∷ xs) content t passes =
      let fk = fold_key key in
      let m = turned_round (fold_merges key merges refuses) in
      let others = filter (λ z. test (key z)) xs in
      let on = read_tested test xs content t passes in
      (elim (test (key x)) as (λ b. test (key x) ≡ b → read_from key merges refuses (cond b (x ∷ others) others) content t ≡ read_from key merges refuses (x ∷ xs) content t) [
        | true ↦ λ e. common_behind fk m (Value x) (map Value others) (map Value xs) (map Value (below key content t)) on
        | false ↦ λ e. on ∙ sym (read_none key merges refuses keeps xs content x t (sym (ap (option_map (λ w. fold_merges key merges refuses (Value w) (Value x))) (absent_untested test (below key content t) (key x) passes e))))
      ]) refl

  -- two ascending lists are read side by side: the entries shared so far, then those that the rest of both share, are
  -- all that they share
  pub record IsSharing (content left arriving right : List X) (t : ℕ) (entries : List X) : Type 0 where
    pub rest : map Value entries ++ read_from key merges refuses right left t ≡ read_from key merges refuses arriving content t
    pub retained : IsReading key content left true
    pub incoming : IsReading key arriving right true

  pub sharing-start : (content arriving : List X) (t : ℕ) → IsAscending key content → IsAscending key arriving → IsSharing content content arriving arriving t []
  sharing-start content arriving t up arriving_up = record {
    rest = refl;
    retained = reading-start key content true (ascending-apart key content up) (λ _. up);
    incoming = reading-start key arriving true (ascending-apart key arriving arriving_up) (λ _. arriving_up);
  }

  module _ (content arriving : List X) (y : X) (left : List X) (x : X) (right : List X) (t : ℕ) (entries : List X) (lt : key x < t) (was : IsSharing content (y ∷ left) arriving (x ∷ right) t entries) where
    left_up : IsAscending key (y ∷ left)
    left_up = was.retained.in_order refl

    right_up : IsAscending key (x ∷ right)
    right_up = was.incoming.in_order refl

    shared_less : key x < key y → IsSharing content (y ∷ left) arriving right t entries
    shared_less less =
        let absent : entry_at key (y ∷ left) (key x) ≡ None = past key y left (key x) left_up less in
        record {
          rest = ap (λ us. map Value entries ++ us) (sym (read_none key merges refuses keeps right (y ∷ left) x t (one_absent key merges refuses (y ∷ left) t x lt absent))) ∙ was.rest;
          retained = was.retained;
          incoming = reading-next key arriving right x true was.incoming;
        }

    shared_greater : key y < key x → IsSharing content left arriving (x ∷ right) t entries
    shared_greater greater =
        let all : AllByRecursion (λ z. key y < key z) (x ∷ right) = (greater, each-weaker (λ z. key x < key z) (λ z. key y < key z) (λ z after. omega (arith, greater, after)) right (ascending-head key x right right_up)) in
        record {
          rest = ap (λ us. map Value entries ++ us) (sym (read_lesser y left (x ∷ right) t all)) ∙ was.rest;
          retained = reading-next key content left y true was.retained;
          incoming = was.incoming;
        }

    shared_same : (o : Option X) → key x ≡ key y → option_map Value o ≡ Some (fold_merges key merges refuses (Value y) (Value x)) → IsSharing content left arriving right t (option_map_or (λ z. entries ++ z ∷ []) o entries)
    shared_same o same folded =
        let there : entry_at key (y ∷ left) (key x) ≡ Some y = entry_at_head key y left (key x) (sym same) in
        let is : option_map Value o ≡ read_one key merges refuses (y ∷ left) t x = folded ∙ sym (ap (option_map (λ w. fold_merges key merges refuses (Value w) (Value x))) (one_low key merges refuses (y ∷ left) t x lt ∙ there)) in
        let later : AllByRecursion (λ z. key y < key z) right = each-weaker (λ z. key x < key z) (λ z. key y < key z) (λ z after. omega (arith, same, after)) right (ascending-head key x right right_up) in
        record {
          rest = ap (λ us. map Value (option_map_or (λ z. entries ++ z ∷ []) o entries) ++ us) (sym (read_lesser y left right t later)) ∙ more_read key merges refuses keeps entries right (y ∷ left) x t o (read_from key merges refuses arriving content t) is was.rest;
          retained = reading-next key content left y true was.retained;
          incoming = reading-next key arriving right x true was.incoming;
        }

    -- a refused pair is one of both lists
    shared_refused : key x ≡ key y → refuses y x ≡ true → IsMergeRefused key refuses (below key content t) arriving
    shared_refused same refused = record {
      at = key x;
      held_entry = y;
      new_entry = x;
      is_held = one_low key merges refuses content t x lt ∙ was.retained.among (key x) y (entry_at_head key y left (key x) (sym same));
      comes = was.incoming.among (key x) x (entry_at_head key x right (key x) refl);
      refused = refused;
    }

    no_entry : (o : Option X) → option_map Value o ≡ None → o ≡ None
    no_entry None e = refl
    no_entry (Some z) e = absurd (cc)

    -- one comparison more, by numbers alone: a list advances if its first isn't the greater
    shared_more : (o : Option X) → IsSharedFold key merges refuses y x (eqb (key x) (key y)) o → IsSharing content (drop (cond (leb (key y) (key x)) 1 0) (y ∷ left)) arriving (drop (cond (leb (key x) (key y)) 1 0) (x ∷ right)) t (option_map_or (λ z. entries ++ z ∷ []) o entries)
    shared_more o folded =
        elim (cases_lt (key x) (key y)) [
          | inl less ↦
              let a : leb (key y) (key x) ≡ false = grind (arith, nat_tests) in
              let b : leb (key x) (key y) ≡ true = grind (arith, nat_tests) in
              let c : eqb (key x) (key y) ≡ false = grind (arith, nat_tests) in
              rw (a, b, no_entry o (rw c at folded)) (shared_less less)
          | inr no_less ↦ elim (cases_lt (key y) (key x)) [
            | inl greater ↦
                let a : leb (key y) (key x) ≡ true = grind (arith, nat_tests) in
                let b : leb (key x) (key y) ≡ false = grind (arith, nat_tests) in
                let c : eqb (key x) (key y) ≡ false = grind (arith, nat_tests) in
                rw (a, b, no_entry o (rw c at folded)) (shared_greater greater)
            | inr no_greater ↦
                let a : leb (key y) (key x) ≡ true = grind (arith, nat_tests) in
                let b : leb (key x) (key y) ≡ true = grind (arith, nat_tests) in
                let same : key x ≡ key y = omega (arith, no_less, no_greater) in
                let c : eqb (key x) (key y) ≡ true = grind (arith, nat_tests) in
                rw (a, b) (shared_same o same (rw c at folded))
          ]
        ]

  -- the same, stated by the fronts of both lists and by the numbers that the comparisons return
  pub shared_on : (content left arriving right : List X) (y x : X) (t : ℕ) (entries : List X) (o : Option X) (hash known passed arriving_passed : ℕ)
      → Some y ≡ slice_get left 0 → Some x ≡ slice_get right 0 → hash ≡ key x → known ≡ key y → hash < t
      → passed ≡ cond (leb known hash) 1 0 → arriving_passed ≡ cond (leb hash known) 1 0 → IsSharedFold key merges refuses y x (eqb hash known) o
      → IsSharing content left arriving right t entries → IsSharing content (drop passed left) arriving (drop arriving_passed right) t (option_map_or (λ z. entries ++ z ∷ []) o entries)
  shared_on content [] arriving right y x t entries o hash known passed arriving_passed first other_first hash_is known_is lt passed_is arriving_is folded was = absurd (cc)
  shared_on content (w ∷ left) arriving [] y x t entries o hash known passed arriving_passed first other_first hash_is known_is lt passed_is arriving_is folded was = absurd (cc)
  shared_on content (w ∷ left) arriving (z ∷ right) y x t entries o hash known passed arriving_passed first other_first hash_is known_is lt passed_is arriving_is folded was =
      let w_is : w ≡ y = cc in
      let z_is : z ≡ x = cc in
      rw (passed_is, arriving_is, hash_is, known_is, w_is, z_is) (shared_more content arriving y left x right t entries (rw (← hash_is) lt) (rw (w_is, z_is) at was) o (rw (hash_is, known_is) at folded))

  pub refused_on : (content left arriving right : List X) (y x : X) (t : ℕ) (entries : List X) (hash known : ℕ)
      → Some y ≡ slice_get left 0 → Some x ≡ slice_get right 0 → hash ≡ key x → known ≡ key y → hash < t → eqb hash known ≡ true → refuses y x ≡ true
      → IsSharing content left arriving right t entries → IsMergeRefused key refuses (below key content t) arriving
  refused_on content [] arriving right y x t entries hash known first other_first hash_is known_is lt same refused was = absurd (cc)
  refused_on content (w ∷ left) arriving [] y x t entries hash known first other_first hash_is known_is lt same refused was = absurd (cc)
  refused_on content (w ∷ left) arriving (z ∷ right) y x t entries hash known first other_first hash_is known_is lt same refused was =
      let w_is : w ≡ y = cc in
      let z_is : z ≡ x = cc in
      let alike : key x ≡ key y = sym hash_is ∙ (let e : hash ≡ known = grind (arith, nat_tests) in e) ∙ known_is in
      shared_refused content arriving y left x right t entries (rw (← hash_is) lt) (rw (w_is, z_is) at was) alike refused

  -- if either list is at its end, or the first arriving entry is not below theta, nothing more is shared
  pub shared_end : (content left arriving right : List X) (t : ℕ) (entries : List X) → IsSharing content left arriving right t entries → read_from key merges refuses right left t ≡ [] → map Value entries ≡ read_from key merges refuses arriving content t
  shared_end content left arriving right t entries was none = sym (append-nil (map Value entries)) ∙ ap (λ us. map Value entries ++ us) (sym none) ∙ was.rest

  pub end_arriving : (left right : List X) (t : ℕ) → None ≡ slice_get right 0 → read_from key merges refuses right left t ≡ []
  end_arriving left [] t none = refl
  end_arriving left (x ∷ right) t none = absurd (cc)

  pub end_retained : (left right : List X) (t : ℕ) → None ≡ slice_get left 0 → read_from key merges refuses right left t ≡ []
  end_retained [] right t none = common-nil (fold_key key) (turned_round (fold_merges key merges refuses)) (keeps_turned key merges refuses keeps) (map Value right)
  end_retained (y ∷ left) right t none = absurd (cc)

  pub end_past : (arriving left right : List X) (x : X) (t : ℕ) → Some x ≡ slice_get right 0 → IsReading key arriving right true → t ≤ key x → read_from key merges refuses right left t ≡ []
  end_past arriving left [] x t first reading le = refl
  end_past arriving left (z ∷ right) x t first reading le =
      let z_is : z ≡ x = cc in
      read_past key merges refuses keeps arriving right left z t reading (rw z_is le)

  -- an arriving entry is looked up among the retained ones
  pair_read : (content : List X) (x : X) (t hash : ℕ) (e o : Option X) → e ≡ entry_at key content hash → hash ≡ key x → hash < t → IsSharedPair key merges refuses true x e o → option_map Value o ≡ read_one key merges refuses content t x
  pair_read content x t hash e o is hash_is lt pair =
      let low : key x < t = rw (← hash_is) lt in
      let there : e ≡ entry_at key (below key content t) (key x) = is ∙ ap (λ (h : ℕ). entry_at key content h) hash_is ∙ sym (one_low key merges refuses content t x low) in
      pair ∙ ap (option_map (λ w. fold_merges key merges refuses (Value w) (Value x))) there

  -- without the one entry there is no pair
  pub unpaired : {R : Type 0} (at : R → X) (r : Option R) (arrives : Bool) (x : X) (o : Option X) → IsSharedPair key merges refuses arrives x (option_map at r) o → r ≡ None → o ≡ None
  unpaired at None arrives x o pair e = some_is_none key o pair
  unpaired at (Some r) arrives x o pair e = absurd (cc)

  -- the folds that retained entries below a theta share with arriving ones, in the order of the retained ones
  abbrev pub held_from : (content arriving : List X) (t : ℕ) → List (Fold X)
  held_from content arriving t = common (fold_key key) (fold_merges key merges refuses) (map Value (below key content t)) (map Value arriving)

  -- for ascending entries both orders are the same
  pub held_is_read : (content arriving : List X) (t : ℕ) → IsAscending key content → IsAscending key arriving → held_from content arriving t ≡ read_from key merges refuses arriving content t
  held_is_read content arriving t up arriving_up =
      let fk = fold_key key in
      let fm = fold_merges key merges refuses in
      let own = map Value (below key content t) in
      let other = map Value arriving in
      same_map fk _ _ (ascending-common fk fm (fold_keeps key merges refuses keeps) own other (ascending-marked key (below key content t) (ascending-filter key _ content up))) (ascending-common fk (turned_round fm) (keeps_turned key merges refuses keeps) other own (ascending-marked key arriving arriving_up))
      (λ q. entry_at-common fk fm (fold_keeps key merges refuses keeps) own other q ∙ sym (both_turned fk fm (fold_keeps key merges refuses keeps) (entry_at fk other q) (entry_at fk own q)) ∙ sym (entry_at-common fk (turned_round fm) (keeps_turned key merges refuses keeps) other own q))

  held_one : (y : X) (ys : List X) (other : List (Fold X)) (u : Option (Fold X)) → option_map (λ v. fold_merges key merges refuses (Value y) v) (entry_at (fold_key key) other (key y)) ≡ u
      → common (fold_key key) (fold_merges key merges refuses) (Value y ∷ map Value ys) other ≡ option_map_or (λ z. z ∷ common (fold_key key) (fold_merges key merges refuses) (map Value ys) other) u (common (fold_key key) (fold_merges key merges refuses) (map Value ys) other)
  held_one y ys other None is = rw is refl
  held_one y ys other (Some z) is = rw is refl

  more_items : (items : List X) (o : Option X) (rest : List (Fold X)) → map Value (option_map_or (λ z. items ++ z ∷ []) o items) ++ rest ≡ map Value items ++ option_map_or (λ z. z ∷ rest) (option_map Value o) rest
  more_items items None rest = refl
  more_items items (Some z) rest = ap (λ ys. ys ++ rest) (map-append Value items (z ∷ [])) ∙ append_assoc (map Value items) (Value z ∷ []) rest

  matched : (y : X) (e : Option X) → option_map (λ v. fold_merges key merges refuses (Value y) v) (option_map Value e) ≡ option_map (λ x. fold_merges key merges refuses (Value y) (Value x)) e
  matched y None = refl
  matched y (Some x) = refl

  -- one more retained entry is looked up among the arriving ones
  held_more : (items left arriving : List X) (y : X) (t hash : ℕ) (e o : Option X) (all : List (Fold X)) → e ≡ entry_at key arriving hash → hash ≡ key y → hash < t → IsSharedPair key merges refuses false y e o
      → map Value items ++ held_from (y ∷ left) arriving t ≡ all → map Value (option_map_or (λ z. items ++ z ∷ []) o items) ++ held_from left arriving t ≡ all
  held_more items left arriving y t hash e o all is hash_is lt pair was =
      let low : ltb (key y) t ≡ true = grind (arith, nat_tests, hash_is, lt) in
      let seen : entry_at (fold_key key) (map Value arriving) (key y) ≡ option_map Value e = entry_at-map Value key (fold_key key) (λ z. refl) arriving (key y) ∙ ap (option_map Value) (ap (λ (h : ℕ). entry_at key arriving h) (sym hash_is) ∙ sym is) in
      let one : option_map (λ v. fold_merges key merges refuses (Value y) v) (entry_at (fold_key key) (map Value arriving) (key y)) ≡ option_map Value o = ap (option_map (λ v. fold_merges key merges refuses (Value y) v)) seen ∙ matched y e ∙ sym pair in
      let first : held_from (y ∷ left) arriving t ≡ common (fold_key key) (fold_merges key merges refuses) (Value y ∷ map Value (below key left t)) (map Value arriving) = rw low refl in
      more_items items o (held_from left arriving t) ∙ ap (λ us. map Value items ++ us) (sym (held_one y (below key left t) (map Value arriving) (option_map Value o) one) ∙ sym first) ∙ was

  held_past : (y : X) (left arriving : List X) (t : ℕ) → IsAscending key (y ∷ left) → t ≤ key y → held_from (y ∷ left) arriving t ≡ []
  held_past y left arriving t up le = ap (λ ys. common (fold_key key) (fold_merges key merges refuses) (map Value ys) (map Value arriving)) (stops key y left t up le)

  -- the folds that the entries of a short list share with those of a long one below a theta; the short one arrives, or
  -- the long one does
  pub found_from : (arrives : Bool) (short long : List X) (t : ℕ) → List (Fold X)
  found_from true short long t = read_from key merges refuses short long t
  found_from false short long t = held_from short long t

  pub found_none : (arrives : Bool) (long : List X) (t : ℕ) → found_from arrives [] long t ≡ []
  unfolding found_from
  found_none true long t = refl
  found_none false long t = refl

  -- one more entry of the short list is looked up
  pub found_more : (arrives : Bool) (items left long : List X) (x : X) (t hash : ℕ) (e o : Option X) (all : List (Fold X)) → e ≡ entry_at key long hash → hash ≡ key x → hash < t → IsSharedPair key merges refuses arrives x e o
      → map Value items ++ found_from arrives (x ∷ left) long t ≡ all → map Value (option_map_or (λ z. items ++ z ∷ []) o items) ++ found_from arrives left long t ≡ all
  unfolding found_from
  found_more true items left long x t hash e o all is hash_is lt pair was = more_read key merges refuses keeps items left long x t o all (pair_read long x t hash e o is hash_is lt pair) was
  found_more false items left long x t hash e o all is hash_is lt pair was = held_more items left long x t hash e o all is hash_is lt pair was

  -- the rest of the short list, past a theta, is not looked up
  pub found_past : (arrives : Bool) (short left long : List X) (x : X) (t : ℕ) → IsReading key short (x ∷ left) true → t ≤ key x → found_from arrives (x ∷ left) long t ≡ []
  unfolding found_from
  found_past true short left long x t reading le = read_past key merges refuses keeps short left long x t reading le
  found_past false short left long x t reading le = held_past x left long t (reading.in_order refl) le

  -- for ascending lists the order of either list is the same
  pub found_in_all : (arrives : Bool) (short long : List X) (t : ℕ) → IsAscending key short → IsAscending key long
      → found_from arrives short long t ≡ read_from key merges refuses (cond arrives short long) (cond arrives long short) t
  unfolding found_from
  found_in_all true short long t up long_up = refl
  found_in_all false short long t up long_up = held_is_read short long t up long_up

  -- a refused pair is one of both lists
  pub found_refused : (arrives : Bool) (short left long : List X) (x : X) (t hash : ℕ) (e : Option X) → IsReading key short (x ∷ left) true → e ≡ entry_at key long hash → hash ≡ key x → hash < t → IsRefusedPair refuses arrives x e
      → IsMergeRefused key refuses (below key (cond arrives long short) t) (cond arrives short long)
  found_refused arrives short left long x t hash None reading is hash_is lt refused = absurd refused
  found_refused true short left long x t hash (Some y) reading is hash_is lt refused =
      reading-refused key refuses _ short left x true reading (one_refused key merges refuses long t x y (rw (← hash_is) lt) (ap (λ (h : ℕ). entry_at key long h) (sym hash_is) ∙ sym is) refused)
  found_refused false short left long y t hash (Some x) reading is hash_is lt refused = record {
    at = key y;
    held_entry = y;
    new_entry = x;
    is_held = one_low key merges refuses short t y (rw (← hash_is) lt) ∙ reading.among (key y) y (entry_at_head key y left (key y) refl);
    comes = ap (λ (h : ℕ). entry_at key long h) (sym hash_is) ∙ sym is;
    refused = refused;
  }

  -- the entries shared with the map of a listing are the new content
  pub record IsNewContent (content : Retained X) (listing items : List X) (theta t : ℕ) : Type 0 where
    pub is_shared : unmarked (record { entries = items; theta = t }) ≡ shared (fold_key key) (fold_merges key merges refuses) (unmarked content) (unmarked (record { entries = map_of key listing; theta = theta }))
    pub retained : IsRetained key (record { entries = items; theta = t })
    pub fewer : length items ≤ length listing

  new_content : (content : Retained X) (listing items : List X) (theta t : ℕ) → IsRetained key content → t ≡ min content.theta theta → map Value items ≡ read_from key merges refuses (map_of key listing) content.entries t
      → IsApart key listing → AllByRecursion (λ x. 0 < key x) listing → 0 < theta → IsNewContent content listing items theta t
  new_content content listing items theta t kept t_is all apart nonzero low =
      let fk = fold_key key in
      let m = turned_round (fold_merges key merges refuses) in
      let up : IsAscending key (map_of key listing) = ascending-map_of key listing in
      let again : map_of key (map_of key listing) ≡ map_of key listing = map_of-ascending key (map_of key listing) up in
      let read = items_read key merges refuses keeps (map_of key listing) content.entries items t all (ascending-apart key (map_of key listing) up) (each-map_of key (λ x. 0 < key x) listing nonzero) in
      let items_up : IsAscending key items = ascending-unmarked key items (rw (all ∙ read_is key merges refuses keeps (map_of key listing) content.entries t) (ascending-common fk m (keeps_turned key merges refuses keeps) (map Value (map_of key listing)) (below fk (map Value content.entries) t) (ascending-marked key (map_of key listing) up))) in
      let sorted : map_of key items ≡ items = map_of-ascending key items items_up in
      let shares = read_shares key merges refuses keeps content (map_of key listing) items theta kept.ascending (rw t_is at all) in
      record {
        is_shared = ap (λ (u : ℕ). unmarked (record { entries = items; theta = u })) t_is ∙ ap (λ zs. unmarked (record { entries = zs; theta = min content.theta theta })) (sym sorted) ∙ shares ∙ ap (λ zs. shared fk (fold_merges key merges refuses) (unmarked content) (unmarked (record { entries = zs; theta = theta }))) again;
        retained = record {
          ascending = items_up;
          nonzero = read.nonzero;
          below_theta = read.below_theta;
          theta_low = omega (arith, t_is, kept.theta_low, low);
          theta_high = omega (arith, t_is, kept.theta_high);
        };
        fewer = omega (arith, read.limited, ap length (sym again), count_sorted key t 0 listing apart);
      }

  -- the same for the listing of a sketch
  pub shown_content : (s : Shown) (content : Retained X) (listing items : List X) (theta t : ℕ) → IsRetained key content → t ≡ min content.theta theta → map Value items ≡ read_from key merges refuses (map_of key listing) content.entries t
      → map key listing ≡ s.hashes → IsShown s → theta ≡ s.theta → IsNewContent content listing items theta t
  shown_content s content listing items theta t kept t_is all hashes shown theta_is =
      let apart : IsApart key listing = apart-distinct key listing (rw hashes shown.distinct) in
      let nonzero : AllByRecursion (λ x. 0 < key x) listing = each-from_map key (λ h. 0 < h) listing (rw hashes shown.nonzero) in
      new_content content listing items theta t kept t_is all apart nonzero (omega (arith, theta_is, shown.theta_low))

module _ {X : Type 0} (key : X → ℕ) where
  -- an entry at a key of a sorted listing below a theta is one of the listing
  pub refused_tested : (refuses : X → X → Bool) (content listing : List X) (test : ℕ → Bool) → IsMergeRefused key refuses content (filter (λ x. test (key x)) (map_of key listing)) → IsMergeRefused key refuses content listing
  refused_tested refuses content listing test refused = record {
    at = refused.at;
    held_entry = refused.held_entry;
    new_entry = refused.new_entry;
    is_held = refused.is_held;
    comes = sym (entry_at-map_of key listing refused.at) ∙ (elim (test refused.at) as (λ b. cond b (entry_at key (map_of key listing) refused.at) None ≡ Some refused.new_entry → entry_at key (map_of key listing) refused.at ≡ Some refused.new_entry) [ true ↦ λ e. e | false ↦ λ e. absurd (cc) ]) (sym (entry_at-keyed key test (map_of key listing) refused.at) ∙ refused.comes);
    refused = refused.refused;
  }

  -- a sorted copy of what a sketch lists may be an intersection's content
  pub record IsCopied (s : Shown) (listing : List X) : Type 0 where
    pub all : below key (map_of key listing) s.theta ≡ map_of key listing
    pub retained : IsRetained key (record { entries = map_of key listing; theta = s.theta })
    pub limited : length (map_of key listing) < 2 ^ 32

  pub copied : (s : Shown) (listing : List X) → IsShown s → map key listing ≡ s.hashes → IsCopied s listing
  copied s listing shown hashes =
      let low : AllByRecursion (λ x. key x < s.theta) (map_of key listing) = each-map_of key (λ x. key x < s.theta) listing (each-from_map key (λ h. h < s.theta) listing (rw hashes shown.below_theta)) in
      record {
        all = below_all key (map_of key listing) s.theta low;
        retained = record {
          ascending = ascending-map_of key listing;
          nonzero = each-map_of key (λ x. 0 < key x) listing (each-from_map key (λ h. 0 < h) listing (rw hashes shown.nonzero));
          below_theta = low;
          theta_low = shown.theta_low;
          theta_high = shown.theta_high;
        };
        limited = omega (arith, count_sorted key 1 0 listing (apart-distinct key listing (rw hashes shown.distinct)), length-map listing key, ap length hashes, shown.limited);
      }

  -- the entries of an ordered sketch ascend
  pub ascending_listed : (s : Shown) (listing xs : List X) → xs ≡ listing → map key listing ≡ s.hashes → IsShown s → s.ordered ≡ true → IsAscending key xs
  ascending_listed s listing xs all hashes shown ordered = rw all (ascending-from_map key listing (rw hashes (shown.ascending ordered)))

  -- the entries of a sketch that pass a test have different keys
  pub apart_listed : (p : X → Bool) (s : Shown) (listing : List X) → map key listing ≡ s.hashes → IsShown s → IsApart key (filter p listing)
  apart_listed p s listing hashes shown = apart-filter key p listing (apart-distinct key listing (rw hashes shown.distinct))

  -- how many entries of a listing pass a test
  pub few_passing : (p : X → Bool) (listing : List X) → IsApart key listing → length (filter p (map_of key listing)) ≤ length listing
  few_passing p listing apart = omega (arith, fewer p (map_of key listing), count_sorted key 1 0 listing apart)
