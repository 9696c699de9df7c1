-- The entries below a theta in any order, and results that list them.
use Rattle.std.proofs.Common.{◌≡◌, ℕ, ◌<◌, ◌≤◌, ◌^◌, ◌++◌, ◌||◌, arith, MatchOption, Bool, true, false, ltb, List, [], ◌∷◌, length, Option, Some, None, refl, sym, ap, ◌∙◌}
use Rattle.std.specs.List.{AllByRecursion}
use Rattle.std.proofs.lemmas.Bool.Decides.{nat_tests}
use Rattle.core_slots.specs.SlotLayout.{filled}
use Rattle.core_slots.proofs.Gathers.{apart-below, map_of-below}
use Rattle.core_table.specs.Gathering.{from_below}
use Rattle.core_table.specs.Filling.{IsFill}
use Rattle.std.proofs.lemmas.List.Sorted.{length_permutation}
use Rattle.core_compact.specs.CompactState.{Compact, IsCompactOf, shown_of, is_answer_ordered}
use Rattle.core_laws.specs.Maps.{IsApart, below, map_of, rank}
use Rattle.core_laws.specs.Cuts.{Retained, retained, cut}
use Rattle.core_laws.specs.Shown.{IsShown}
use Rattle.core_laws.specs.Maps.{IsListing}
use Rattle.core_laws.specs.Cuts.{IsRetained}
use Rattle.core_laws.proofs.cuts.Cuts.{below_all, cut_few, rank_all}
use Rattle.core_laws.proofs.maps.Ascending.{ascending-filter}
use Rattle.core_laws.proofs.maps.MapsOfLists.{ascending-map_of, iterated-ascending, each-from_map}
use Rattle.core_laws.proofs.insertions.Cases.{IsRetained-below, length-cut}
use Rattle.core_table.proofs.OtherOrders.{map_of-moved}
use Rattle.core_compact.proofs.LawsOfShown.{IsShown-retained, shown-iterated}

module _ {X : Type 0} (key : X → ℕ) where
  pub iterated-below : (xs : List X) (t : ℕ) → IsApart key xs → IsListing key (below key (map_of key xs) t) (below key xs t)
  iterated-below xs t each =
      let kept = apart-below key xs t each in
      record { each_once = rw (← map_of-below key xs t) (map_of-moved key (below key xs t) kept); apart = kept; same_map = map_of-below key xs t }

  module _ (xs : List X) (t seed_hash : ℕ) (each : IsApart key xs) where
    abbrev listed : List X → Bool → Compact X
    listed ys ordered = record { empty = false; entries = ys; theta = t; seed_hash = seed_hash; ordered = ordered }

    pub count : length (below key (map_of key xs) t) ≡ length (below key xs t)
    count = sym (length_permutation (below key (map_of key xs) t) (below key xs t) (iterated-below xs t each).each_once)

    module _ (sound : IsRetained key (retained key (map_of key xs) t)) (limited : length (below key (map_of key xs) t) < 2 ^ 32) where
      pub shown_listed : IsShown (shown_of key (listed (below key xs t) false))
      shown_listed = shown-iterated key (retained key (map_of key xs) t) (below key xs t) seed_hash sound (iterated-below xs t each) limited

      pub shown_sorted : IsShown (shown_of key (listed (map_of key (below key xs t)) true))
      shown_sorted = rw (map_of-below key xs t) (IsShown-retained key (retained key (map_of key xs) t) seed_hash true sound limited)

    pub answer_listed : (asked : Bool) → is_answer_ordered asked (length (below key xs t)) t ≡ false → IsCompactOf key (retained key (map_of key xs) t) seed_hash asked (listed (below key xs t) false)
    answer_listed asked open_order = record {
      nonempty = refl;
      same_theta = refl;
      same_seed = refl;
      ordered_if = sym open_order ∙ ap (λ (n : ℕ). is_answer_ordered asked n t) (sym count);
      lists_all = iterated-below xs t each;
      in_order = λ e. absurd (cc);
    }

    pub answer_sorted : (asked : Bool) → is_answer_ordered asked (length (below key xs t)) t ≡ true → IsCompactOf key (retained key (map_of key xs) t) seed_hash asked (listed (map_of key (below key xs t)) true)
    answer_sorted asked ascends =
        let is : map_of key (below key xs t) ≡ below key (map_of key xs) t = map_of-below key xs t in
        record {
          nonempty = refl;
          same_theta = refl;
          same_seed = refl;
          ordered_if = sym ascends ∙ ap (λ (n : ℕ). is_answer_ordered asked n t) (sym count);
          lists_all = rw is (iterated-ascending key (below key (map_of key xs) t) (ascending-filter key (λ x. ltb (key x) t) (map_of key xs) (ascending-map_of key xs)));
          in_order = λ _. is;
        }

-- entries that may be inserted into a table of k nominal entries with this theta, and make this cut there
pub record MakeCut {X : Type 0} (key : X → ℕ) (k theta : ℕ) (xs : List X) (made : Retained X) : Type 0 where
  pub fill : IsFill key k theta xs
  pub made_is : record { entries = map_of key xs; theta = theta } ≡ made

module _ {X : Type 0} (key : X → ℕ) (xs : List X) (each : IsApart key xs) where
  -- the entries below the theta of a cut, in any order
  pub makes_cut : (k own theta lesser : ℕ) → IsRetained key (record { entries = map_of key xs; theta = own }) → 0 < lesser → lesser ≤ own → k < 2 ^ 32 → cut key k (map_of key xs) theta ≡ retained key (map_of key xs) lesser
      → MakeCut key k lesser (below key xs lesser) (cut key k (map_of key xs) theta)
  makes_cut k own theta lesser kept low high small is_cut =
      let within = length-cut key k (map_of key xs) theta kept.ascending in
      let limited : length (below key (map_of key xs) lesser) ≤ k = omega (arith, within, ap (λ v. length v.entries) is_cut) in
      let shown = shown_listed key xs lesser 0 each (IsRetained-below key (map_of key xs) own lesser kept low high) (omega (arith, limited, small)) in
      record {
        fill = record {
          apart = apart-below key xs lesser each;
          nonzero = each-from_map key (λ h. 0 < h) _ shown.nonzero;
          below_theta = each-from_map key (λ (h : ℕ). h < lesser) _ shown.below_theta;
          limited = omega (arith, limited, count key xs lesser 0 each);
        };
        made_is = ap (λ ys. record { entries = ys; theta = lesser }) (map_of-below key xs lesser) ∙ sym is_cut;
      }

  -- all entries of a table, in any order
  pub makes_all : (k own : ℕ) → IsRetained key (record { entries = map_of key xs; theta = own }) → length (map_of key xs) ≤ k → k < 2 ^ 32
      → MakeCut key k own (below key xs own) (record { entries = map_of key xs; theta = own })
  makes_all k own kept few small =
      let all : below key (map_of key xs) own ≡ map_of key xs = below_all key (map_of key xs) own kept.below_theta in
      let ranked : rank key (map_of key xs) own ≤ k = omega (arith, few, rank_all key (map_of key xs) own kept.below_theta) in
      let is_cut : cut key k (map_of key xs) own ≡ retained key (map_of key xs) own = cut_few key k (map_of key xs) own kept.ascending ranked in
      let made = makes_cut k own own own kept kept.theta_low (omega arith) small is_cut in
      record {
        fill = made.fill;
        made_is = made.made_is ∙ is_cut ∙ ap (λ ys. record { entries = ys; theta = own }) all;
      }

module _ {X : Type 0} (key : X → ℕ) (theta : ℕ) where
  -- no entry has a hash below theta
  abbrev pub NoneBelow : List X → Type 0
  NoneBelow xs = AllByRecursion (λ x. theta ≤ key x) xs

  none_below_more : (xs ys : List X) → NoneBelow xs → NoneBelow ys → NoneBelow (xs ++ ys)
  none_below_more [] ys front behind = behind
  none_below_more (x ∷ xs) ys front behind = (front.0, none_below_more xs ys front.1 behind)

  none_below_slot : (content : Option X) (b : Bool) → MatchOption content (b ≡ false) (λ x. b ≡ ltb (key x) theta) → b ≡ false → NoneBelow (filled (content ∷ []))
  none_below_slot None b is none = tt
  none_below_slot (Some x) b is none = let far : ltb (key x) theta ≡ false = sym is ∙ none in (grind (arith, nat_tests), tt)

  -- one more slot
  pub none_below-next : (any b : Bool) (xs : List X) (content : Option X) → (any ≡ false → NoneBelow xs) → MatchOption content (b ≡ false) (λ x. b ≡ ltb (key x) theta) → (any || b) ≡ false → NoneBelow (xs ++ filled (content ∷ []))
  none_below-next true b xs content so_far is none = absurd (cc)
  none_below-next false b xs content so_far is none = none_below_more xs (filled (content ∷ [])) (so_far refl) (none_below_slot content b is none)

  -- entries that are not below theta are passed over
  pub from_below-behind : (xs ys : List X) → NoneBelow xs → from_below key theta (xs ++ ys) ≡ from_below key theta ys
  from_below-behind [] ys high = refl
  from_below-behind (x ∷ xs) ys high =
      let far : theta ≤ key x = high.0 in
      let e : ltb (key x) theta ≡ false = grind (arith, nat_tests) in
      rw e (from_below-behind xs ys high.1)
