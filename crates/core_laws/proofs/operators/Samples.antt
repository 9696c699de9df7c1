-- Samples of whole maps stay so through unions, intersections and differences.
use Rattle.std.proofs.Common.{◌≡◌, ℕ, ◌<◌, ◌≤◌, ◌≢◌, min, Bool, true, false, cond, eqb, List, [], ◌∷◌, map, length, inl, inr, refl, sym, ap, ◌∙◌, subst, arith}
use Rattle.std.specs.Prelude.{◌&&◌, not}
use Rattle.std.specs.List.{AllByRecursion}
use Rattle.std.proofs.lemmas.Bool.{cases_lt}
use Rattle.std.proofs.lemmas.Bool.Decides.{nat_tests}
use Rattle.core_laws.specs.declared.TheConstants.{MAX_THETA}
use Rattle.core_laws.specs.Maps.{IsAscending, below}
use Rattle.core_laws.specs.Cuts.{Retained, cut}
use Rattle.core_laws.specs.Lawful.{IsLawful}
use Rattle.core_laws.specs.Values.{Sketch, Empty, NonEmpty}
use Rattle.core_laws.specs.Operators.{join, joined, joined_all, least, nonempties, unite, unite_nonempty, common, shared, is_disjoint, meet, meet_from, lacking, minus}
use Rattle.core_laws.specs.Samples.{IsAllBelow, IsSample, AreSamples, IsLawfulValue, AreLawful, common_all}
use Rattle.core_laws.proofs.maps.Ascending.{each-weaker, each-filter, each-with_entry, ascending-nil, ascending-filter}
use Rattle.core_laws.proofs.cuts.Cuts.{cut_is_below, below_all}
use Rattle.core_laws.proofs.cuts.LawfulThetas.{cut_lawful}
use Rattle.core_laws.proofs.cuts.WithinWholeMaps.{below-below, cut_below, lawful-le, within-cut}
use Rattle.core_laws.proofs.operators.JoinedMaps.{ascending-joined, below-joined, join_key, Extends, joined-extends, joined-extends_right}
use Rattle.core_laws.proofs.operators.CommonMaps.{each-common, ascending-common, below-common, common-nil, below-lacking, lacking-nil}
use Rattle.core_laws.specs.Entries.{KeepsKey}

module _ {X : Type 0} where
  none_left : (xs : List X) → eqb (length xs) 0 ≡ true → xs ≡ []
  none_left [] e = refl
  none_left (x ∷ xs) e = absurd (grind (arith, nat_tests))

last_of : (a b c d : Bool) → (a && (b && (c && d))) ≡ true → d ≡ true
last_of true true true d e = e
last_of true true false d e = cc
last_of true false c d e = cc
last_of false b c d e = cc

module _ {X : Type 0} (key : X → ℕ) (merges : X → X → X) (keeps : KeepsKey key merges) where
  each-joined : (P : ℕ → Type 0) (xs whole : List X) → AllByRecursion (λ x. P (key x)) whole → AllByRecursion (λ x. P (key x)) xs → AllByRecursion (λ x. P (key x)) (joined key merges whole xs)
  each-joined P [] whole all more = all
  each-joined P (x ∷ xs) whole all more = each-joined P xs (join key merges whole x) (each-with_entry key (λ z. P (key z)) whole _ all (subst P (sym (join_key key merges keeps whole x)) more.0)) more.1

  -- the join so far, of values and of whole maps
  pub record Gathered (entries whole : List X) (t : ℕ) : Type 0 where
    pub ascending_entries : IsAscending key entries
    pub ascending_whole : IsAscending key whole
    pub carried : AllByRecursion (λ x. key x < MAX_THETA) whole
    pub same : below key entries t ≡ below key whole t

  gather : (entries whole xs ys : List X) (t v : ℕ) → Gathered entries whole t → xs ≡ below key ys v → AllByRecursion (λ x. key x < MAX_THETA) ys → Gathered (joined key merges entries xs) (joined key merges whole ys) (min t v)
  gather entries whole xs ys t v so_far all_below carried = record {
    ascending_entries = ascending-joined key merges keeps xs entries so_far.ascending_entries;
    ascending_whole = ascending-joined key merges keeps ys whole so_far.ascending_whole;
    carried = each-joined (λ h. h < MAX_THETA) ys whole so_far.carried carried;
    same =
        let u : ℕ = min t v in
        let content : below key entries u ≡ below key whole u = sym (below-below key entries u t (omega arith)) ∙ ap (λ zs. below key zs u) so_far.same ∙ below-below key whole u t (omega arith) in
        let arriving : below key xs u ≡ below key ys u = ap (λ zs. below key zs u) all_below ∙ below-below key ys u v (omega arith) in
        below-joined key merges keeps xs entries u ∙ ap (λ zs. joined key merges zs (below key xs u)) content ∙ ap (λ zs. joined key merges (below key whole u) zs) arriving ∙ sym (below-joined key merges keeps ys whole u);
  }

  pub gathered : (values : List (Sketch X)) (wholes : List (List X)) (entries whole : List X) (t : ℕ) → AreSamples key values wholes → Gathered entries whole t →
      Gathered (joined_all key merges entries (map (λ u. u.entries) (nonempties values))) (joined_all key merges whole wholes) (least t (map (λ u. u.theta) (nonempties values)))
  gathered [] [] entries whole t samples so_far = so_far
  gathered [] (ys ∷ wholes) entries whole t samples so_far = absurd samples
  gathered (value ∷ values) [] entries whole t samples so_far = absurd samples
  gathered (Empty ∷ values) (ys ∷ wholes) entries whole t samples so_far =
      rw samples.0.all_below (gathered values wholes entries whole t samples.1 so_far)
  gathered (NonEmpty v ∷ values) (ys ∷ wholes) entries whole t samples so_far =
      gathered values wholes (joined key merges entries v.entries) (joined key merges whole ys) (min t v.theta) samples.1 (gather entries whole v.entries ys t v.theta so_far samples.0.all_below samples.0.carried)

  nothing_gathered : (t : ℕ) → Gathered [] [] t
  nothing_gathered t = record { ascending_entries = ascending-nil key; ascending_whole = ascending-nil key; carried = tt; same = refl }

  no_wholes : (values : List (Sketch X)) (wholes : List (List X)) (whole : List X) → AreSamples key values wholes → nonempties values ≡ [] → joined_all key merges whole wholes ≡ whole
  no_wholes [] [] whole samples none = refl
  no_wholes [] (ys ∷ wholes) whole samples none = absurd samples
  no_wholes (value ∷ values) [] whole samples none = absurd samples
  no_wholes (Empty ∷ values) (ys ∷ wholes) whole samples none = rw samples.0.all_below (no_wholes values wholes whole samples.1 none)
  no_wholes (NonEmpty v ∷ values) (ys ∷ wholes) whole samples none = absurd (cc)

  cut_gathered : (k t : ℕ) (entries whole : List X) → Gathered entries whole t → cut key k entries t ≡ cut key k whole t
  cut_gathered k t entries whole all =
      sym (cut_below key k entries t all.ascending_entries) ∙ ap (λ zs. cut key k zs t) all.same ∙ cut_below key k whole t all.ascending_whole

  united : (k start : ℕ) (vs : List (Retained X)) (whole : List X) → Gathered (joined_all key merges [] (map (λ u. u.entries) vs)) whole (least start (map (λ u. u.theta) vs)) → (vs ≡ [] → whole ≡ []) → IsAllBelow key (unite_nonempty key merges k start vs) whole
  united k start [] whole all none = none refl
  united k start (v ∷ vs) whole all none =
      rw (cut_gathered k (least start (map (λ u. u.theta) (v ∷ vs))) (joined_all key merges [] (map (λ u. u.entries) (v ∷ vs))) whole all)
      (ap (λ u. u.entries) (cut_is_below key k whole (least start (map (λ u. u.theta) (v ∷ vs)))))

  -- for unions
  pub union_samples : (k start : ℕ) (values : List (Sketch X)) (wholes : List (List X)) → AreSamples key values wholes → IsSample key (unite key merges k start values) (joined_all key merges [] wholes)
  union_samples k start values wholes samples =
      let all : Gathered (joined_all key merges [] (map (λ u. u.entries) (nonempties values))) (joined_all key merges [] wholes) (least start (map (λ u. u.theta) (nonempties values))) = gathered values wholes [] [] start samples (nothing_gathered start) in
      record { ascending = all.ascending_whole; carried = all.carried; all_below = united k start (nonempties values) (joined_all key merges [] wholes) all (no_wholes values wholes [] samples) }

  -- a lawful theta stays lawful among more keys
  lawful-more : (k start t : ℕ) (xs ys : List X) → Extends key xs ys → IsLawful key xs k start t → IsLawful key ys k start t
  lawful-more k start t xs ys more (inl e) = inl e
  lawful-more k start t xs ys more (inr low) = inr (record { below_start = low.below_start; is_key = more.has t low.is_key; ranked = omega (arith, low.ranked, more.ranks t) })

  lawful_step : (k start t v : ℕ) (whole ys : List X) → IsAscending key whole → IsAscending key ys → IsLawful key whole k start t → IsLawful key ys k start v → IsLawful key (joined key merges whole ys) k start (min t v)
  lawful_step k start t v whole ys up upy old new =
      elim (cases_lt v t) [
        | inl lt ↦ let same : min t v ≡ v = omega arith in rw same (lawful-more k start v ys (joined key merges whole ys) (joined-extends_right key merges keeps ys whole upy up) new)
        | inr le ↦ let same : min t v ≡ t = omega arith in rw same (lawful-more k start t whole (joined key merges whole ys) (joined-extends key merges keeps ys whole up) old)
      ]

  lawful_seen : (k start : ℕ) (values : List (Sketch X)) (wholes : List (List X)) (whole : List X) (t : ℕ) → AreSamples key values wholes → AreLawful key k start values wholes → IsAscending key whole → IsLawful key whole k start t → IsLawful key (joined_all key merges whole wholes) k start (least t (map (λ u. u.theta) (nonempties values)))
  lawful_seen k start [] [] whole t samples laws up seen = seen
  lawful_seen k start [] (ys ∷ wholes) whole t samples laws up seen = absurd samples
  lawful_seen k start (value ∷ values) [] whole t samples laws up seen = absurd samples
  lawful_seen k start (Empty ∷ values) (ys ∷ wholes) whole t samples laws up seen = rw samples.0.all_below (lawful_seen k start values wholes whole t samples.1 laws.1 up seen)
  lawful_seen k start (NonEmpty v ∷ values) (ys ∷ wholes) whole t samples laws up seen =
      lawful_seen k start values wholes (joined key merges whole ys) (min t v.theta) samples.1 laws.1 (ascending-joined key merges keeps ys whole up) (lawful_step k start t v.theta whole ys up samples.0.ascending seen laws.0)

  -- nothing is merged before the first value that is not empty
  lawful_first : (k start : ℕ) (values : List (Sketch X)) (wholes : List (List X)) (t : ℕ) → AreSamples key values wholes → AreLawful key k start values wholes → start ≤ t → nonempties values ≢ [] → IsLawful key (joined_all key merges [] wholes) k start (least t (map (λ u. u.theta) (nonempties values)))
  lawful_first k start [] [] t samples laws le some = absurd (some refl)
  lawful_first k start [] (ys ∷ wholes) t samples laws le some = absurd samples
  lawful_first k start (value ∷ values) [] t samples laws le some = absurd samples
  lawful_first k start (Empty ∷ values) (ys ∷ wholes) t samples laws le some = rw samples.0.all_below (lawful_first k start values wholes t samples.1 laws.1 le some)
  lawful_first k start (NonEmpty v ∷ values) (ys ∷ wholes) t samples laws le some =
      let low : v.theta ≤ start = lawful-le key ys k start v.theta laws.0 in
      let same : min t v.theta ≡ v.theta = omega arith in
      let up_nil : IsAscending key [] = ascending-nil key in
      lawful_seen k start values wholes (joined key merges [] ys) (min t v.theta) samples.1 laws.1 (ascending-joined key merges keeps ys [] up_nil)
      (rw same (lawful-more k start v.theta ys (joined key merges [] ys) (joined-extends_right key merges keeps ys [] samples.0.ascending up_nil) laws.0))

  united_some : (k start : ℕ) (vs : List (Retained X)) → vs ≢ [] → unite_nonempty key merges k start vs ≡ NonEmpty (cut key k (joined_all key merges [] (map (λ u. u.entries) vs)) (least start (map (λ u. u.theta) vs)))
  united_some k start [] some = absurd (some refl)
  united_some k start (v ∷ vs) some = refl

  -- a union of lawful parts is the cut of the whole map at the start
  pub union_lawful : (k start from : ℕ) (values : List (Sketch X)) (wholes : List (List X)) → start ≤ from → AreSamples key values wholes → AreLawful key k start values wholes → nonempties values ≢ [] → unite key merges k from values ≡ NonEmpty (cut key k (joined_all key merges [] wholes) start)
  union_lawful k start from values wholes le samples laws some =
      let m : ℕ = least from (map (λ u. u.theta) (nonempties values)) in
      let all : Gathered (joined_all key merges [] (map (λ u. u.entries) (nonempties values))) (joined_all key merges [] wholes) m = gathered values wholes [] [] from samples (nothing_gathered from) in
      let lawful : IsLawful key (joined_all key merges [] wholes) k start m = lawful_first k start values wholes from samples laws le some in
      united_some k from (nonempties values) some
      ∙ ap NonEmpty (cut_gathered k m _ _ all ∙ cut_lawful key (joined_all key merges [] wholes) k start m all.ascending_whole lawful)

  -- a theta that is lawful below a lawful one, for no smaller k, is lawful
  lawful_under : (xs : List X) (k own start m theta : ℕ) → k ≤ own → IsLawful key xs k start m → IsLawful key xs own m theta → IsLawful key xs k start theta
  lawful_under xs k own start m theta le law (inl e) = subst (λ (t : ℕ). IsLawful key xs k start t) (sym e) law
  lawful_under xs k own start m theta le law (inr low) = inr (record { below_start = omega (arith, low.below_start, lawful-le key xs k start m law); is_key = low.is_key; ranked = omega (arith, low.ranked, le) })

  -- and its theta is lawful, also if it keeps more than the k that its parts are lawful for
  pub union_stays_lawful : (k own start from : ℕ) (values : List (Sketch X)) (wholes : List (List X)) → k ≤ own → start ≤ from → AreSamples key values wholes → AreLawful key k start values wholes → IsLawfulValue key k start (unite key merges own from values) (joined_all key merges [] wholes)
  union_stays_lawful k own start from values wholes more le samples laws =
      (elim (nonempties values) as (λ ns. nonempties values ≡ ns → IsLawfulValue key k start (unite_nonempty key merges own from ns) (joined_all key merges [] wholes)) [
        | [] ↦ λ e. tt
        | v ∷ vs ↦ λ e.
            let some : nonempties values ≢ [] = λ none. absurd (cc) in
            let whole = joined_all key merges [] wholes in
            let m : ℕ = least from (map (λ u. u.theta) (nonempties values)) in
            let all : Gathered (joined_all key merges [] (map (λ u. u.entries) (nonempties values))) whole m = gathered values wholes [] [] from samples (nothing_gathered from) in
            let law : IsLawful key whole k start m = lawful_first k start values wholes from samples laws le some in
            let is : unite_nonempty key merges own from (v ∷ vs) ≡ NonEmpty (cut key own whole m) = ap (unite_nonempty key merges own from) (sym e) ∙ united_some own from (nonempties values) some ∙ ap NonEmpty (cut_gathered own m _ _ all) in
            subst (λ value. IsLawfulValue key k start value whole) (sym is) (lawful_under whole k own start m _ more law (within-cut key own m m whole all.ascending_whole (inl refl)).lawful)
      ]) refl

  none_common : (wholes : List (List X)) → common_all key merges [] wholes ≡ []
  none_common [] = refl
  none_common (ys ∷ wholes) = none_common wholes

  -- the common part of two values is the common part of their whole maps, below the lesser theta
  shared_below : (u v : Retained X) (ws ys : List X) → IsSample key (NonEmpty u) ws → IsSample key (NonEmpty v) ys → (shared key merges u v).entries ≡ below key (common key merges ws ys) (min u.theta v.theta)
  shared_below u v ws ys su sv =
      ap (λ zs. below key (common key merges zs v.entries) (min u.theta v.theta)) su.all_below
      ∙ ap (λ zs. below key (common key merges (below key ws u.theta) zs) (min u.theta v.theta)) sv.all_below
      ∙ below-common key merges keeps ws ys u.theta v.theta (min u.theta v.theta) su.ascending (omega arith) (omega arith)

  -- one more value: Empty only if the whole maps share nothing
  disjoint_none : (u v : Retained X) (ws ys : List X) → IsSample key (NonEmpty u) ws → IsSample key (NonEmpty v) ys → is_disjoint key merges u v ≡ true → common key merges ws ys ≡ []
  disjoint_none u v ws ys su sv e =
      let t : ℕ = min u.theta v.theta in
      let most : t ≡ MAX_THETA = grind (arith, nat_tests) in
      let none : eqb (length (shared key merges u v).entries) 0 ≡ true = last_of (eqb t MAX_THETA) (not (eqb (length u.entries) 0)) (not (eqb (length v.entries) 0)) _ e in
      let all : AllByRecursion (λ x. key x < t) (common key merges ws ys) = each-common key merges keeps (λ h. h < t) ws ys (each-weaker _ _ (λ x lt. omega (arith, lt, most)) ws su.carried) in
      sym (below_all key (common key merges ws ys) t all) ∙ sym (shared_below u v ws ys su sv) ∙ none_left (shared key merges u v).entries none

  -- for intersections
  meet_from_samples : (values : List (Sketch X)) (wholes : List (List X)) (u : Retained X) (whole : List X) → AreSamples key values wholes → IsSample key (NonEmpty u) whole → IsAllBelow key (meet_from key merges u values) (common_all key merges whole wholes)
  meet_from_samples [] [] u whole samples first = first.all_below
  meet_from_samples [] (ys ∷ wholes) u whole samples first = absurd samples
  meet_from_samples (value ∷ values) [] u whole samples first = absurd samples
  meet_from_samples (Empty ∷ values) (ys ∷ wholes) u whole samples first = rw (samples.0.all_below, common-nil key merges keeps whole) (none_common wholes)
  meet_from_samples (NonEmpty v ∷ values) (ys ∷ wholes) u whole samples first =
      (elim (is_disjoint key merges u v) as (λ b. is_disjoint key merges u v ≡ b → IsAllBelow key (cond b Empty (meet_from key merges (shared key merges u v) values)) (common_all key merges (common key merges whole ys) wholes)) [
        | true ↦ λ e. rw (disjoint_none u v whole ys first samples.0 e) (none_common wholes)
        | false ↦ λ e. meet_from_samples values wholes (shared key merges u v) (common key merges whole ys) samples.1 (record {
          ascending = ascending-common key merges keeps whole ys first.ascending;
          carried = each-common key merges keeps (λ h. h < MAX_THETA) whole ys first.carried;
          all_below = shared_below u v whole ys first samples.0;
        })
      ]) refl

  -- the common keys of whole maps ascend and are carried
  common_all-good : (wholes : List (List X)) (whole : List X) → IsAscending key whole → AllByRecursion (λ x. key x < MAX_THETA) whole → IsAscending key (common_all key merges whole wholes) × AllByRecursion (λ x. key x < MAX_THETA) (common_all key merges whole wholes)
  common_all-good [] whole up carried = (up, carried)
  common_all-good (ys ∷ wholes) whole up carried = common_all-good wholes (common key merges whole ys) (ascending-common key merges keeps whole ys up) (each-common key merges keeps (λ h. h < MAX_THETA) whole ys carried)

  meet_samples_below : (first : Sketch X) (values : List (Sketch X)) (whole : List X) (wholes : List (List X)) → IsSample key first whole → AreSamples key values wholes → IsAllBelow key (meet key merges (first ∷ values)) (common_all key merges whole wholes)
  meet_samples_below Empty values whole wholes sample samples = rw sample.all_below (none_common wholes)
  meet_samples_below (NonEmpty v) values whole wholes sample samples = meet_from_samples values wholes v whole samples sample

  -- the meet of samples is a sample of the common part of their whole maps
  pub meet_samples : (first : Sketch X) (values : List (Sketch X)) (whole : List X) (wholes : List (List X)) → IsSample key first whole → AreSamples key values wholes → IsSample key (meet key merges (first ∷ values)) (common_all key merges whole wholes)
  meet_samples first values whole wholes sample samples =
      let good = common_all-good wholes whole sample.ascending sample.carried in
      record { ascending = good.0; carried = good.1; all_below = meet_samples_below first values whole wholes sample samples }

module _ {X : Type 0} (key : X → ℕ) where
  -- a larger k is as good
  pub lawful_less : (k more start : ℕ) (value : Sketch X) (whole : List X) → k ≤ more → IsLawfulValue key more start value whole → IsLawfulValue key k start value whole
  lawful_less k more start Empty whole le law = tt
  lawful_less k more start (NonEmpty v) whole le (inl e) = inl e
  lawful_less k more start (NonEmpty v) whole le (inr low) = inr (record { below_start = low.below_start; is_key = low.is_key; ranked = omega (arith, low.ranked, le) })

module _ {X Y : Type 0} (key : X → ℕ) (other : Y → ℕ) where
  -- for differences
  minus_below : (a : Sketch X) (b : Sketch Y) (ws : List X) (ys : List Y) → IsSample key a ws → IsSample other b ys → IsAllBelow key (minus key other a b) (lacking key other ws ys)
  minus_below Empty b ws ys sa sb = rw sa.all_below refl
  minus_below (NonEmpty a) Empty ws ys sa sb = rw (sb.all_below, lacking-nil key other ws) sa.all_below
  minus_below (NonEmpty a) (NonEmpty b) ws ys sa sb =
      let t : ℕ = min a.theta b.theta in
      let kept : List X = below key (lacking key other a.entries b.entries) t in
      let same : kept ≡ below key (lacking key other ws ys) t =
      ap (λ zs. below key (lacking key other zs b.entries) t) sa.all_below ∙ ap (λ zs. below key (lacking key other (below key ws a.theta) zs) t) sb.all_below
      ∙ below-lacking key other ws ys a.theta b.theta t (omega arith) (omega arith) in
      (elim (eqb (length kept) 0 && eqb t MAX_THETA) as (λ c. (eqb (length kept) 0 && eqb t MAX_THETA) ≡ c → IsAllBelow key (cond c Empty (NonEmpty (record { entries = kept; theta = t }))) (lacking key other ws ys)) [
        | true ↦ λ e.
            let most : t ≡ MAX_THETA = grind (arith, nat_tests) in
            let none : eqb (length kept) 0 ≡ true = grind (arith, nat_tests) in
            let all : AllByRecursion (λ x. key x < t) (lacking key other ws ys) = each-filter _ _ ws (each-weaker _ _ (λ x lt. omega (arith, lt, most)) ws sa.carried) in
            sym (below_all key (lacking key other ws ys) t all) ∙ sym same ∙ none_left kept none
        | false ↦ λ e. same
      ]) refl

  -- the difference of samples is a sample of the difference of their whole maps
  pub minus_samples : (a : Sketch X) (b : Sketch Y) (ws : List X) (ys : List Y) → IsSample key a ws → IsSample other b ys → IsSample key (minus key other a b) (lacking key other ws ys)
  minus_samples a b ws ys sa sb = record { ascending = ascending-filter key _ ws sa.ascending; carried = each-filter _ _ ws sa.carried; all_below = minus_below a b ws ys sa sb }
