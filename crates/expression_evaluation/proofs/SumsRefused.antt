-- Merges of sums, and what is refused of them.
use Rattle.std.proofs.Common.{◌≡◌, ℕ, ◌<◌, ◌≤◌, ◌+◌, ◌^◌, true, false, cond, ltb, List, [], ◌∷◌, map, min, Option, Some, None, refl, sym, ap, subst, ◌∙◌, arith, inl, inr}
use Rattle.std.specs.Prelude.{is_none, MatchOption}
use Rattle.std.specs.Option.{option_map, option_map_or}
use Rattle.std.proofs.lemmas.Bool.{cases_lt}
use Rattle.std.proofs.lemmas.Bool.Decides.{nat_tests}
use Rattle.std.proofs.Math.Nat.{min-le_left, min-le_right}
use Rattle.sketch_base.specs.declared.error.ErrorKind.{ErrorKind}
use Rattle.core_laws.specs.Folds.{Fold, Value, fold_key, fold_merges}
use Rattle.core_laws.specs.Maps.{IsApart, below, entry_at, map_of}
use Rattle.core_laws.specs.Operators.{joined}
use Rattle.core_laws.specs.Shown.{Shown, shown_value}
use Rattle.core_laws.specs.Values.{Sketch, Empty, NonEmpty}
use Rattle.core_laws.proofs.cuts.WithinWholeMaps.{lawful-le}
use Rattle.core_laws.proofs.insertions.Unmarked.{fold_keeps}
use Rattle.core_laws.proofs.maps.ApartEntries.{apart-filter}
use Rattle.core_laws.proofs.maps.LookUps.{entry_at-below}
use Rattle.core_laws.proofs.maps.MappedEntries.{entry_at-map}
use Rattle.core_laws.proofs.maps.MapsOfLists.{entry_at-map_of}
use Rattle.core_laws.proofs.operators.JoinedMaps.{either, entry_at-joined}
use Rattle.core_operators.specs.Intersection.{Intersection, IsCutShort, content_of, intersect_refusal, is_settled}
use Rattle.core_operators.specs.Union.{Union, IsBroken, IsJoined, IsMergeRefused, update_refusal}
use Rattle.core_policies.specs.Summaries.{combine_refused, combined-keeps}
use Rattle.core_policies.specs.Summaries.{combined as combined_entry}
use Rattle.core_policies.specs.Sums.{unsigned_sum}
use Rattle.tuple_sketches.specs.Numbers.{combined_number}
use Rattle.tuple_sketches.specs.declared.numbers.SummaryMode.{SummaryMode}
use Rattle.tuple_sketches.specs.declared.numbers.SummaryMode.TheVariants.{Sum, Min, Max}
use Rattle.core_slots.specs.Entry.{tuple_key, with_summary}
use Rattle.core_slots.specs.declared.entry.TupleEntry.{TupleEntry}
use Rattle.expression_evaluation.specs.Values.{sum_merged, is_too_great, sum_rules}
use Rattle.expression_evaluation.specs.Running.{AreRefused, IsMergeError}
use Rattle.expression_evaluation.specs.Sums.{IsRefusedMeet, IsRefusedJoin, HasPartOf}

-- the sum of two numbers, if it is below 2^64
abbrev sums : ℕ → ℕ → Option ℕ
sums x y = unsigned_sum 64 x y

added : (x y : TupleEntry ℕ) → combine_refused sums x y ≡ false → combined_entry sums x y ≡ sum_merged Sum x y
added x y fits =
    (elim (ltb (x.summary + y.summary) (2 ^ 64)) as (λ b. is_none (cond b (Some (x.summary + y.summary)) None) ≡ false → option_map_or (with_summary x) (cond b (Some (x.summary + y.summary)) None) x ≡ sum_merged Sum x y) [
      | true ↦ λ e. refl
      | false ↦ λ e. absurd (cc)
    ]) fits

-- merged sums are sum_merged, if that isn't refused
pub agree : (mode : SummaryMode) (x y : TupleEntry ℕ) → combine_refused (combined_number mode) x y ≡ false → combined_entry (combined_number mode) x y ≡ sum_merged mode x y
agree Sum x y fits = added x y fits
agree Min x y fits = refl
agree Max x y fits = refl

added_too_great : (x y : TupleEntry ℕ) → combine_refused sums x y ≡ true → is_too_great Sum x y ≡ true
added_too_great x y refused =
    let s : ℕ = x.summary + y.summary in
    (elim (cases_lt s (2 ^ 64)) [
      | inl fits ↦ let below_it : ltb s (2 ^ 64) ≡ true = grind (arith, nat_tests) in
          let both : false ≡ true = ap (λ b. is_none (cond b (Some s) None)) (sym below_it) ∙ refused in absurd (cc)
      | inr high ↦ grind (arith, nat_tests)
    ])

too_great : (mode : SummaryMode) (x y : TupleEntry ℕ) → combine_refused (combined_number mode) x y ≡ true → is_too_great mode x y ≡ true
too_great Sum x y refused = added_too_great x y refused
too_great Min x y refused = absurd (cc)
too_great Max x y refused = absurd (cc)

module _ (mode : SummaryMode) where
  abbrev Refused : (content arriving : List (TupleEntry ℕ)) → Type 0
  Refused content arriving = IsMergeRefused tuple_key (combine_refused (combined_number mode)) content arriving

  -- a refused merge of a listing is one of its map
  refused_in_map : (content listing : List (TupleEntry ℕ)) → Refused content listing → IsMergeRefused tuple_key (is_too_great mode) content (map_of tuple_key listing)
  refused_in_map content listing r = record {
    at = r.at;
    held_entry = r.held_entry;
    new_entry = r.new_entry;
    is_held = r.is_held;
    comes = entry_at-map_of tuple_key listing r.at ∙ r.comes;
    refused = too_great mode r.held_entry r.new_entry r.refused;
  }

  value_shown : (s : Shown) (listing : List (TupleEntry ℕ)) → s.empty ≡ false → ◌≡◌ {A = Sketch (TupleEntry ℕ)} (shown_value tuple_key s listing) (NonEmpty (record { entries = map_of tuple_key listing; theta = s.theta }))
  value_shown s listing nonempty = ap (λ b. cond b Empty (NonEmpty (record { entries = map_of tuple_key listing; theta = s.theta }))) nonempty

  -- ---- intersections

  met_refused : (o : Option (Sketch (TupleEntry ℕ))) (listing : List (TupleEntry ℕ)) (theta : ℕ) → is_settled o ≡ false → Refused (below tuple_key (content_of o).entries (min (content_of o).theta theta)) listing →
      IsRefusedMeet mode o (NonEmpty (record { entries = map_of tuple_key listing; theta = theta }))
  met_refused None listing theta unsettled r = let none = r.is_held in absurd (cc)
  met_refused (Some Empty) listing theta unsettled r = absurd (cc)
  met_refused (Some (NonEmpty u)) listing theta unsettled r = refused_in_map (below tuple_key u.entries (min u.theta theta)) listing r

  -- why an intersection refuses a sketch of its seed
  pub refused_meet : {P : Type 0} (old : Intersection (TupleEntry ℕ) P) (s : Shown) (listing : List (TupleEntry ℕ)) (e : ErrorKind) → intersect_refusal old s ≡ None →
      MatchOption (intersect_refusal old s) (IsCutShort tuple_key (combine_refused (combined_number mode)) old.result s listing e) (λ kind. e ≡ kind) → (v : Sketch (TupleEntry ℕ)) → shown_value tuple_key s listing ≡ v → IsMergeError (IsRefusedMeet mode old.result v) e
  refused_meet old s listing e none why v is =
      let short : IsCutShort tuple_key (combine_refused (combined_number mode)) old.result s listing e = subst (λ o. MatchOption o (IsCutShort tuple_key (combine_refused (combined_number mode)) old.result s listing e) (λ kind. e ≡ kind)) none why in
      (elim short.why [
        | inl memory ↦ inl memory
        | inr refused ↦ inr (refused.0, subst (λ w. IsRefusedMeet mode old.result w) (sym (value_shown s listing short.nonempty) ∙ is) (met_refused old.result listing s.theta short.unsettled refused.1))
      ])

  -- ---- unions

  -- why a union refuses a sketch of its seed
  pub refused_join : {P : Type 0} (old new : Union (TupleEntry ℕ) P) (s : Shown) (listing : List (TupleEntry ℕ)) (e : ErrorKind) → update_refusal old s ≡ None →
      MatchOption (update_refusal old s) (IsBroken tuple_key (combine_refused (combined_number mode)) old new s listing e) (λ kind. (e ≡ kind) × (new ≡ old)) → (v : Sketch (TupleEntry ℕ)) → shown_value tuple_key s listing ≡ v → IsMergeError (IsRefusedJoin mode old v) e
  refused_join old new s listing e none why v is =
      let broken : IsBroken tuple_key (combine_refused (combined_number mode)) old new s listing e = subst (λ o. MatchOption o (IsBroken tuple_key (combine_refused (combined_number mode)) old new s listing e) (λ kind. (e ≡ kind) × (new ≡ old))) none why in
      (elim broken.why [
        | inl memory ↦ inl memory
        | inr refused ↦ inr (refused.0, subst (λ w. IsRefusedJoin mode old w) (sym (value_shown s listing broken.nonempty) ∙ is) (refused_in_map (below tuple_key old.content.entries (min old.content.theta s.theta)) listing refused.1))
      ])

  found_below : (xs : List (TupleEntry ℕ)) (t q : ℕ) (x : TupleEntry ℕ) → entry_at tuple_key (below tuple_key xs t) q ≡ Some x → (entry_at tuple_key xs q ≡ Some x) × (ltb q t ≡ true)
  found_below xs t q x found =
      let found_in : cond (ltb q t) (entry_at tuple_key xs q) None ≡ Some x = sym (entry_at-below tuple_key xs t q) ∙ found in
      (elim (ltb q t) as (λ b. ltb q t ≡ b → cond b (entry_at tuple_key xs q) None ≡ Some x → (entry_at tuple_key xs q ≡ Some x) × (ltb q t ≡ true)) [ true ↦ λ e f. (f, e) | false ↦ λ e f. absurd (cc) ]) refl found_in

  lesser_bound : (q c a b : ℕ) → c ≤ a → ltb q (min c b) ≡ true → ltb q (min a b) ≡ true
  lesser_bound q c a b le lt =
      let inside : q < min c b = grind (arith, nat_tests) in
      let left : min c b ≤ c = min-le_left c b in
      let right : min c b ≤ b = min-le_right c b in
      let more : q < min a b = omega (arith, inside, left, right, le) in
      grind (arith, nat_tests)

  -- a merge that a union with entries of a value refuses is one of that value
  pub refused_part : {P : Type 0} (u : Union (TupleEntry ℕ) P) (a b : Sketch (TupleEntry ℕ)) → HasPartOf u a → IsRefusedJoin mode u b → AreRefused (sum_rules mode) a b
  refused_part u Empty Empty part r = absurd r
  refused_part u (NonEmpty a) Empty part r = absurd r
  refused_part u Empty (NonEmpty b) part r =
      let none : ◌≡◌ {A = Option (TupleEntry ℕ)} None (Some r.held_entry) = sym (ap (λ xs. entry_at tuple_key (below tuple_key xs (min u.content.theta b.theta)) r.at) part) ∙ r.is_held in absurd (cc)
  refused_part u (NonEmpty a) (NonEmpty b) part r =
      let found = found_below u.content.entries (min u.content.theta b.theta) r.at r.held_entry r.is_held in
      let inside : ltb r.at (min a.theta b.theta) ≡ true = lesser_bound r.at u.content.theta a.theta b.theta part.0 found.1 in
      record {
        at = r.at;
        held_entry = r.held_entry;
        new_entry = r.new_entry;
        is_held = entry_at-below tuple_key a.entries (min a.theta b.theta) r.at ∙ ap (λ t. cond t (entry_at tuple_key a.entries r.at) None) inside ∙ part.1 r.at r.held_entry found.0;
        comes = r.comes;
        refused = r.refused;
      }

  -- and a new union refuses none
  pub refused_none : {P : Type 0} (u : Union (TupleEntry ℕ) P) (b : Sketch (TupleEntry ℕ)) → u.content.entries ≡ [] → IsRefusedJoin mode u b → ⊥
  refused_none u b none r = refused_part u Empty b none r

  abbrev fk : Fold (TupleEntry ℕ) → ℕ
  fk = fold_key tuple_key

  abbrev fm : Fold (TupleEntry ℕ) → Fold (TupleEntry ℕ) → Fold (TupleEntry ℕ)
  fm = fold_merges tuple_key (combined_entry (combined_number mode)) (combine_refused (combined_number mode))

  apart_values : (xs : List (TupleEntry ℕ)) → IsApart tuple_key xs → IsApart fk (map Value xs)
  apart_values [] apart = tt
  apart_values (x ∷ xs) apart = (entry_at-map Value tuple_key fk (λ y. refl) xs (tuple_key x) ∙ ap (λ o. option_map Value o) apart.0, apart_values xs apart.1)

  either_none : (o : Option (Fold (TupleEntry ℕ))) → either fm None o ≡ o
  either_none None = refl
  either_none (Some x) = refl

  value_same : (o : Option (TupleEntry ℕ)) (x : TupleEntry ℕ) → option_map Value o ≡ Some (Value x) → o ≡ Some x
  value_same None x e = absurd (cc)
  value_same (Some y) x e = cc

  -- an entry of the joined folds of nothing and a listing, below a theta
  joined_entry : (listing : List (TupleEntry ℕ)) (m t q : ℕ) (x : TupleEntry ℕ) → IsApart tuple_key listing → entry_at fk (below fk (joined fk fm [] (map Value (below tuple_key listing m))) t) q ≡ Some (Value x) → entry_at tuple_key listing q ≡ Some x
  joined_entry listing m t q x apart found =
      let low = below tuple_key listing m in
      let whole = joined fk fm [] (map Value low) in
      let all : cond (ltb q t) (entry_at fk whole q) None ≡ Some (Value x) = sym (entry_at-below fk whole t q) ∙ found in
      let there : entry_at fk whole q ≡ Some (Value x) = (elim (ltb q t) as (λ b. cond b (entry_at fk whole q) None ≡ Some (Value x) → entry_at fk whole q ≡ Some (Value x)) [ true ↦ λ e. e | false ↦ λ e. absurd (cc) ]) all in
      let keep = fold_keeps tuple_key (combined_entry (combined_number mode)) (combine_refused (combined_number mode)) (combined-keeps (combined_number mode)) in
      let mapped : entry_at fk whole q ≡ option_map Value (entry_at tuple_key low q) =
      entry_at-joined fk fm keep (map Value low) [] q (apart_values low (apart-filter tuple_key (λ e. ltb (tuple_key e) m) listing apart)) ∙ either_none (entry_at fk (map Value low) q) ∙ entry_at-map Value tuple_key fk (λ y. refl) low q in
      (found_below listing m q x (value_same (entry_at tuple_key low q) x (sym mapped ∙ there))).0

  -- a union that had no entries has entries of the sketch that it united
  module _ {P : Type 0} (old new : Union (TupleEntry ℕ) P) (s : Shown) (listing : List (TupleEntry ℕ)) (apart : IsApart tuple_key listing) (none : old.content.entries ≡ []) where
    part_joined : IsJoined tuple_key (combined_entry (combined_number mode)) (combine_refused (combined_number mode)) old new s.theta listing → HasPartOf new (NonEmpty (record { entries = map_of tuple_key listing; theta = s.theta }))
    part_joined joins =
        let m : ℕ = min old.content.theta s.theta in
        let t : ℕ = new.content.theta in
        let start : List (Fold (TupleEntry ℕ)) = map Value (below tuple_key old.content.entries m) in
        let nothing : start ≡ [] = ap (λ xs. map Value (below tuple_key xs m)) none in
        let low : t ≤ m = lawful-le fk (joined fk fm start (map Value (below tuple_key listing m))) (2 ^ old.lg_k) m t joins.whole.lawful in
        let right : m ≤ s.theta = min-le_right old.content.theta s.theta in
        let high : t ≤ s.theta = omega (arith, low, right) in (
          high,
          λ q x found. entry_at-map_of tuple_key listing q
              ∙ joined_entry listing m t q x apart
              (ap (λ ys. entry_at fk (below fk (joined fk fm ys (map Value (below tuple_key listing m))) t) q) (sym nothing)
              ∙ ap (λ ys. entry_at fk ys q) (sym joins.whole.entries_are)
              ∙ entry_at-map Value tuple_key fk (λ y. refl) new.content.entries q
              ∙ ap (λ o. option_map Value o) found),
        )

    pub has_part : (s.empty ≡ true → new ≡ old) → (s.empty ≡ false → IsJoined tuple_key (combined_entry (combined_number mode)) (combine_refused (combined_number mode)) old new s.theta listing) → (v : Sketch (TupleEntry ℕ)) → shown_value tuple_key s listing ≡ v → HasPartOf new v
    has_part skipped joins v is =
        subst (λ w. HasPartOf new w) is
        ((elim s.empty as (λ b. s.empty ≡ b → HasPartOf new (cond b Empty (NonEmpty (record { entries = map_of tuple_key listing; theta = s.theta })))) [
          | true ↦ λ e. ap (λ u. u.content.entries) (skipped e) ∙ none
          | false ↦ λ e. part_joined (joins e)
        ]) refl)
