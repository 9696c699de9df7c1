-- Sketches and unions against the whole map of what they were given.
use Rattle.std.proofs.Common.{◌≡◌, ℕ, ◌<◌, ◌≤◌, ◌≢◌, ◌^◌, Bool, true, false, cond, eqb, List, [], ◌∷◌, Some, None, inl, inr, refl, sym, ap, ◌∙◌, subst, arith}
use Rattle.std.specs.Prelude.{◌&&◌, nat_le, MatchOption}
use Rattle.std.specs.List.{AllByRecursion}
use Rattle.std.specs.Option.{option_map_or}
use Rattle.std.proofs.lemmas.Bool.Decides.{nat_tests}
use Rattle.sketch_base.specs.declared.error.ErrorKind.{ErrorKind}
use Rattle.sketch_base.specs.declared.error.ErrorKind.TheVariants.{InvalidArgument}
use Rattle.core_laws.specs.declared.TheConstants.{MAX_THETA}
use Rattle.core_laws.specs.Cuts.{Retained, cut, none_below}
use Rattle.core_compact.specs.CompactState.{Compact, IsAnswer, shown_of, compact_value}
use Rattle.core_laws.specs.Entries.{KeepsKey, is_carried}
use Rattle.core_laws.specs.Insertion.{whole_upsert, after_upsert, is_screened}
use Rattle.core_laws.specs.Lawful.{IsLawful, IsWithin}
use Rattle.core_laws.specs.Leaf.{KeepsHashes, whole_step}
use Rattle.core_laws.specs.declared.leaf.LeafStep.TheVariants.{Add}
use Rattle.core_laws.specs.Maps.{IsAscending, below, entry_at, with_entry}
use Rattle.core_laws.specs.Operators.{joined, joined_all, unite, meet}
use Rattle.core_laws.specs.Samples.{IsAllBelow, IsSample, IsLawfulValue, AreSamples, AreLawful}
use Rattle.core_laws.specs.Settings.{settings_refusal}
use Rattle.core_laws.specs.Shown.{Shown, shown_value}
use Rattle.core_laws.specs.Step.{Step}
use Rattle.core_laws.specs.Values.{Sketch, Empty, NonEmpty, cut_value}
use Rattle.core_operators.specs.Union.{Union, empty_union, union_value, lowered, update_refusal, update_all_refusal, IsBroken, IsAllBroken, IsUpdateError, IsUpdateAllError}
use Rattle.core_state.specs.Updatable.{Updatable, sketch_value}
use Rattle.core_state.specs.View.{shows, sequence}
use Rattle.core_state.specs.declared.view.SketchView.{SketchView}
use Rattle.core_table.specs.HashTable.{MapTable, empty_table, after_insertion, after_reset, trimmed_table}
use Rattle.core_laws.proofs.maps.Ascending.{ascending-nil, ascending-filter, each-with_entry}
use Rattle.core_laws.proofs.maps.LookUps.{entry_at-with_entry}
use Rattle.core_laws.proofs.cuts.Cuts.{cut_few, cut_is_below}
use Rattle.core_laws.proofs.cuts.LawfulThetas.{cut_lawful}
use Rattle.core_laws.proofs.cuts.WithinWholeMaps.{within-cut, within-upsert, cut_below, cut_of_cut, lawful-le, found_key}
use Rattle.core_laws.proofs.insertions.Cases.{screened_case}
use Rattle.core_laws.proofs.operators.JoinedMaps.{joined-nil}
use Rattle.core_laws.proofs.operators.Samples.{union_samples, union_stays_lawful, lawful_less}
use Rattle.core_laws.proofs.operators.Unions.{cut_of_union}
use Rattle.core_streams.specs.WholeMaps.{IsPart, IsSketchOfMap, IsUnionOfMap}

-- settings that are accepted
accepted : (c : Bool) → cond c None (Some InvalidArgument) ≡ None → c ≡ true
accepted true e = refl
accepted false e = absurd (cc)

pub and_left : (a b : Bool) → (a && b) ≡ true → a ≡ true
and_left true b e = refl
and_left false b e = cc

pub and_right : (a b : Bool) → (a && b) ≡ true → b ≡ true
and_right true b e = e
and_right false b e = absurd (cc)

at_most : (a b : ℕ) → nat_le a b ≡ true → a ≤ b
at_most a b e = grind (arith, nat_tests)

pub start_fits : (lg_k start seed : ℕ) → settings_refusal lg_k start seed ≡ None → start ≤ MAX_THETA
start_fits lg_k start seed fits = at_most start MAX_THETA (and_right _ _ (and_left _ _ (accepted _ fits)))

module _ {X : Type 0} (key : X → ℕ) where
  -- a theta that is lawful below a lawful one, for no smaller k, is lawful
  lawful_under : (xs : List X) (k own start m theta : ℕ) → k ≤ own → IsLawful key xs k start m → IsLawful key xs own m theta → IsLawful key xs k start theta
  lawful_under xs k own start m theta le law (inl e) = subst (λ (t : ℕ). IsLawful key xs k start t) (sym e) law
  lawful_under xs k own start m theta le law (inr low) = inr (record { below_start = omega (arith, low.below_start, lawful-le key xs k start m law); is_key = low.is_key; ranked = omega (arith, low.ranked, le) })

  -- a part for some k is one for fewer
  pub fewer-part : (k more start : ℕ) (value : Sketch X) (w : List X) → k ≤ more → IsPart key more start value w → IsPart key k start value w
  fewer-part k more start value w le is = record { sample = is.sample; lawful = lawful_less key k more start value w le is.lawful }

  -- a cut of a sample is a sample, and one of a part a part for no more than it has
  cut-is : (own : ℕ) (v : Retained X) (w : List X) → IsSample key (NonEmpty v) w → cut key own v.entries v.theta ≡ cut key own w v.theta
  cut-is own v w is = ap (λ xs. cut key own xs v.theta) is.all_below ∙ cut_below key own w v.theta is.ascending

  pub cut-sample : (own : ℕ) (value : Sketch X) (w : List X) → IsSample key value w → IsSample key (cut_value key own value) w
  cut-sample own Empty w is = is
  cut-sample own (NonEmpty v) w is = rw (cut-is own v w is) (record { ascending = is.ascending; carried = is.carried; all_below = ap (λ u. u.entries) (cut_is_below key own w v.theta) })

  pub cut-part : (k own start : ℕ) (value : Sketch X) (w : List X) → k ≤ own → IsPart key k start value w → IsPart key k start (cut_value key own value) w
  cut-part k own start Empty w le is = is
  cut-part k own start (NonEmpty v) w le is = record {
    sample = cut-sample own (NonEmpty v) w is.sample;
    lawful = rw (cut-is own v w is.sample) (lawful_under w k own start v.theta _ le is.lawful (within-cut key own v.theta v.theta w is.sample.ascending (inl refl)).lawful);
  }

  -- a cut of a part has no more to cut
  pub cut-again : (k own start : ℕ) (value : Sketch X) (w : List X) → IsPart key k start value w → cut_value key own (cut_value key own value) ≡ cut_value key own value
  cut-again k own start Empty w is = refl
  cut-again k own start (NonEmpty v) w is =
      let up : IsAscending key v.entries = rw is.sample.all_below (ascending-filter key _ w is.sample.ascending) in
      ap NonEmpty (cut_of_cut key own own v.entries v.theta (omega arith) up)

  -- a part that isn't Empty and has no more than k entries has the k least
  pub least-part : (k start : ℕ) (value : Sketch X) (w : List X) → cut_value key k value ≡ value → IsPart key k start value w → value ≢ Empty → value ≡ NonEmpty (cut key k w start)
  least-part k start Empty w same is some = absurd (some refl)
  least-part k start (NonEmpty v) w same is some =
      sym same
      ∙ ap NonEmpty (
      ap (λ xs. cut key k xs v.theta) is.sample.all_below
      ∙ cut_below key k w v.theta is.sample.ascending
      ∙ cut_lawful key w k start v.theta is.sample.ascending is.lawful)

  -- and if the start is the greatest, also a part that is Empty
  abbrev pub retained_in : Sketch X → Retained X
  retained_in Empty = none_below MAX_THETA
  retained_in (NonEmpty v) = v

  pub kmin-part : (k : ℕ) (value : Sketch X) (w : List X) → cut_value key k value ≡ value → IsPart key k MAX_THETA value w → retained_in value ≡ cut key k w MAX_THETA
  kmin-part k Empty w same is = rw is.sample.all_below (sym (cut_few key k [] MAX_THETA (ascending-nil key) (omega arith)))
  kmin-part k (NonEmpty v) w same is =
      sym (ap retained_in same)
      ∙ ap (λ xs. cut key k xs v.theta) is.sample.all_below
      ∙ cut_below key k w v.theta is.sample.ascending
      ∙ cut_lawful key w k MAX_THETA v.theta is.sample.ascending is.lawful

  -- what an ordered result retains is what its value retains
  pub answer-retained : (value : Sketch X) (h : ℕ) (requested : Bool) (s : Compact X) → IsAnswer key value h requested s → requested ≡ true → record { entries = s.entries; theta = s.theta } ≡ retained_in value
  answer-retained Empty h requested s answer ordered = ap (λ c. record { entries = c.entries; theta = c.theta }) answer
  answer-retained (NonEmpty v) h requested s answer ordered =
      let listed : s.ordered ≡ true = answer.ordered_if ∙ rw ordered refl in
      let in_order : s.entries ≡ v.entries = answer.in_order listed in
      λ i. record { entries = in_order i; theta = answer.same_theta i }

  -- a value that samples a whole map retains what is below its theta
  pub retained-below : (value : Sketch X) (w : List X) → IsSample key value w → (retained_in value).entries ≡ below key w (retained_in value).theta
  retained-below Empty w is = ap (λ xs. below key xs MAX_THETA) (sym is.all_below)
  retained-below (NonEmpty v) w is = is.all_below

  -- the intersection of one value
  pub meet-one : (merges : X → X → X) (v : Sketch X) → meet key merges (v ∷ []) ≡ v
  meet-one merges Empty = refl
  meet-one merges (NonEmpty u) = refl

  -- a sketch or a union is empty just if its value is Empty
  pub value-empty : (s : Updatable X) → s.empty ≡ true → sketch_value s ≡ Empty
  value-empty s e = ap (λ b. cond b Empty (NonEmpty s.map.kept)) e

  pub empty-value : (s : Updatable X) → sketch_value s ≡ Empty → s.empty ≡ true
  empty-value s = elim s.empty as (λ b. cond b Empty (NonEmpty s.map.kept) ≡ Empty → b ≡ true) [ true ↦ λ e. refl | false ↦ λ e. absurd (cc) ]

  pub empty-union : {P : Type 0} (u : Union X P) → union_value key u ≡ Empty → u.empty ≡ true
  empty-union u = elim u.empty as (λ b. cond b Empty (NonEmpty (cut key (2 ^ u.lg_k) u.content.entries u.content.theta)) ≡ Empty → b ≡ true) [ true ↦ λ e. refl | false ↦ λ e. absurd (cc) ]

  pub cut-empty : (k : ℕ) (value : Sketch X) → cut_value key k value ≡ Empty → value ≡ Empty
  cut-empty k Empty e = refl
  cut-empty k (NonEmpty v) e = absurd (cc)

  -- the value of a view of a compact sketch
  pub viewed : {Z S : Type 0} (view : SketchView X Z S) (s : Compact X) → shows key view ≡ shown_of key s → sequence view ≡ s.entries → shown_value key (shows key view) (sequence view) ≡ compact_value key s
  viewed view s showing listing = ap (λ sh. shown_value key sh (sequence view)) showing ∙ ap (λ xs. shown_value key (shown_of key s) xs) listing

-- an update keeps the settings of a union
pub settings_kept : {X P : Type 0} (old new : Union X P) (b : Bool) → (b ≡ true → new ≡ old) → (b ≡ false → new ≡ record old { empty = false; content = new.content }) → (new.lg_k ≡ old.lg_k) × (new.start ≡ old.start)
settings_kept old new true skipped made = (ap (λ u. u.lg_k) (skipped refl), ap (λ u. u.start) (skipped refl))
settings_kept old new false skipped made = (ap (λ u. u.lg_k) (made refl), ap (λ u. u.start) (made refl))

module _ {X V : Type 0} (key : X → ℕ) (step_of : ℕ → V → Step X) (keeps : KeepsHashes key step_of) where
  -- one value more
  pub within-add : (k start h : ℕ) (x : V) (v : Retained X) (w : List X) → start ≤ MAX_THETA → IsWithin key k start v w → IsWithin key k start (after_upsert key k h (step_of h x) v) (whole_step key step_of (Add h x) w)
  within-add k start h x v w high within =
      (elim (is_carried h) as (λ b. is_carried h ≡ b → IsWithin key k start (after_upsert key k h (step_of h x) v) (cond b (whole_upsert key h (step_of h x) w) w)) [
        | true ↦ λ e. let low : 0 < h = grind (arith, nat_tests) in within-upsert key k start h (step_of h x) v w low (keeps.writes h x) (keeps.makes h x) within
        | false ↦ λ e.
            let below_start : v.theta ≤ start = lawful-le key w k start v.theta within.lawful in
            let screened : is_screened h v.theta ≡ true = grind (arith, nat_tests) in
            rw (screened_case key k h (step_of h x) v screened).after_is within
      ]) refl

  carried-upsert : (h : ℕ) (x : V) (w : List X) → h < MAX_THETA → AllByRecursion (λ e. key e < MAX_THETA) w → AllByRecursion (λ e. key e < MAX_THETA) (whole_upsert key h (step_of h x) w)
  carried-upsert h x w high all =
      (elim (entry_at key w h) as (λ o. entry_at key w h ≡ o → AllByRecursion (λ e. key e < MAX_THETA) (option_map_or (λ e. with_entry key w ((step_of h x).writes e)) o (option_map_or (λ e. with_entry key w e) (step_of h x).makes w))) [
        | Some e ↦ λ found. let same : key ((step_of h x).writes e) ≡ h = keeps.writes h x e (found_key key w h e found) in each-with_entry key (λ z. key z < MAX_THETA) w ((step_of h x).writes e) all (omega arith)
        | None ↦ λ found.
            (elim (step_of h x).makes as (λ m. (step_of h x).makes ≡ m → AllByRecursion (λ e. key e < MAX_THETA) (option_map_or (λ e. with_entry key w e) m w)) [
              | Some e ↦ λ made. let same : key e ≡ h = keeps.makes h x e made in each-with_entry key (λ z. key z < MAX_THETA) w e all (omega arith)
              | None ↦ λ made. all
            ]) refl
      ]) refl

  pub carried-add : (h : ℕ) (x : V) (w : List X) → AllByRecursion (λ e. key e < MAX_THETA) w → AllByRecursion (λ e. key e < MAX_THETA) (whole_step key step_of (Add h x) w)
  carried-add h x w all =
      (elim (is_carried h) as (λ b. is_carried h ≡ b → AllByRecursion (λ e. key e < MAX_THETA) (cond b (whole_upsert key h (step_of h x) w) w)) [
        | true ↦ λ e. let high : h < MAX_THETA = grind (arith, nat_tests) in carried-upsert h x w high all
        | false ↦ λ e. all
      ]) refl

  -- and at another hash nothing changes
  elsewhere : (g h : ℕ) (y : X) (w : List X) → key y ≡ g → eqb g h ≡ false → entry_at key (with_entry key w y) h ≡ entry_at key w h
  elsewhere g h y w same other =
      entry_at-with_entry key w y h ∙ ap (λ (q : ℕ). cond (eqb q h) (Some y) (entry_at key w h)) same ∙ ap (λ b. cond b (Some y) (entry_at key w h)) other

  pub upsert-elsewhere : (g h : ℕ) (x : V) (w : List X) → eqb g h ≡ false → entry_at key (whole_upsert key g (step_of g x) w) h ≡ entry_at key w h
  upsert-elsewhere g h x w other =
      (elim (entry_at key w g) as (λ o. entry_at key w g ≡ o → entry_at key (option_map_or (λ y. with_entry key w ((step_of g x).writes y)) o (option_map_or (λ y. with_entry key w y) (step_of g x).makes w)) h ≡ entry_at key w h) [
        | Some y ↦ λ found. elsewhere g h ((step_of g x).writes y) w (keeps.writes g x y (found_key key w g y found)) other
        | None ↦ λ found.
            (elim (step_of g x).makes as (λ m. (step_of g x).makes ≡ m → entry_at key (option_map_or (λ y. with_entry key w y) m w) h ≡ entry_at key w h) [
              | Some y ↦ λ made. elsewhere g h y w (keeps.makes g x y made) other
              | None ↦ λ made. refl
            ]) refl
      ]) refl

pub made_again : {X : Type 0} (lg_k start seed : ℕ) (old new : MapTable X) → old ≡ record (empty_table lg_k start seed) { kept = old.kept } → new ≡ record old { kept = new.kept } → new ≡ record (empty_table lg_k start seed) { kept = new.kept }
made_again {X} lg_k start seed old new made after = (let again : MapTable X → MapTable X = λ t. record t { kept = new.kept } in after ∙ ap again made)

module _ {X : Type 0} (key : X → ℕ) (lg_k start seed : ℕ) where
  -- a new sketch was given nothing
  pub new-sketch : (s : Updatable X) → start ≤ MAX_THETA → s.map ≡ empty_table lg_k start seed → IsSketchOfMap key lg_k start seed s []
  new-sketch s high made = record {
    made_with = made ∙ ap (λ v. record (empty_table lg_k start seed) { kept = v }) (sym (ap (λ t. t.kept) made));
    start_high = high;
    carried = tt;
    kept = rw (ap (λ t. t.kept) made) (record { ascending = ascending-nil key; entries_are = refl; lawful = inl refl });
    none = λ _. refl;
  }

  -- a copy was given the same
  pub copy-given : (old new : Updatable X) (w : List X) → new.empty ≡ old.empty → new.map ≡ old.map → IsSketchOfMap key lg_k start seed old w → IsSketchOfMap key lg_k start seed new w
  copy-given old new w same copied is = record {
    made_with = made_again lg_k start seed old.map new.map is.made_with (copied ∙ ap (λ v. record old.map { kept = v }) (sym (ap (λ t. t.kept) copied)));
    start_high = is.start_high;
    carried = is.carried;
    kept = rw (ap (λ t. t.kept) copied) is.kept;
    none = λ e. is.none (sym same ∙ e);
  }

  -- and a sketch that was reset was given nothing
  pub reset-given : (old new : Updatable X) (w : List X) → new.map ≡ after_reset old.map → IsSketchOfMap key lg_k start seed old w → IsSketchOfMap key lg_k start seed new []
  reset-given old new w after is =
      let bare : MapTable X → MapTable X = λ t. record t { kept = none_below t.start } in
      new-sketch new is.start_high (after ∙ ap bare is.made_with)

  trimmed-kept : (old new : Updatable X) (w : List X) → new.map ≡ trimmed_table key old.map → IsSketchOfMap key lg_k start seed old w → new.map.kept ≡ cut key (2 ^ lg_k) w old.map.kept.theta
  trimmed-kept old new w after is =
      let lg : old.map.lg_nom ≡ lg_k = ap (λ t. t.lg_nom) is.made_with in
      ap (λ t. t.kept) after
      ∙ ap (λ (n : ℕ). cut key (2 ^ n) old.map.kept.entries old.map.kept.theta) lg
      ∙ ap (λ xs. cut key (2 ^ lg_k) xs old.map.kept.theta) is.kept.entries_are
      ∙ cut_below key (2 ^ lg_k) w old.map.kept.theta is.kept.ascending

  -- a trim keeps what a sketch was given
  pub trimmed-given : (old new : Updatable X) (w : List X) → new.empty ≡ old.empty → new.map ≡ trimmed_table key old.map → IsSketchOfMap key lg_k start seed old w → IsSketchOfMap key lg_k start seed new w
  trimmed-given old new w same after is = record {
    made_with = made_again lg_k start seed old.map new.map is.made_with (after ∙ ap (λ v. record old.map { kept = v }) (sym (ap (λ t. t.kept) after)));
    start_high = is.start_high;
    carried = is.carried;
    kept = rw (trimmed-kept old new w after is) (within-cut key (2 ^ lg_k) start old.map.kept.theta w is.kept.ascending is.kept.lawful);
    none = λ e. is.none (sym same ∙ e);
  }

  -- and then there is no more to trim
  pub trimmed-again : (old new : Updatable X) (w : List X) → new.map ≡ trimmed_table key old.map → IsSketchOfMap key lg_k start seed old w → cut_value key (2 ^ lg_k) (sketch_value new) ≡ sketch_value new
  trimmed-again old new w after is =
      let kept : new.map.kept ≡ cut key (2 ^ lg_k) w old.map.kept.theta = trimmed-kept old new w after is in
      let again : cut key (2 ^ lg_k) new.map.kept.entries new.map.kept.theta ≡ new.map.kept = rw kept (cut_of_cut key (2 ^ lg_k) (2 ^ lg_k) w old.map.kept.theta (omega arith) is.kept.ascending) in
      elim new.empty as (λ b. cut_value key (2 ^ lg_k) (cond b Empty (NonEmpty new.map.kept)) ≡ cond b Empty (NonEmpty new.map.kept)) [ true ↦ refl | false ↦ ap NonEmpty again ]

  -- the value of a sketch is a part of what it was given
  pub part-of : (s : Updatable X) (w : List X) → IsSketchOfMap key lg_k start seed s w → IsPart key (2 ^ lg_k) start (sketch_value s) w
  part-of s w is = record {
    sample = record {
      ascending = is.kept.ascending;
      carried = is.carried;
      all_below = (elim s.empty as (λ b. s.empty ≡ b → IsAllBelow key (cond b Empty (NonEmpty s.map.kept)) w) [ true ↦ λ e. is.none e | false ↦ λ e. is.kept.entries_are ]) refl;
    };
    lawful = elim s.empty as (λ b. IsLawfulValue key (2 ^ lg_k) start (cond b Empty (NonEmpty s.map.kept)) w) [ true ↦ tt | false ↦ is.kept.lawful ];
  }

module _ {X V : Type 0} (key : X → ℕ) (step_of : ℕ → V → Step X) (keeps : KeepsHashes key step_of) (lg_k start seed : ℕ) where
  -- a sketch that was given one value more
  pub value-given : (h : ℕ) (x : V) (old new : Updatable X) (w : List X) → new.empty ≡ false → new.map ≡ after_insertion key h (step_of h x) old.map → IsSketchOfMap key lg_k start seed old w → IsSketchOfMap key lg_k start seed new (whole_step key step_of (Add h x) w)
  value-given h x old new w nonempty after is =
      let lg : old.map.lg_nom ≡ lg_k = ap (λ t. t.lg_nom) is.made_with in
      let kept : new.map.kept ≡ after_upsert key (2 ^ lg_k) h (step_of h x) old.map.kept = ap (λ t. t.kept) after ∙ ap (λ (n : ℕ). after_upsert key (2 ^ n) h (step_of h x) old.map.kept) lg in
      record {
        made_with = made_again lg_k start seed old.map new.map is.made_with (after ∙ ap (λ v. record old.map { kept = v }) (sym (ap (λ t. t.kept) after)));
        start_high = is.start_high;
        carried = carried-add key step_of keeps h x w is.carried;
        kept = rw kept (within-add key step_of keeps (2 ^ lg_k) start h x old.map.kept w is.start_high is.kept);
        none = λ e. absurd (cc);
      }

module _ {X P : Type 0} (key : X → ℕ) (lg_k k start : ℕ) where
  -- a new union was given nothing
  pub new-union : (from hash : ℕ) (policy : P) (u : Union X P) → k ≤ 2 ^ lg_k → start ≤ from → u ≡ empty_union lg_k from hash policy → IsUnionOfMap key lg_k k start u []
  new-union from hash policy u enough starts made = rw made (record {
    nominal = refl;
    enough = enough;
    starts = starts;
    no_more = refl;
    part = record { sample = record { ascending = ascending-nil key; carried = tt; all_below = refl }; lawful = tt };
  })

  -- a union with fewer nominal entries was given the same
  pub lowered-given : (lg less : ℕ) (old new : Union X P) (w : List X) → new ≡ lowered key lg old → union_value key new ≡ cut_value key (2 ^ lg) (union_value key old) → less ≤ k → less ≤ 2 ^ lg → IsUnionOfMap key lg_k k start old w → IsUnionOfMap key lg less start new w
  lowered-given lg less old new w after value fewer enough is =
      let part : IsPart key less start (union_value key old) w = fewer-part key less k start (union_value key old) w fewer is.part in
      let settings : (new.lg_k ≡ lg) × (new.start ≡ old.start) =
      (elim (eqb lg old.lg_k) as (λ b. eqb lg old.lg_k ≡ b → new ≡ cond b old (record old { content = cut key (2 ^ lg) old.content.entries old.content.theta; lg_k = lg }) → (new.lg_k ≡ lg) × (new.start ≡ old.start)) [
        | true ↦ λ e made. let same : lg ≡ old.lg_k = grind (arith, nat_tests) in (ap (λ u. u.lg_k) made ∙ sym same, ap (λ u. u.start) made)
        | false ↦ λ e made. (ap (λ u. u.lg_k) made, ap (λ u. u.start) made)
      ]) refl after in
      record {
        nominal = settings.0;
        enough = enough;
        starts = rw settings.1 is.starts;
        no_more = rw value (cut-again key less (2 ^ lg) start (union_value key old) w part);
        part = rw value (cut-part key less (2 ^ lg) start (union_value key old) w enough part);
      }

  -- a union for some k is one for fewer
  pub fewer-union : (less : ℕ) (u : Union X P) (w : List X) → less ≤ k → IsUnionOfMap key lg_k k start u w → IsUnionOfMap key lg_k less start u w
  fewer-union less u w le is = record { nominal = is.nominal; enough = omega (arith, is.enough); starts = is.starts; no_more = is.no_more; part = fewer-part key less k start (union_value key u) w le is.part }

module _ {X P : Type 0} (key : X → ℕ) (merges : X → X → X) (keeps : KeepsKey key merges) (lg_k k start : ℕ) where
  -- a union that was given more parts
  pub parts-given : (old new : Union X P) (values : List (Sketch X)) (w : List X) (wholes : List (List X)) → union_value key new ≡ unite key merges (2 ^ old.lg_k) old.start (union_value key old ∷ values) → new.lg_k ≡ old.lg_k → new.start ≡ old.start →
      IsUnionOfMap key lg_k k start old w → AreSamples key values wholes → AreLawful key k start values wholes → IsUnionOfMap key lg_k k start new (joined_all key merges w wholes)
  parts-given old new values w wholes united same_k same_start is samples laws =
      let none : joined key merges [] w ≡ w = joined-nil key merges keeps w is.part.sample.ascending in
      record {
        nominal = same_k ∙ is.nominal;
        enough = is.enough;
        starts = rw same_start is.starts;
        no_more = rw (united, ← is.nominal) (cut_of_union key merges keeps (2 ^ old.lg_k) (2 ^ old.lg_k) old.start (union_value key old ∷ values) (omega arith));
        part = rw (united, ← none) (record {
          sample = union_samples key merges keeps (2 ^ old.lg_k) old.start (union_value key old ∷ values) (w ∷ wholes) (is.part.sample, samples);
          lawful = union_stays_lawful key merges keeps k (2 ^ old.lg_k) start old.start (union_value key old ∷ values) (w ∷ wholes) (rw is.nominal is.enough) is.starts (is.part.sample, samples) (is.part.lawful, laws);
        });
      }

module _ {X P : Type 0} (key : X → ℕ) (merges : X → X → X) (keeps : KeepsKey key merges) where
  -- a union that was given a sample more
  pub sample-given : (old new : Union X P) (value : Sketch X) (w more : List X) → union_value key new ≡ unite key merges (2 ^ old.lg_k) old.start (union_value key old ∷ value ∷ []) → IsSample key (union_value key old) w → IsSample key value more → IsSample key (union_value key new) (joined key merges w more)
  sample-given old new value w more united is sample =
      let none : joined key merges [] w ≡ w = joined-nil key merges keeps w is.ascending in
      rw (united, ← none) (union_samples key merges keeps (2 ^ old.lg_k) old.start (union_value key old ∷ value ∷ []) (w ∷ more ∷ []) (is, (sample, tt)))

module _ {X P : Type 0} (key : X → ℕ) where
  -- a failed union has its settings, and so has one that is unchanged
  failed-settings : (old new : Union X P) → new ≡ record old { failed = true; content = new.content } → (new.lg_k ≡ old.lg_k) × (new.start ≡ old.start)
  failed-settings old new made = (ap (λ u. u.lg_k) made, ap (λ u. u.start) made)

  same-settings : (old new : Union X P) → new ≡ old → (new.lg_k ≡ old.lg_k) × (new.start ≡ old.start)
  same-settings old new same = (ap (λ u. u.lg_k) same, ap (λ u. u.start) same)

  -- so after every error
  pub update-settings : (refuses : X → X → Bool) (old new : Union X P) (s : Shown) (listing : List X) (e : ErrorKind) → IsUpdateError key refuses old new s listing e → (new.lg_k ≡ old.lg_k) × (new.start ≡ old.start)
  update-settings refuses old new s listing e =
      elim (update_refusal old s) as (λ o. MatchOption o (IsBroken key refuses old new s listing e) (λ kind. (e ≡ kind) × (new ≡ old)) → (new.lg_k ≡ old.lg_k) × (new.start ≡ old.start)) [
        | None ↦ λ broken. failed-settings old new broken.made_with
        | Some kind ↦ λ refused. same-settings old new refused.1
      ]

  pub update_all-settings : {V : Type 0} (merges : X → X → X) (refuses : X → X → Bool) (old new : Union X P) (shown : V → Shown) (listing : V → List X) (views : List V) (e : ErrorKind) → IsUpdateAllError key merges refuses old new shown listing views e → (new.lg_k ≡ old.lg_k) × (new.start ≡ old.start)
  update_all-settings merges refuses old new shown listing views e =
      elim (update_all_refusal old shown views) as (λ o. MatchOption o (IsAllBroken key merges refuses old new shown listing views e) (λ kind. (e ≡ kind) × (new ≡ old)) → (new.lg_k ≡ old.lg_k) × (new.start ≡ old.start)) [
        | None ↦ λ broken. failed-settings old new broken.made_with
        | Some kind ↦ λ refused. same-settings old new refused.1
      ]
