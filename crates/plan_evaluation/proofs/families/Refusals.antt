-- If a policy refuses a part, the whole maps have a mark.
use Rattle.std.proofs.Common.{◌≡◌, ℕ, min, Bool, true, false, cond, ltb, eqb, eq-eqb, List, map, Option, Some, None, is_none, refl, sym, ap, ◌∙◌, subst, inl, inr}
use Rattle.std.specs.Prelude.{◌⊎◌, ◌||◌, MatchOption, IsTrue}
use Rattle.std.specs.Option.{option_map, option_map_or}
use Rattle.sketch_base.specs.declared.error.ErrorKind.{ErrorKind}
use Rattle.sketch_base.specs.declared.error.ErrorKind.TheVariants.{OutOfMemory, Policy}
use Rattle.core_laws.specs.Cuts.{Retained}
use Rattle.core_laws.specs.Entries.{KeepsKey}
use Rattle.core_laws.specs.Folds.{Fold, Value, fold_key, fold_merges, unmarked_value, has_mark}
use Rattle.core_laws.specs.Insertion.{upsert_refusal, is_screened}
use Rattle.core_laws.specs.Maps.{IsAscending, below, entry_at, map_of}
use Rattle.core_laws.specs.Operators.{joined, common}
use Rattle.core_laws.specs.Shown.{Shown, shown_value}
use Rattle.core_laws.specs.Values.{Sketch, Empty, NonEmpty}
use Rattle.core_laws.proofs.insertions.Unmarked.{was_refused}
use Rattle.core_laws.proofs.maps.LookUps.{entry_at-below}
use Rattle.core_laws.proofs.maps.MappedEntries.{entry_at-map}
use Rattle.core_laws.proofs.maps.MapsOfLists.{ascending-apart, entry_at-map_of}
use Rattle.core_laws.proofs.operators.Marks.{join_marks, meet_marks}
use Rattle.core_operators.specs.Intersection.{Intersection, IsCutShort, content_of, intersect_refusal, is_settled}
use Rattle.core_operators.specs.Union.{Union, IsBroken, IsMergeRefused, update_refusal}
use Rattle.core_policies.specs.Summaries.{update_step, first_summary}
use Rattle.core_slots.specs.Entry.{tuple_key}
use Rattle.core_slots.specs.declared.entry.TupleEntry.{TupleEntry}
use Rattle.plan_values.specs.Family.{Family, folds_of}
use Rattle.plan_evaluation.specs.Refused.{RefusedFor, MarksJoined, MarksMet}
use Rattle.plan_evaluation.proofs.families.Held.{HoldsAll}

module _ {X : Type 0} (key : X → ℕ) where
  -- an entry that is found below a bound is found in the whole list, and its key is below the bound
  found_below : (xs : List X) (t q : ℕ) (x : X) → entry_at key (below key xs t) q ≡ Some x → (entry_at key xs q ≡ Some x) × (ltb q t ≡ true)
  found_below xs t q x found =
      let found_in : cond (ltb q t) (entry_at key xs q) None ≡ Some x = sym (entry_at-below key xs t q) ∙ found in
      (elim (ltb q t) as (λ b. ltb q t ≡ b → cond b (entry_at key xs q) None ≡ Some x → (entry_at key xs q ≡ Some x) × (ltb q t ≡ true)) [ true ↦ λ e f. (f, e) | false ↦ λ e f. absurd (cc) ]) refl found_in

  -- an entry that is retained below theta is the whole map's entry at its key
  at_whole : (whole : List (Fold X)) (entries : List X) (theta q : ℕ) (x : X) → map Value entries ≡ below (fold_key key) whole theta → entry_at key entries q ≡ Some x → entry_at (fold_key key) whole q ≡ Some (Value x)
  at_whole whole entries theta q x all found =
      let there : entry_at (fold_key key) (below (fold_key key) whole theta) q ≡ Some (Value x) =
      ap (λ ys. entry_at (fold_key key) ys q) (sym all) ∙ entry_at-map Value key (fold_key key) (λ y. refl) entries q ∙ ap (option_map Value) found in
      let found_in : cond (ltb q theta) (entry_at (fold_key key) whole q) None ≡ Some (Value x) = sym (entry_at-below (fold_key key) whole theta q) ∙ there in
      (elim (ltb q theta) as (λ b. cond b (entry_at (fold_key key) whole q) None ≡ Some (Value x) → entry_at (fold_key key) whole q ≡ Some (Value x)) [ true ↦ λ f. f | false ↦ λ f. absurd (cc) ]) found_in

  -- the value of a sketch that isn't empty
  value_shown : (s : Shown) (listing : List X) → s.empty ≡ false → unmarked_value (shown_value key s listing) ≡ NonEmpty (record { entries = map Value (map_of key listing); theta = s.theta })
  value_shown s listing nonempty = ap (λ b. unmarked_value (cond b Empty (NonEmpty (record { entries = map_of key listing; theta = s.theta })))) nonempty

  module _ {P : Type 0} where
    -- no union that has not failed refuses a part of its seed
    join_unrefused : (u : Union X P) (s : Shown) → u.failed ≡ false → u.seed_hash ≡ s.seed_hash → update_refusal u s ≡ None
    join_unrefused u s at_work same_seed =
        let tie : eqb u.seed_hash s.seed_hash ≡ true = eq-eqb _ _ same_seed in
        rw (at_work, tie) (elim s.empty as (λ b. ◌≡◌ {A = Option ErrorKind} (cond b None None) None) [ true ↦ refl | false ↦ refl ])

    -- nor does an intersection
    meet_unrefused : (i : Intersection X P) (s : Shown) → i.seed_hash ≡ s.seed_hash → intersect_refusal i s ≡ None
    meet_unrefused i s same_seed =
        let tie : eqb i.seed_hash s.seed_hash ≡ true = eq-eqb _ _ same_seed in
        rw tie (elim (is_settled i.result || s.empty) as (λ b. ◌≡◌ {A = Option ErrorKind} (cond b None None) None) [ true ↦ refl | false ↦ refl ])

module _ {X V : Type 0} (f : Family X V) (refuses : X → X → Bool) (keeps : KeepsKey f.key f.merges) where
  -- a refused merge of a stored entry and a new one leaves a mark in the joined whole maps
  joined_mark : (content : Retained X) (listing : List X) (theta t : ℕ) (whole arriving : List (Fold X)) → IsMergeRefused f.key refuses (below f.key content.entries t) listing →
      IsAscending (fold_key f.key) arriving → map Value content.entries ≡ below (fold_key f.key) whole content.theta → map Value (map_of f.key listing) ≡ below (fold_key f.key) arriving theta →
      has_mark (joined (fold_key f.key) (fold_merges f.key f.merges refuses) whole arriving) ≡ true
  joined_mark content listing theta t whole arriving broken up all comes =
      let one = (found_below f.key content.entries t broken.at broken.held_entry broken.is_held).0 in
      join_marks f.key f.merges refuses keeps whole arriving broken.at broken.held_entry broken.new_entry
      (at_whole f.key whole content.entries content.theta broken.at broken.held_entry all one)
      (at_whole f.key arriving (map_of f.key listing) theta broken.at broken.new_entry comes (entry_at-map_of f.key listing broken.at ∙ broken.comes))
      broken.refused (ascending-apart (fold_key f.key) arriving up)

  -- and in their common part
  met_mark : (content : Retained X) (listing : List X) (theta t : ℕ) (whole arriving : List (Fold X)) → IsMergeRefused f.key refuses (below f.key content.entries t) listing →
      map Value content.entries ≡ below (fold_key f.key) whole content.theta → map Value (map_of f.key listing) ≡ below (fold_key f.key) arriving theta →
      has_mark (common (fold_key f.key) (fold_merges f.key f.merges refuses) whole arriving) ≡ true
  met_mark content listing theta t whole arriving broken all comes =
      let one = (found_below f.key content.entries t broken.at broken.held_entry broken.is_held).0 in
      meet_marks f.key f.merges refuses keeps whole arriving broken.at broken.held_entry broken.new_entry
      (at_whole f.key whole content.entries content.theta broken.at broken.held_entry all one)
      (at_whole f.key arriving (map_of f.key listing) theta broken.at broken.new_entry comes (entry_at-map_of f.key listing broken.at ∙ broken.comes))
      broken.refused

  -- the entries of an intersection, met with new ones
  marks_met : (o : Option (Sketch X)) (listing : List X) (theta t : ℕ) → is_settled o ≡ false → IsMergeRefused f.key refuses (below f.key (content_of o).entries t) listing →
      MarksMet (folds_of f refuses) (option_map unmarked_value o) (NonEmpty (record { entries = map Value (map_of f.key listing); theta = theta }))
  marks_met None listing theta t unsettled broken = let none = broken.is_held in absurd (cc)
  marks_met (Some Empty) listing theta t unsettled broken = absurd (cc)
  marks_met (Some (NonEmpty u)) listing theta t unsettled broken = λ whole arriving all comes. met_mark u listing theta t whole arriving broken all comes

  module _ {P : Type 0} where
    -- why a union refuses a part of its seed
    pub refused_join : (old new : Union X P) (s : Shown) (listing : List X) → old.failed ≡ false → old.seed_hash ≡ s.seed_hash → (v : Sketch (Fold X)) → unmarked_value (shown_value f.key s listing) ≡ v → (e : ErrorKind) →
        MatchOption (update_refusal old s) (IsBroken f.key refuses old new s listing e) (λ kind. (e ≡ kind) × (new ≡ old)) → RefusedFor e true (MarksJoined (folds_of f refuses) (HoldsAll f.key old) v)
    refused_join old new s listing at_work same_seed v is e why =
        let broken : IsBroken f.key refuses old new s listing e = subst (λ o. MatchOption o (IsBroken f.key refuses old new s listing e) (λ kind. (e ≡ kind) × (new ≡ old))) (join_unrefused f.key old s at_work same_seed) why in
        let shown = value_shown f.key s listing broken.nonempty in
        (elim broken.why [
          | inl memory ↦ inl memory
          | inr refused ↦ inr (
            refused.0,
            refl,
            subst (λ w. MarksJoined (folds_of f refuses) (HoldsAll f.key old) w) (sym shown ∙ is)
                (λ whole arriving up high content all. joined_mark old.content listing s.theta (min old.content.theta s.theta) whole arriving refused.1 high content all),
          )
        ])

    -- why an intersection refuses a part of its seed
    pub refused_meet : (old : Intersection X P) (s : Shown) (listing : List X) → old.seed_hash ≡ s.seed_hash → (v : Sketch (Fold X)) → unmarked_value (shown_value f.key s listing) ≡ v → (e : ErrorKind) →
        MatchOption (intersect_refusal old s) (IsCutShort f.key refuses old.result s listing e) (λ kind. e ≡ kind) → RefusedFor e true (MarksMet (folds_of f refuses) (option_map unmarked_value old.result) v)
    refused_meet old s listing same_seed v is e why =
        let short : IsCutShort f.key refuses old.result s listing e = subst (λ o. MatchOption o (IsCutShort f.key refuses old.result s listing e) (λ kind. e ≡ kind)) (meet_unrefused f.key old s same_seed) why in
        let shown = value_shown f.key s listing short.nonempty in
        (elim short.why [
          | inl memory ↦ inl memory
          | inr refused ↦ inr (
            refused.0,
            refl,
            subst (λ w. MarksMet (folds_of f refuses) (option_map unmarked_value old.result) w) (sym shown ∙ is)
                (marks_met old.result listing s.theta (min (content_of old.result).theta s.theta) short.unsettled refused.1),
          )
        ])

module _ {S U : Type 0} (creates : Option S) (updates : S → U → Option S) (h : ℕ) (u : U) (v : Retained (TupleEntry S)) (e : ErrorKind) where
  -- an update is refused by its policy alone
  policy_alone : upsert_refusal tuple_key h (update_step creates updates h u) v ≡ Some e → e ≡ Policy
  unfolding upsert_refusal
  policy_alone refused =
      (elim (is_screened h v.theta) as (λ b. cond b None (option_map_or (update_step creates updates h u).refuses_existing (entry_at tuple_key v.entries h) (update_step creates updates h u).refuses_absent) ≡ Some e → e ≡ Policy) [
        | true ↦ λ r. absurd (cc)
        | false ↦ (elim (entry_at tuple_key v.entries h) as (λ o. option_map_or (update_step creates updates h u).refuses_existing o (update_step creates updates h u).refuses_absent ≡ Some e → e ≡ Policy) [
          | Some x ↦ λ r. (was_refused (is_none (updates x.summary u)) e r).1
          | None ↦ λ r. (was_refused (is_none (first_summary creates updates u)) e r).1
        ])
      ]) refused

  -- why a sketch refuses an update
  pub refused_update : (takes_memory : Bool) → (upsert_refusal tuple_key h (update_step creates updates h u) v ≡ Some e) ⊎ ((e ≡ OutOfMemory) × IsTrue takes_memory) → RefusedFor e true (upsert_refusal tuple_key h (update_step creates updates h u) v ≡ Some e)
  refused_update takes_memory (inl refused) = inr (policy_alone refused, refl, refused)
  refused_update takes_memory (inr memory) = inl memory.0
