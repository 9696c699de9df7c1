-- Parts of an intersection, one by one.
use Rattle.std.proofs.Common.{◌≡◌, ℕ, ◌+◌, ◌<◌, ◌≤◌, Bool, true, false, List, [], ◌∷◌, ◌++◌, length, get_or, take, map, Option, Some, None, refl, sym, ap, subst, ◌∙◌}
use Rattle.std.specs.List.{list_all, list_any}
use Rattle.std.specs.Option.{option_map}
use Rattle.std.proofs.lemmas.List.{map_more, take_all}
use Rattle.sketch_base.specs.declared.error.ErrorKind.{ErrorKind}
use Rattle.core_compact.specs.CompactState.{Compact as State, IsAnswer}
use Rattle.core_laws.specs.Folds.{Fold, has_mark, unmarked_value}
use Rattle.core_laws.specs.Operators.{meet_next, meet, common}
use Rattle.core_laws.specs.Samples.{IsAllBelow, IsSample, AreSamples, common_all}
use Rattle.core_laws.specs.Values.{Sketch}
use Rattle.core_laws.proofs.operators.Meets.{meet_of_meet}
use Rattle.core_laws.proofs.operators.Samples.{meet_samples}
use Rattle.core_operators.specs.Intersection.{Intersection, new_intersection, seed_refusal}
use Rattle.plan_text.specs.declared.plan.Plan.{Plan}
use Rattle.plan_text.specs.declared.plan.Plan.TheVariants as plan
use Rattle.plan_values.specs.Family.{Family, IsFamily}
use Rattle.plan_values.specs.Refusals.{must_refuse}
use Rattle.plan_values.specs.Value.{value_in, fits, plan_refusal}
use Rattle.plan_values.specs.WholeStreams.{whole_in, shared_of}
use Rattle.plan_evaluation.specs.Parts.{value_or_empty}
use Rattle.plan_values.proofs.NodeEquations.{value_meet}
use Rattle.plan_values.proofs.RefusedPlans.{accepted_meet, fit_next}
use Rattle.plan_values.proofs.Samples.{sampled, parts_sampled}
use Rattle.plan_values.proofs.UnrefusedPlans.{next_unrefused, meet_unrefused}
use Rattle.plan_evaluation.specs.Refused.{RefusedFor, IsPlanRefused, MarksMet}
use Rattle.plan_evaluation.proofs.evaluation.NodeAnswers.{IsOperatorAnswer, fold_answer, meet_result}
use Rattle.plan_evaluation.proofs.evaluation.PlanRefusals.{meet_part_refused, meet_refused}
use Rattle.plan_evaluation.proofs.evaluation.Results.{for_other}

-- maps that are intersected in turn, and one more
common_all-more : {X : Type 0} (key : X → ℕ) (merges : X → X → X) (whole : List X) (maps : List (List X)) (last : List X) → common_all key merges whole (maps ++ last ∷ []) ≡ common key merges (common_all key merges whole maps) last
common_all-more key merges whole [] last = refl
common_all-more key merges whole (xs ∷ maps) last = common_all-more key merges (common key merges whole xs) maps last

-- the value of an intersection, in folds
pub value_or_empty-folds : {X : Type 0} (o : Option (Sketch X)) → unmarked_value (value_or_empty o) ≡ value_or_empty (option_map unmarked_value o)
value_or_empty-folds None = refl
value_or_empty-folds (Some v) = refl

-- the settings of an intersection don't change
pub made_met : {X P : Type 0} (first was now : Intersection X P) → was ≡ record first { result = was.result } → now ≡ record was { result = now.result } → now ≡ record first { result = now.result }
made_met {X} {P} first was now before step = let again : Intersection X P → Intersection X P = λ u. record u { result = now.result } in step ∙ ap again before

module _ {X V : Type 0} (f : Family (Fold X) V) where
  -- the result of an intersection after values
  abbrev pub met_of : List (Sketch (Fold X)) → Option (Sketch (Fold X))
  met_of [] = None
  met_of (v ∷ vs) = Some (meet f.key f.merges (v ∷ vs))

  pub value_or_empty-met : (vs : List (Sketch (Fold X))) → value_or_empty (met_of vs) ≡ meet f.key f.merges vs
  value_or_empty-met [] = refl
  value_or_empty-met (v ∷ vs) = refl

module _ {X V : Type 0} (f : Family (Fold X) V) (lawful : IsFamily f) where
  -- and after one more
  met_more : (vs : List (Sketch (Fold X))) (last : Sketch (Fold X)) → ◌≡◌ {A = Option (Sketch (Fold X))} (Some (meet_next f.key f.merges (met_of f vs) last)) (met_of f (vs ++ last ∷ []))
  met_more [] last = refl
  met_more (v ∷ vs) last = ap (λ (u : Sketch (Fold X)). Some u) (sym (meet_of_meet f.key f.merges v vs last))

  -- a value that a policy refuses leaves a mark in the common part of the whole maps
  marks_more : (vs : List (Sketch (Fold X))) (wholes : List (List (Fold X))) (last : Sketch (Fold X)) (arriving : List (Fold X)) → AreSamples f.key vs wholes → IsAllBelow f.key last arriving → MarksMet f (met_of f vs) last → has_mark (shared_of f (wholes ++ arriving ∷ [])) ≡ true
  marks_more [] wholes last arriving samples below marks = absurd marks
  marks_more (v ∷ vs) [] last arriving samples below marks = absurd samples
  marks_more (v ∷ vs) (whole ∷ wholes) last arriving samples below marks =
      ap has_mark (common_all-more f.key f.merges whole wholes arriving)
      ∙ marks (common_all f.key f.merges whole wholes) arriving (meet_samples f.key f.merges lawful.merged v vs whole wholes samples.0 samples.1).all_below below

  module _ {Z : Type 0} (parts : List (Plan V Z)) (i : ℕ) (d : Plan V Z) (lt : i < length parts) where
    pub met_next : (was now : Option (Sketch X)) (v : Sketch (Fold X)) → option_map unmarked_value was ≡ met_of f (map (value_in f) (take i parts)) → option_map unmarked_value now ≡ Some (meet_next f.key f.merges (option_map unmarked_value was) v) → v ≡ value_in f (get_or parts i d) →
        option_map unmarked_value now ≡ met_of f (map (value_in f) (take (i + 1) parts))
    met_next was now v so_far met is =
        met ∙ ap (λ o. Some (meet_next f.key f.merges o v)) so_far
        ∙ ap (λ (u : Sketch (Fold X)). Some (meet_next f.key f.merges (met_of f (map (value_in f) (take i parts))) u)) is
        ∙ met_more (map (value_in f) (take i parts)) (value_in f (get_or parts i d))
        ∙ ap (met_of f) (sym (map_more (value_in f) parts i d lt))

    -- a part that a policy refuses leaves a mark
    pub marked_met : (was : Option (Sketch X)) (v : Sketch (Fold X)) → option_map unmarked_value was ≡ met_of f (map (value_in f) (take i parts)) → v ≡ value_in f (get_or parts i d) → AreSamples f.key (map (value_in f) (take i parts)) (map (whole_in f) (take i parts)) → IsSample f.key (value_in f (get_or parts i d)) (whole_in f (get_or parts i d)) →
        MarksMet f (option_map unmarked_value was) v → has_mark (shared_of f (map (whole_in f) (take (i + 1) parts))) ≡ true
    marked_met was v so_far is samples sample marks =
        ap (λ ws. has_mark (shared_of f ws)) (map_more (whole_in f) parts i d lt)
        ∙ marks_more (map (value_in f) (take i parts)) (map (whole_in f) (take i parts)) v (whole_in f (get_or parts i d)) samples (rw is sample.all_below) (subst (λ o. MarksMet f o v) so_far marks)

-- an intersection after parts: it has their value, they all fit, and no policy must refuse them; its other fields are unchanged
pub record IsMet {X V P Z : Type 0} (f : Family (Fold X) V) (seed : ℕ) (first : Intersection X P) (of_family : Type 0) (u : Intersection X P) (parts : List (Plan V Z)) : Type 0 where
  pub own : of_family
  pub value : option_map unmarked_value u.result ≡ met_of f (map (value_in f) parts)
  pub made : u ≡ record first { result = u.result }
  pub fit : list_all (λ fit. fit) (map (fits seed) parts) ≡ true
  pub unrefused : list_any (must_refuse f seed) parts ≡ false

-- a new intersection is as after no part
pub met_none : {X V P Z : Type 0} {f : Family (Fold X) V} {seed : ℕ} {u : Intersection X P} {own : Type 0} {hash : ℕ} {policy : P} → own → u ≡ new_intersection hash policy → IsMet {Z = Z} f seed u own u []
met_none {X} {V} {P} fresh made = record { own = fresh; value = ap (λ (w : Intersection X P). option_map unmarked_value w.result) made; made = refl; fit = refl; unrefused = refl }

-- and after one more
pub after_meet : {X V P Z : Type 0} {f : Family (Fold X) V} {seed : ℕ} {first was now : Intersection X P} {before after : Type 0} {i : ℕ} {p : Plan V Z} {v : Sketch (Fold X)} → IsFamily f → (parts : List (Plan V Z)) (d : Plan V Z) → i < length parts → IsMet f seed first before was (take i parts) → after → p ≡ get_or parts i d →
    option_map unmarked_value now.result ≡ Some (meet_next f.key f.merges (option_map unmarked_value was.result) v) → v ≡ value_in f p → now ≡ record was { result = now.result } → plan_refusal seed p ≡ None → must_refuse f seed p ≡ false → IsMet f seed first after now (take (i + 1) parts)
after_meet {X} {V} {P} {Z} {f} {seed} {first} {was} {now} {before} {after} {i} {p} {v} lawful parts d lt so_far still is meets seen made_with accepts unrefused = record {
  own = still;
  value = met_next f lawful parts i d lt was.result now.result v so_far.value meets (seen ∙ ap (value_in f) is);
  made = made_met first was now so_far.made made_with;
  fit = fit_next Z seed parts i d lt so_far.fit (ap (plan_refusal seed) (sym is) ∙ accepts);
  unrefused = next_unrefused Z f seed parts i d lt so_far.unrefused (ap (must_refuse f seed) (sym is) ∙ unrefused);
}

-- an intersection of the plan q that was new, after its first i parts; its parameters name the facts that say so
pub record IsMeeting {X V P Z : Type 0} {f : Family (Fold X) V} {seed : ℕ} {q : Plan V Z} {first u : Intersection X P} {own : Type 0} {hash : ℕ} {policy : P} {items parts : List (Plan V Z)} (is : q ≡ plan.Meet items) (listed : parts ≡ items) (made : first ≡ new_intersection hash policy) (i : ℕ) (so_far : IsMet f seed first own u (take i parts)) : Type 0 where
  pub lawful : IsFamily f
  pub built : seed_refusal seed ≡ None

module _ {X V P Z : Type 0} {f : Family (Fold X) V} {seed : ℕ} {q : Plan V Z} {first u : Intersection X P} {own : Type 0} {hash : ℕ} {policy : P} {items parts : List (Plan V Z)} {is : q ≡ plan.Meet items} {listed : parts ≡ items} {made : first ≡ new_intersection hash policy} {i : ℕ} {so_far : IsMet f seed first own u (take i parts)} (it : IsMeeting is listed made i so_far) where
  whole_meet : q ≡ plan.Meet parts
  whole_meet = is ∙ ap plan.Meet (sym listed)

  -- the seed hash doesn't change
  pub meet_seed : u.seed_hash ≡ hash
  meet_seed = ap (λ (w : Intersection X P). w.seed_hash) so_far.made ∙ ap (λ (w : Intersection X P). w.seed_hash) made

  -- what is refused at the next part is a refusal of the plan
  module _ {strict : Bool} {e : ErrorKind} {p : Plan V Z} (d : Plan V Z) (lt : i < length parts) (part : p ≡ get_or parts i d) where
    pub one_refused : IsPlanRefused f strict seed p e → IsPlanRefused f strict seed q e
    one_refused refused = meet_part_refused f seed parts i d lt whole_meet (accepted_meet Z seed (take i parts) it.built so_far.fit) so_far.unrefused (subst (λ x. IsPlanRefused f strict seed x e) part refused)

    pub both_refused : {v : Sketch (Fold X)} → v ≡ value_in f p → plan_refusal seed p ≡ None → RefusedFor e strict (MarksMet f (option_map unmarked_value u.result) v) → IsPlanRefused f strict seed q e
    both_refused {v} seen accepts refused =
        let fits_so : plan_refusal seed (get_or parts i d) ≡ None = ap (plan_refusal seed) (sym part) ∙ accepts in
        meet_refused f seed parts i d lt whole_meet (accepted_meet Z seed (take (i + 1) parts) it.built (fit_next Z seed parts i d lt so_far.fit fits_so))
        (for_other e strict (marked_met f it.lawful parts i d lt u.result v so_far.value (seen ∙ ap (value_in f) part) (parts_sampled Z f it.lawful seed (take i parts) so_far.fit) (sampled Z f it.lawful seed (get_or parts i d) fits_so)) refused)

  -- after all parts the intersection is the plan's
  module _ (ended : length parts ≤ i) where
    all_met : take i parts ≡ parts
    all_met = take_all i parts ended

    pub met_result : (key : X → ℕ) (asked : Bool) (s : State X) → IsAnswer key (value_or_empty u.result) hash asked s → IsOperatorAnswer key f q hash asked s
    met_result key asked s answer =
        let value : unmarked_value (value_or_empty u.result) ≡ value_in f q =
        value_or_empty-folds u.result ∙ ap value_or_empty (so_far.value ∙ ap (λ ps. met_of f (map (value_in f) ps)) all_met) ∙ value_or_empty-met f (map (value_in f) parts) ∙ sym (ap (value_in f) whole_meet ∙ value_meet Z f parts) in
        meet_result key f q hash asked (unmarked_value (value_or_empty u.result)) hash s value refl parts whole_meet (fold_answer key (value_or_empty u.result) hash asked s _ answer refl)

    pub met_unrefused : must_refuse f seed q ≡ false
    met_unrefused = ap (must_refuse f seed) whole_meet ∙ meet_unrefused Z f seed parts (rw all_met at so_far.unrefused)

    pub met_accepted : plan_refusal seed q ≡ None
    met_accepted = ap (plan_refusal seed) whole_meet ∙ accepted_meet Z seed parts it.built (rw all_met at so_far.fit)
