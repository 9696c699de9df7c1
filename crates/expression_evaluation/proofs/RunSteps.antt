-- Steps run on a stack give the value of their expression.
use Rattle.std.proofs.Common.{◌≡◌, ℕ, eqb, cond, zero, suc, ◌<◌, ◌≤◌, ◌+◌, Bool, true, false, List, [], ◌∷◌, ◌++◌, length, get_or, drop, Option, Some, None, refl, ap, sym, subst, ◌∙◌, arith, append_assoc, append-nil, add-one, drop-cons, inl, inr}
use Rattle.std.specs.Prelude.{◌&&◌, is_none, is_some, option_map, slice_get}
use Rattle.std.proofs.lemmas.List.{drop_all, at_drop_more, at_drop_all, length-map}
use Rattle.std.proofs.lemmas.Option.{slice_get-get_or, slice_get_past}
use Rattle.sketch_base.specs.declared.error.ErrorKind.{ErrorKind}
use Rattle.sketch_base.specs.declared.error.ErrorKind.TheVariants.{InvalidArgument}
use Rattle.sketch_base.specs.Seed.{seed_hash}
use Rattle.core_laws.specs.Settings.{settings_refusal}
use Rattle.core_laws.specs.declared.TheConstants.{MAX_THETA}
use Rattle.std.proofs.lemmas.Bool.Decides.{nat_tests}
use Rattle.core_compact.specs.CompactState.{Compact, compact_value, IsAnswer, ordered_sketch}
use Rattle.core_compact.proofs.Answered.{answer-value}
use Rattle.core_laws.specs.Values.{Sketch, Empty, NonEmpty}
use Rattle.expression_text.specs.declared.operator.Operator.{Operator}
use Rattle.expression_text.specs.declared.operator.Step.{Step}
use Rattle.expression_text.specs.declared.operator.Step.TheVariants.{Operand, Combine}
use Rattle.expression_text.specs.Expressions.{Expression, Named, Grouped, Combined, postfix, HasIndicesBelow}
use Rattle.expression_text.specs.declared.operator.Operator.TheVariants.{Union, Intersection, Difference}
use Rattle.expression_evaluation.specs.Values.{Rules, applied, hash_rules, expression_value}
use Rattle.expression_evaluation.specs.Running.{values_by, after_step, after_steps, only_value, result_of, values_onto, AreOrderedSketches, is_accepted, are_accepted, refusal_by, AreRefused, MayRefuse, MayRefuseStep, MayRefuseTwo}

split_at : (steps : List Step) (i : ℕ) (d : Step) → i < length steps → drop i steps ≡ get_or steps i d ∷ drop (i + 1) steps
split_at steps i d lt = rw add-one (drop-cons steps i d lt)

refused_none : (b : Bool) → cond (b && false) None (Some InvalidArgument) ≡ Some InvalidArgument
refused_none true = refl
refused_none false = refl

accepted_some : {X : Type 0} (o : Option ErrorKind) (b : Bool) (r : Option (Sketch X)) (v : Sketch X) → o ≡ None → b ≡ true → r ≡ Some v → cond (is_none o && b && is_some r) None (Some InvalidArgument) ≡ None
accepted_some o b r v settings accepted has = rw (settings, accepted, has) refl

module _ {X : Type 0} (rules : Rules X) (lg_k : ℕ) (values : List (Sketch X)) where
  -- the steps of an expression push its value
  steps_run : (e : Expression) (rest : List Step) (stack : List (Sketch X)) → HasIndicesBelow (length values) e →
      after_steps rules lg_k values (postfix e ++ rest) (Some stack) ≡ after_steps rules lg_k values rest (Some (expression_value rules lg_k values e ∷ stack))
  steps_run (Named i) rest stack within = ap (λ o. after_steps rules lg_k values rest (option_map (λ v. v ∷ stack) o)) (slice_get-get_or values i Empty within)
  steps_run (Grouped e) rest stack within = steps_run e rest stack within
  steps_run (Combined op a b) rest stack within =
      ap (λ steps. after_steps rules lg_k values steps (Some stack)) (append_assoc (postfix a) (postfix b ++ Combine op ∷ []) rest)
      ∙ steps_run a ((postfix b ++ Combine op ∷ []) ++ rest) stack within.0
      ∙ ap (λ steps. after_steps rules lg_k values steps (Some (expression_value rules lg_k values a ∷ stack))) (append_assoc (postfix b) (Combine op ∷ []) rest)
      ∙ steps_run b (Combine op ∷ rest) (expression_value rules lg_k values a ∷ stack) within.1

  pub expression_result : (e : Expression) → HasIndicesBelow (length values) e → after_steps rules lg_k values (postfix e) (Some []) ≡ Some (expression_value rules lg_k values e ∷ [])
  expression_result e within = ap (λ steps. after_steps rules lg_k values steps (Some [])) (sym (append-nil (postfix e))) ∙ steps_run e [] [] within

  -- ---- steps one after another

  none_stays : (steps : List Step) → after_steps rules lg_k values steps None ≡ None
  none_stays [] = refl
  none_stays (step ∷ steps) = refl

  -- a step that can't run leaves no result
  pub step_missing : (steps : List Step) (i : ℕ) (d : Step) (stack : List (Sketch X)) → i < length steps → after_steps rules lg_k values steps (Some []) ≡ after_steps rules lg_k values (drop i steps) (Some stack) →
      after_step rules lg_k values (get_or steps i d) stack ≡ None → result_of rules lg_k values steps ≡ None
  step_missing steps i d stack lt so_far missing =
      ap only_value (so_far ∙ ap (λ left. after_steps rules lg_k values left (Some stack)) (split_at steps i d lt) ∙ ap (after_steps rules lg_k values (drop (i + 1) steps)) missing ∙ none_stays (drop (i + 1) steps))

  -- a merge that the next step refuses is refused by the steps that are left
  pub refused_next : (steps : List Step) (i : ℕ) (d : Step) (stack : List (Sketch X)) → i < length steps → MayRefuseStep rules (get_or steps i d) stack → MayRefuse rules lg_k values (drop i steps) (Some stack)
  refused_next steps i d stack lt refused = subst (λ left. MayRefuse rules lg_k values left (Some stack)) (sym (split_at steps i d lt)) (inl refused)

-- ---- answers

module _ {X : Type 0} (key : X → ℕ) where
  -- an ordered answer is the ordered sketch of its value
  pub answer_sketch : (v : Sketch X) (h : ℕ) (s : Compact X) → IsAnswer key v h true s → s ≡ ordered_sketch v h
  answer_sketch Empty h s answer = answer
  answer_sketch (NonEmpty v) h s answer = λ i. record { empty = answer.nonempty i; entries = answer.in_order answer.ordered_if i; theta = answer.same_theta i; seed_hash = answer.same_seed i; ordered = answer.ordered_if i }

  -- an answer is that of its own value
  pub answer_own : (v : Sketch X) (h : ℕ) (s : Compact X) → IsAnswer key v h true s → IsAnswer key (compact_value key s) h true s
  answer_own v h s answer = subst (λ u. IsAnswer key u h true s) (sym (answer-value key v h true s answer)) answer

module _ {S X : Type 0} (rules : Rules X) (read : S → Compact X) where
  abbrev value : S → Sketch X
  value s = compact_value rules.key (read s)

  -- ---- the stack as a list of sketches, the last one last

  pub values_onto-more : (sketches : List S) (s : S) (stack : List (Sketch X)) → values_onto rules read (sketches ++ s ∷ []) stack ≡ compact_value rules.key (read s) ∷ values_onto rules read sketches stack
  values_onto-more [] s stack = refl
  values_onto-more (t ∷ sketches) s stack = values_onto-more sketches s (compact_value rules.key (read t) ∷ stack)

  pub ordered-more : (h : ℕ) (sketches : List S) (s : S) → AreOrderedSketches rules read h sketches → IsAnswer rules.key (compact_value rules.key (read s)) h true (read s) → AreOrderedSketches rules read h (sketches ++ s ∷ [])
  ordered-more h [] s all one = (one, tt)
  ordered-more h (t ∷ sketches) s all one = (all.0, ordered-more h sketches s all.1 one)

  pub ordered-less : (h : ℕ) (sketches : List S) (s : S) → AreOrderedSketches rules read h (sketches ++ s ∷ []) → AreOrderedSketches rules read h sketches
  ordered-less h [] s all = tt
  ordered-less h (t ∷ sketches) s all = (all.0, ordered-less h sketches s all.1)

  pub ordered-last : (h : ℕ) (sketches : List S) (s : S) → AreOrderedSketches rules read h (sketches ++ s ∷ []) → IsAnswer rules.key (compact_value rules.key (read s)) h true (read s)
  ordered-last h [] s all = all.0
  ordered-last h (t ∷ sketches) s all = ordered-last h sketches s all.1

  -- the last two values, on a stack
  pub last_two : (items rest front : List S) (first second : S) → items ≡ rest ++ second ∷ [] → rest ≡ front ++ first ∷ [] →
      values_onto rules read items [] ≡ compact_value rules.key (read second) ∷ compact_value rules.key (read first) ∷ values_onto rules read front []
  last_two items rest front first second items_are rest_is =
      ap (λ xs. values_onto rules read xs []) items_are ∙ values_onto-more rest second [] ∙ ap (λ xs. value second ∷ values_onto rules read xs []) rest_is ∙ ap (λ (vs : List (Sketch X)). value second ∷ vs) (values_onto-more front first [])

  -- the last two values are applied
  pub combined_last : (lg_k : ℕ) (op : Operator) (items rest front new : List S) (first second sketch : S) → items ≡ rest ++ second ∷ [] → rest ≡ front ++ first ∷ [] → new ≡ front ++ sketch ∷ [] →
      compact_value rules.key (read sketch) ≡ applied rules lg_k op (compact_value rules.key (read first)) (compact_value rules.key (read second)) → after_step rules lg_k [] (Combine op) (values_onto rules read items []) ≡ Some (values_onto rules read new [])
  combined_last lg_k op items rest front new first second sketch items_are rest_is new_is is =
      ap (after_step rules lg_k [] (Combine op)) (last_two items rest front first second items_are rest_is) ∙ ap (λ (v : Sketch X). Some (v ∷ values_onto rules read front [])) (sym is) ∙ ap (λ (vs : List (Sketch X)). Some vs) (sym (ap (λ xs. values_onto rules read xs []) new_is ∙ values_onto-more front sketch []))

  -- a merge of them may be refused
  pub refused_last : (op : Operator) (items rest front : List S) (first second : S) → items ≡ rest ++ second ∷ [] → rest ≡ front ++ first ∷ [] →
      MayRefuseStep rules (Combine op) (compact_value rules.key (read second) ∷ compact_value rules.key (read first) ∷ []) → MayRefuseStep rules (Combine op) (values_onto rules read items [])
  refused_last op items rest front first second items_are rest_is refused = subst (λ (vs : List (Sketch X)). MayRefuseStep rules (Combine op) vs) (sym (last_two items rest front first second items_are rest_is)) refused

  value_at : (sketches : List S) (i : ℕ) (s : S) → slice_get sketches i ≡ Some s → slice_get (values_by rules read sketches) i ≡ Some (compact_value rules.key (read s))
  value_at [] i s found = absurd (let none : ◌≡◌ {A = Option S} None (Some s) = sym (slice_get_past [] i (omega arith)) ∙ found in cc)
  value_at (t ∷ sketches) zero s found = ap (option_map (λ r. compact_value rules.key (read r))) found
  value_at (t ∷ sketches) (suc i) s found = value_at sketches i s found

  -- ---- sketches that are accepted

  pub accepted_next : (h : ℕ) (sketches : List S) (i : ℕ) (d : S) (b : Bool) → i < length sketches → d ≡ get_or sketches i d → is_accepted h (read d) ≡ b → are_accepted read h (drop i sketches) ≡ (b && are_accepted read h (drop (i + 1) sketches))
  accepted_next h sketches i d b lt is one =
      at_drop_more (are_accepted read h) sketches i d lt ∙ ap (λ c. c && are_accepted read h (drop (i + 1) sketches)) (ap (λ s. is_accepted h (read s)) (sym is) ∙ one)

  pub accepted_end : (h : ℕ) (sketches : List S) (i : ℕ) → length sketches ≤ i → are_accepted read h (drop i sketches) ≡ true
  accepted_end h sketches i le = at_drop_all (are_accepted read h) sketches i le

  -- ---- the end of all steps

  -- all steps have run
  pub all_run : (lg_k : ℕ) (values : List (Sketch X)) (steps : List Step) (i : ℕ) (items rest : List S) (last : S) → length steps ≤ i → after_steps rules lg_k values steps (Some []) ≡ after_steps rules lg_k values (drop i steps) (Some (values_onto rules read items [])) →
      items ≡ rest ++ last ∷ [] → after_steps rules lg_k values steps (Some []) ≡ Some (compact_value rules.key (read last) ∷ values_onto rules read rest [])
  all_run lg_k values steps i items rest last le so_far is =
      so_far ∙ ap (λ left. after_steps rules lg_k values left (Some (values_onto rules read items []))) (drop_all i steps le) ∙ ap (λ xs. Some (values_onto rules read xs [])) is ∙ ap (λ (vs : List (Sketch X)). Some vs) (values_onto-more rest last [])

  onto_some : (sketches : List S) (v : Sketch X) (stack : List (Sketch X)) → (w : Sketch X) × (ws : List (Sketch X)) × (values_onto rules read sketches (v ∷ stack) ≡ w ∷ ws)
  onto_some [] v stack = (v, stack, refl)
  onto_some (s ∷ sketches) v stack = onto_some sketches (compact_value rules.key (read s)) (v ∷ stack)

  many_left : (rest : List S) (w : Sketch X) → false ≡ eqb (length rest) 0 → only_value (Some (w ∷ values_onto rules read rest [])) ≡ None
  many_left [] w some = absurd (cc)
  many_left (s ∷ rest) w some = let more = onto_some rest (compact_value rules.key (read s)) [] in ap (λ vs. only_value (Some (w ∷ vs))) more.2

  one_left : (rest : List S) (w : Sketch X) → true ≡ eqb (length rest) 0 → only_value (Some (w ∷ values_onto rules read rest [])) ≡ Some w
  one_left [] w none = refl
  one_left (s ∷ rest) w none = absurd (let e : eqb (length (s ∷ rest)) 0 ≡ true = sym none in grind (arith, nat_tests))

  -- a run that leaves more than one value has no result, and one that leaves one value has it
  pub no_result_left : (lg_k : ℕ) (values : List (Sketch X)) (steps : List Step) (i : ℕ) (items rest : List S) (last : S) → length steps ≤ i → after_steps rules lg_k values steps (Some []) ≡ after_steps rules lg_k values (drop i steps) (Some (values_onto rules read items [])) →
      items ≡ rest ++ last ∷ [] → false ≡ eqb (length rest) 0 → result_of rules lg_k values steps ≡ None
  no_result_left lg_k values steps i items rest last le so_far is some = ap only_value (all_run lg_k values steps i items rest last le so_far is) ∙ many_left rest (compact_value rules.key (read last)) some

  pub result_left : (lg_k : ℕ) (values : List (Sketch X)) (steps : List Step) (i : ℕ) (items rest : List S) (last : S) → length steps ≤ i → after_steps rules lg_k values steps (Some []) ≡ after_steps rules lg_k values (drop i steps) (Some (values_onto rules read items [])) →
      items ≡ rest ++ last ∷ [] → true ≡ eqb (length rest) 0 → result_of rules lg_k values steps ≡ Some (compact_value rules.key (read last))
  result_left lg_k values steps i items rest last le so_far is none = ap only_value (all_run lg_k values steps i items rest last le so_far is) ∙ one_left rest (compact_value rules.key (read last)) none

  first_value : Option (List (Sketch X)) → Sketch X
  first_value None = Empty
  first_value (Some []) = Empty
  first_value (Some (v ∷ stack)) = v

  -- the last value is that of the expression
  pub last_value : (lg_k : ℕ) (sketches : List S) (steps : List Step) (last : Sketch X) (stack : List (Sketch X)) (e : Expression) → after_steps rules lg_k (values_by rules read sketches) steps (Some []) ≡ Some (last ∷ stack) →
      steps ≡ postfix e → HasIndicesBelow (length sketches) e → last ≡ expression_value rules lg_k (values_by rules read sketches) e
  unfolding first_value
  last_value lg_k sketches steps last stack e ran is within =
      let inside : HasIndicesBelow (length (values_by rules read sketches)) e = subst (λ (n : ℕ). HasIndicesBelow n e) (sym (length-map sketches (λ s. compact_value rules.key (read s)))) within in
      ap first_value (sym ran ∙ ap (λ xs. after_steps rules lg_k (values_by rules read sketches) xs (Some [])) is ∙ expression_result rules lg_k (values_by rules read sketches) e inside)

  -- ---- refusals

  -- steps without a result are refused
  pub no_result : (seed lg_k : ℕ) (steps : List Step) (sketches : List S) → result_of rules lg_k (values_by rules read sketches) steps ≡ None → refusal_by rules read seed lg_k steps sketches ≡ Some InvalidArgument
  no_result seed lg_k steps sketches none =
      ap (λ o. cond (is_none (settings_refusal lg_k MAX_THETA seed) && are_accepted read (seed_hash seed) sketches && is_some o) None (Some InvalidArgument)) none
      ∙ refused_none (is_none (settings_refusal lg_k MAX_THETA seed) && are_accepted read (seed_hash seed) sketches)

  -- steps with a result, over accepted settings and sketches, are not refused
  pub one_result : (seed lg_k : ℕ) (steps : List Step) (sketches : List S) (v : Sketch X) → settings_refusal lg_k MAX_THETA seed ≡ None → are_accepted read (seed_hash seed) sketches ≡ true → result_of rules lg_k (values_by rules read sketches) steps ≡ Some v →
      refusal_by rules read seed lg_k steps sketches ≡ None
  one_result seed lg_k steps sketches v settings accepted has = accepted_some (settings_refusal lg_k MAX_THETA seed) (are_accepted read (seed_hash seed) sketches) (result_of rules lg_k (values_by rules read sketches) steps) v settings accepted has

-- an operand is pushed
pub operand_run : {N S X : Type 0} (rules : Rules X) (named : N → Compact X) (read : S → Compact X) (lg_k : ℕ) (sketches : List N) (step : Step) (i : ℕ) (s : N) (same : S) (items new : List S) → step ≡ Operand i → slice_get sketches i ≡ Some s → new ≡ items ++ same ∷ [] →
    compact_value rules.key (read same) ≡ compact_value rules.key (named s) → after_step rules lg_k (values_by rules named sketches) step (values_onto rules read items []) ≡ Some (values_onto rules read new [])
operand_run {N} {S} {X} rules named read lg_k sketches step i s same items new is found new_is value_is =
    ap (λ x. after_step rules lg_k (values_by rules named sketches) x (values_onto rules read items [])) is ∙ ap (option_map (λ (v : Sketch X). v ∷ values_onto rules read items [])) (value_at rules named sketches i s found)
    ∙ ap (λ (v : Sketch X). Some (v ∷ values_onto rules read items [])) (sym value_is) ∙ ap (λ (vs : List (Sketch X)). Some vs) (sym (ap (λ xs. values_onto rules read xs []) new_is ∙ values_onto-more rules read items same []))

-- ---- hashes, of which no merge is refused

none_refused : (a b : Sketch ℕ) → AreRefused hash_rules a b → ⊥
none_refused Empty b refused = refused
none_refused (NonEmpty a) Empty refused = refused
none_refused (NonEmpty a) (NonEmpty b) refused = let never : false ≡ true = refused.refused in absurd (cc)

two_unrefused : (op : Operator) (a b : Sketch ℕ) → MayRefuseTwo hash_rules op a b → ⊥
two_unrefused Union a b refused = none_refused a b refused
two_unrefused Intersection a b refused = none_refused a b refused
two_unrefused Difference a b refused = refused

step_unrefused : (step : Step) (stack : List (Sketch ℕ)) → MayRefuseStep hash_rules step stack → ⊥
step_unrefused (Operand i) stack refused = refused
step_unrefused (Combine op) [] refused = refused
step_unrefused (Combine op) (b ∷ []) refused = refused
step_unrefused (Combine op) (b ∷ a ∷ stack) refused = two_unrefused op a b refused

pub hashes_unrefused : (lg_k : ℕ) (values : List (Sketch ℕ)) (steps : List Step) (stack : Option (List (Sketch ℕ))) → MayRefuse hash_rules lg_k values steps stack → ⊥
hashes_unrefused lg_k values [] stack refused = refused
hashes_unrefused lg_k values (step ∷ steps) None refused = refused
hashes_unrefused lg_k values (step ∷ steps) (Some stack) (inl refused) = step_unrefused step stack refused
hashes_unrefused lg_k values (step ∷ steps) (Some stack) (inr refused) = hashes_unrefused lg_k values steps (after_step hash_rules lg_k values step stack) refused
