-- The sketches of an expression's names against their whole streams, and that nothing but memory refuses its evaluation.
use Rattle.std.proofs.Common.{◌≡◌, ℕ, Bool, true, false, List, [], ◌∷◌, length, map, Option, Some, None, refl, sym, ap, subst, ◌∙◌, arith, inl, inr}
use Rattle.std.specs.Prelude.{◌&&◌, ◌||◌, ◌==◌, ◌⊎◌}
use Rattle.sketch_base.specs.declared.error.ErrorKind.{ErrorKind}
use Rattle.sketch_base.specs.declared.error.ErrorKind.TheVariants.{OutOfMemory, Policy}
use Rattle.std.proofs.lemmas.Bool.Decides.{nat_tests}
use Rattle.std.proofs.lemmas.List.{length-map}
use Rattle.sketch_base.specs.Seed.{seed_hash}
use Rattle.core_compact.specs.CompactState.{Compact, compact_value}
use Rattle.core_laws.specs.Entries.{hash_key}
use Rattle.core_laws.specs.Samples.{IsSample, AreSamples}
use Rattle.core_laws.specs.Settings.{settings_refusal}
use Rattle.core_laws.specs.Values.{Sketch}
use Rattle.core_laws.specs.declared.TheConstants.{MAX_THETA}
use Rattle.keys_lines.specs.Lines.{lines_of}
use Rattle.keys_sketches.specs.Keys.{key_set}
use Rattle.keys_sketches.specs.Shards.{sketches_of_texts}
use Rattle.keys_sketches.proofs.Shards.{part_of}
use Rattle.keys_sketches.proofs.Rereads.{value_again}
use Rattle.expression_text.specs.declared.operator.Step.{Step}
use Rattle.expression_text.specs.Expressions.{Expression, postfix, HasIndicesBelow}
use Rattle.expression_evaluation.specs.Values.{Rules, hash_rules, expression_value, hashes_value, set_of}
use Rattle.expression_evaluation.specs.Running.{values_of, values_by, after_steps, only_value, are_accepted, refusal_by, IsEvaluationError}
use Rattle.expression_evaluation.proofs.RunSteps.{expression_result, one_result}
use Rattle.expression_evaluation.proofs.WholeSets.{expression_sample}
use Rattle.distinct_arguments.specs.Settings.{OptionValues}
use Rattle.distinct_inputs.specs.Failures.{chosen_hashing}
use Rattle.distinct_commands.specs.Eval.{AreOperands, AreWholeSets}
use Rattle.distinct_inputs.specs.Seeds.{AreSeeded}

module _ (options : OptionValues) (seed : ℕ) where
  text_samples : (texts : List (List ℕ)) → AreSamples hash_key (values_of (sketches_of_texts (chosen_hashing options seed) options.lg_k texts)) (map (λ text. key_set (chosen_hashing options seed) (lines_of text)) texts)
  text_samples [] = tt
  text_samples (text ∷ texts) =
      let hashing = chosen_hashing options seed in
      let lines = lines_of text in
      let V : Sketch ℕ → Type 0 = λ v. IsSample hash_key v (key_set hashing lines) in
      (subst V (sym (value_again hashing options.lg_k lines)) (part_of hashing options.lg_k lines).sample, text_samples texts)

  operand_samples : (keys : Bool) (texts : List (List ℕ)) (sketches : List (Compact ℕ)) (sets : List (List ℕ)) → AreOperands keys options seed texts sketches → AreWholeSets keys options seed texts sketches sets → AreSamples hash_key (values_of sketches) sets
  operand_samples true texts sketches sets operands are =
      let S : List (List ℕ) → Type 0 = λ all. AreSamples hash_key (values_of sketches) all in
      let O : List (Compact ℕ) → Type 0 = λ ss. AreSamples hash_key (values_of ss) (map (λ text. key_set (chosen_hashing options seed) (lines_of text)) texts) in
      subst S (sym are) (subst O (sym operands) (text_samples texts))
  operand_samples false texts sketches sets operands are = are

  -- the result is a sample of the expression of the whole streams
  pub whole_result : (texts : List (List ℕ)) (sketches : List (Compact ℕ)) (e : Expression) → AreOperands options.keys options seed texts sketches → (sets : List (List ℕ)) → AreWholeSets options.keys options seed texts sketches sets →
      IsSample hash_key (hashes_value options.lg_k (values_of sketches) e) (set_of sets e)
  whole_result texts sketches e operands sets are = expression_sample hash_rules (λ x y same. same) options.lg_k (values_of sketches) sets e (operand_samples options.keys texts sketches sets operands are)

-- ---- sketches of one seed are accepted

one_seed : (h x : ℕ) (empty : Bool) → x ≡ h → (empty || h == x) ≡ true
one_seed h x true same = refl
one_seed h x false same = grind (arith, nat_tests)

module _ {X : Type 0} (rules : Rules X) where
  seeds_accepted : (seed : ℕ) (sketches : List (Compact X)) → AreSeeded seed sketches → are_accepted (λ s. s) (seed_hash seed) sketches ≡ true
  seeds_accepted seed [] seeded = refl
  seeds_accepted seed (s ∷ sketches) seeded =
      ap (λ b. b && are_accepted (λ r. r) (seed_hash seed) sketches) (one_seed (seed_hash seed) s.seed_hash s.empty seeded.0) ∙ seeds_accepted seed sketches seeded.1

  -- the evaluation of an expression over them is refused for memory, or by a merge, alone
  pub evaluation_accepted : (seed lg_k : ℕ) (steps : List Step) (sketches : List (Compact X)) (e : Expression) → settings_refusal lg_k MAX_THETA seed ≡ None → AreSeeded seed sketches → HasIndicesBelow (length sketches) e → steps ≡ postfix e →
      refusal_by rules (λ s. s) seed lg_k steps sketches ≡ None
  evaluation_accepted seed lg_k steps sketches e settings seeded within is =
      let values = values_by rules (λ s. s) sketches in
      let inside : HasIndicesBelow (length values) e = subst (λ (n : ℕ). HasIndicesBelow n e) (sym (length-map sketches (λ s. compact_value rules.key s))) within in
      one_result rules (λ s. s) seed lg_k steps sketches (expression_value rules lg_k values e) settings (seeds_accepted seed sketches seeded)
      (ap (λ ss. only_value (after_steps rules lg_k values ss (Some []))) is ∙ ap only_value (expression_result rules lg_k values e inside))

-- .. so the error is one of these
pub merge_alone : (refusal : Option ErrorKind) (may : Type 0) (e : ErrorKind) → refusal ≡ None → IsEvaluationError refusal may e → (e ≡ OutOfMemory) ⊎ (e ≡ Policy)
merge_alone refusal may e none (inl is) = let both : None ≡ Some e = sym none ∙ is in absurd (cc)
merge_alone refusal may e none (inr (inl memory)) = inl memory
merge_alone refusal may e none (inr (inr policy)) = inr policy.0

-- .. and by a merge only if one may be refused
pub merge_refused : (refusal : Option ErrorKind) (may : Type 0) (e : ErrorKind) → refusal ≡ None → IsEvaluationError refusal may e → e ≡ Policy → may
merge_refused refusal may e none (inl is) policy = let both : None ≡ Some e = sym none ∙ is in absurd (cc)
merge_refused refusal may e none (inr (inl memory)) policy = let both : OutOfMemory ≡ Policy = sym memory ∙ policy in absurd (cc)
merge_refused refusal may e none (inr (inr refused)) policy = refused.1
