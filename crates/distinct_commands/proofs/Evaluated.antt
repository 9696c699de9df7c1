-- Lines of texts sketched one after another, and the result of an expression.
use Rattle.std.proofs.Common.{◌≡◌, ℕ, true, List, [], ◌∷◌, ◌++◌, length, map, Option, String, string_bytes, Some, None, refl, sym, ap, subst, ◌∙◌, append_assoc}
use Rattle.std.proofs.lemmas.List.{length-map}
use Rattle.std.specs.Prelude.{IfSome, IfOk, Result, Ok, Err}
use Rattle.sketch_base.specs.Seed.{seed_hash}
use Rattle.core_compact.specs.CompactState.{Compact, ordered_sketch}
use Rattle.keys_sketches.specs.Sources.{GivesNext, Continues}
use Rattle.keys_sketches.specs.Shards.{sketches_of_texts}
use Rattle.expression_text.specs.declared.operator.Step.{Step}
use Rattle.expression_text.specs.Grammar.{IsExpressionText}
use Rattle.core_slots.specs.declared.entry.TupleEntry.{TupleEntry}
use Rattle.keys_sums.specs.Images.{AreReadSums}
use Rattle.expression_evaluation.specs.Values.{hashes_value, sum_rules, sums_value}
use Rattle.expression_evaluation.specs.Running.{values_of, sums_values}
use Rattle.expression_evaluation.proofs.WholeSets.{expression_sample}
use Rattle.distinct_arguments.specs.Settings.{OptionValues}
use Rattle.distinct_commands.proofs.WholeStreams.{whole_result}
use Rattle.distinct_inputs.specs.Lists.{names_of}
use Rattle.distinct_inputs.specs.Failures.{chosen_hashing, chosen_summary}
use Rattle.distinct_commands.specs.Eval.{sketch_of_text, SketchesFirst, SketchesNext, AreSketchesOfTexts, AreOperands, IsEvaluated, evaluated_text}
use Rattle.distinct_commands.specs.EvalSums.{IsSumsEvaluated, evaluated_sums_text}
use Rattle.distinct_inputs.specs.Images.{images_of}

mapped-more : {X Y : Type 0} (f : X → Y) (xs : List X) (x : X) → map f (xs ++ x ∷ []) ≡ map f xs ++ f x ∷ []
mapped-more f [] x = refl
mapped-more f (y ∷ ys) x = ap (λ zs. f y ∷ zs) (mapped-more f ys x)

module _ (options : OptionValues) (seed : ℕ) where
  sketched-more : (texts : List (List ℕ)) (sketches : List (Compact ℕ)) (text : List ℕ) (s : Compact ℕ) → AreSketchesOfTexts options seed texts sketches → s ≡ sketch_of_text options seed text → AreSketchesOfTexts options seed (texts ++ text ∷ []) (sketches ++ s ∷ [])
  sketched-more texts sketches text s all one =
      ap (λ ss. ss ++ s ∷ []) all
      ∙ ap (λ t. sketches_of_texts (chosen_hashing options seed) options.lg_k texts ++ t ∷ []) one
      ∙ sym (mapped-more (sketch_of_text options seed) texts text)

  one_sketched : (all taken left : List (List ℕ)) (sketches : List (Compact ℕ)) (s : Compact ℕ) (new : Option (List (List ℕ))) → all ≡ taken ++ left → AreSketchesOfTexts options seed taken sketches → SketchesFirst options seed left s new → Continues (Some all) new (λ ts. AreSketchesOfTexts options seed ts (sketches ++ s ∷ []))
  one_sketched all taken left sketches s new parted so_far first =
      subst (λ (o : Option (List (List ℕ))). Continues (Some all) o (λ ts. AreSketchesOfTexts options seed ts (sketches ++ s ∷ []))) (sym first.leaves) (
        taken ++ first.text ∷ [],
        parted ∙ ap (λ ts. taken ++ ts) first.parted ∙ sym (append_assoc taken (first.text ∷ []) first.texts_after),
        sketched-more taken sketches first.text s so_far first.sketched,
      )

  pub sketches_more : (old now new : Option (List (List ℕ))) (o : Option (Compact ℕ)) (s : Compact ℕ) (sketches : List (Compact ℕ)) → Continues old now (λ ts. AreSketchesOfTexts options seed ts sketches) → SketchesNext options seed now new o → o ≡ Some s → Continues old new (λ ts. AreSketchesOfTexts options seed ts (sketches ++ s ∷ []))
  sketches_more None now new o s sketches so_far next is = tt
  sketches_more (Some all) None new o s sketches so_far next is = absurd so_far
  sketches_more (Some all) (Some left) new o s sketches so_far next is = one_sketched all so_far.0 left sketches s new so_far.1 so_far.2 (subst (SketchesNext options seed (Some left) new) is next)

  pub next_sketched : {R : Type 0} (remaining : R → Option (List ℕ)) (old new : Option (List (List ℕ))) (source : R) (s : Compact ℕ) → GivesNext remaining old new (Some source) → IfSome (remaining source) (λ text. s ≡ sketch_of_text options seed text) → SketchesNext options seed old new (Some s)
  next_sketched remaining None new source s gives is = tt
  next_sketched remaining (Some texts) new source s gives is = record {
    text = gives.text;
    texts_after = gives.texts_left;
    parted = gives.parted;
    sketched = subst (λ o. IfSome o (λ text. s ≡ sketch_of_text options seed text)) gives.has is;
    leaves = gives.leaves;
  }

  -- the result of an expression
  pub evaluated : {V E A : Type 0} (r : Result V E) (items : V → List ℕ) (known : Option (List (List ℕ))) (text : List ℕ) (names : List (String A)) (steps : List Step) (sketches : List (Compact ℕ)) (s : Compact ℕ) →
      (spelled : IsExpressionText text (names_of names) steps) → IfSome known (λ texts. AreOperands options.keys options seed texts sketches) → length names ≡ length sketches →
      s ≡ ordered_sketch (hashes_value options.lg_k (values_of sketches) spelled.tree) (seed_hash seed) → IfOk r (λ v. items v ≡ evaluated_text options text s) →
      IfSome known (λ texts. IfOk r (λ v. IsEvaluated options seed text texts (items v)))
  evaluated r items None text names steps sketches s spelled operands counted value put = tt
  evaluated (Err e) items (Some texts) text names steps sketches s spelled operands counted value put = tt
  evaluated (Ok v) items (Some texts) text names steps sketches s spelled operands counted value put = record {
    names = names_of names;
    steps = steps;
    spelled = spelled;
    sketches = sketches;
    operands = operands;
    counted = length-map names (λ name. string_bytes name) ∙ counted;
    result = put ∙ ap (evaluated_text options text) value;
    whole = whole_result options seed texts sketches spelled.tree operands;
  }

  -- .. over sketches of sums
  pub sums_evaluated : {V E A : Type 0} (r : Result V E) (items : V → List ℕ) (known : Option (List (List ℕ))) (text : List ℕ) (names : List (String A)) (steps : List Step) (sketches : List (Compact (TupleEntry ℕ))) (s : Compact (TupleEntry ℕ)) →
      (spelled : IsExpressionText text (names_of names) steps) → IfSome known (λ texts. AreReadSums seed (images_of true options.hex texts) sketches) → length names ≡ length sketches →
      s ≡ ordered_sketch (sums_value (chosen_summary options) options.lg_k (sums_values sketches) spelled.tree) (seed_hash seed) → IfOk r (λ v. items v ≡ evaluated_sums_text options s) →
      IfSome known (λ texts. IfOk r (λ v. IsSumsEvaluated options seed text texts (items v)))
  sums_evaluated r items None text names steps sketches s spelled operands counted value put = tt
  sums_evaluated (Err e) items (Some texts) text names steps sketches s spelled operands counted value put = tt
  sums_evaluated (Ok v) items (Some texts) text names steps sketches s spelled operands counted value put = record {
    names = names_of names;
    steps = steps;
    spelled = spelled;
    sketches = sketches;
    operands = operands;
    counted = length-map names (λ name. string_bytes name) ∙ counted;
    result = put ∙ ap (evaluated_sums_text options) value;
    whole = λ wholes samples. expression_sample (sum_rules (chosen_summary options)) (λ x y same. same) options.lg_k (sums_values sketches) wholes spelled.tree samples;
  }
