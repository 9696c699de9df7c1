-- The results of an expression over groups of images.
use Rattle.std.proofs.Common.{◌≡◌, ℕ, Bool, List, length, Option, Some, None, String, string_bytes, refl, sym, subst, ◌∙◌}
use Rattle.std.specs.Prelude.{IfSome, IfOk, Result, is_some}
use Rattle.std.specs.Option.{option_map}
use Rattle.std.proofs.lemmas.List.{length-map}
use Rattle.std.proofs.lemmas.Result.{IfOk-weaker}
use Rattle.core_compact.specs.CompactState.{Compact}
use Rattle.expression_text.specs.declared.operator.Step.{Step}
use Rattle.expression_text.specs.Expressions.{HasIndicesBelow}
use Rattle.expression_text.specs.Grammar.{IsExpressionText}
use Rattle.expression_evaluation.specs.Values.{hash_rules}
use Rattle.expression_evaluation.specs.Running.{values_of}
use Rattle.expression_evaluation.proofs.WholeSets.{expression_sample}
use Rattle.keys_joins.specs.Evaluated.{evaluated_group, groups_in, HasEvaluated, ListsEvaluated}
use Rattle.keys_joins.specs.declared.evaluated.EvaluatedGroups.{EvaluatedGroups}
use Rattle.distinct_arguments.specs.Settings.{OptionValues}
use Rattle.distinct_inputs.specs.Lists.{names_of}
use Rattle.distinct_commands.specs.EvalGroups.{AreEvaluated}
use Rattle.distinct_commands.specs.Groups.{listing_of, IsGroupsText}
use Rattle.distinct_commands.specs.declared.groups.Listing.{Listing}

-- whether there is an output
some_mapped : {X Y : Type 0} (f : X → Y) (o : Option X) → is_some (option_map f o) ≡ is_some o
some_mapped f None = refl
some_mapped f (Some x) = refl

pub output_listing : {X Y : Type 0} (f : X → Y) (output : Option X) (listing : Listing) (some : Bool) → listing ≡ listing_of some → some ≡ is_some output → listing ≡ listing_of (is_some (option_map f output))
output_listing f output listing some is found = subst (λ (b : Bool). listing ≡ listing_of b) (found ∙ sym (some_mapped f output)) is

module _ {V E A : Type 0} (r : Result V E) (items : V → List ℕ) (options : OptionValues) (seed : ℕ) (text : List ℕ) (names : List (String A)) (steps : List Step) (groups : EvaluatedGroups)
    (spelled : IsExpressionText text (names_of names) steps) (counted : length names ≡ length groups.tables.items)
    (printed : (sketch : List ℕ → Compact ℕ) (own : List (List ℕ)) → ListsEvaluated sketch own groups → IfOk r (λ v. IsGroupsText (listing_of (is_some options.output)) options sketch own (items v))) where
  of_texts : (texts : List (List ℕ)) → HasEvaluated seed options.lg_k steps texts groups → IfOk r (λ v. AreEvaluated options seed text texts (items v))
  of_texts texts has =
      let tree = spelled.tree in
      let all : length (names_of names) ≡ length has.files = length-map names (λ name. string_bytes name) ∙ counted ∙ sym has.counted in
      let within : HasIndicesBelow (length has.files) tree = subst (λ (n : ℕ). HasIndicesBelow n tree) all spelled.spelled.within in
      let sketch = evaluated_group seed options.lg_k tree has.files in
      IfOk-weaker r (λ v. IsGroupsText (listing_of (is_some options.output)) options sketch has.names (items v)) (λ v. AreEvaluated options seed text texts (items v))
      (λ v is. record {
        names = names_of names;
        steps = steps;
        spelled = spelled;
        files = has.files;
        united = has.united;
        counted = all;
        groups = has.names;
        named = has.named;
        printed = is;
        whole = λ group sets samples. expression_sample hash_rules (λ x y same. same) options.lg_k (values_of (groups_in seed has.files group)) sets tree samples;
      })
      (printed sketch has.names (has.lists tree spelled.steps_are within))

  pub groups_evaluated : (known : Option (List (List ℕ))) → IfSome known (λ texts. HasEvaluated seed options.lg_k steps texts groups) → IfSome known (λ texts. IfOk r (λ v. AreEvaluated options seed text texts (items v)))
  groups_evaluated None has = tt
  groups_evaluated (Some texts) has = of_texts texts has
