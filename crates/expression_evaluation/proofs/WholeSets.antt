-- Expressions of samples are samples of the expressions of their whole maps.
use Rattle.std.proofs.Common.{ℕ, zero, suc, ◌^◌, List, [], ◌∷◌, get_or, refl}
use Rattle.core_laws.specs.declared.TheConstants.{MAX_THETA}
use Rattle.core_laws.specs.Entries.{KeepsKey}
use Rattle.core_laws.specs.Samples.{IsSample, AreSamples}
use Rattle.core_laws.specs.Values.{Sketch, Empty}
use Rattle.core_laws.proofs.maps.Ascending.{ascending-nil}
use Rattle.core_laws.proofs.operators.Samples.{union_samples, meet_samples, minus_samples}
use Rattle.expression_text.specs.declared.operator.Operator.{Operator}
use Rattle.expression_text.specs.declared.operator.Operator.TheVariants.{Union, Intersection, Difference}
use Rattle.expression_text.specs.Expressions.{Expression, Named, Grouped, Combined}
use Rattle.expression_evaluation.specs.Values.{Rules, applied, expression_value, combined_maps, expression_whole}

module _ {X : Type 0} (rules : Rules X) (keeps : KeepsKey rules.key rules.merges) where
  no_sample : IsSample rules.key Empty []
  no_sample = record { ascending = ascending-nil rules.key; carried = tt; all_below = refl }

  sample_at : (values : List (Sketch X)) (wholes : List (List X)) (i : ℕ) → AreSamples rules.key values wholes → IsSample rules.key (get_or values i Empty) (get_or wholes i [])
  sample_at [] [] i all = no_sample
  sample_at [] (whole ∷ wholes) i all = absurd all
  sample_at (v ∷ values) [] i all = absurd all
  sample_at (v ∷ values) (whole ∷ wholes) zero all = all.0
  sample_at (v ∷ values) (whole ∷ wholes) (suc i) all = sample_at values wholes i all.1

  combined_sample : (lg_k : ℕ) (op : Operator) (a b : Sketch X) (ws ys : List X) → IsSample rules.key a ws → IsSample rules.key b ys → IsSample rules.key (applied rules lg_k op a b) (combined_maps rules op ws ys)
  combined_sample lg_k Union a b ws ys sa sb = union_samples rules.key rules.merges keeps (2 ^ lg_k) MAX_THETA (a ∷ b ∷ []) (ws ∷ ys ∷ []) (sa, (sb, tt))
  combined_sample lg_k Intersection a b ws ys sa sb = meet_samples rules.key rules.merges keeps a (b ∷ []) ws (ys ∷ []) sa (sb, tt)
  combined_sample lg_k Difference a b ws ys sa sb = minus_samples rules.key rules.key a b ws ys sa sb

  -- the value of an expression over samples is a sample of the same expression of the whole maps
  pub expression_sample : (lg_k : ℕ) (values : List (Sketch X)) (wholes : List (List X)) (e : Expression) → AreSamples rules.key values wholes → IsSample rules.key (expression_value rules lg_k values e) (expression_whole rules wholes e)
  expression_sample lg_k values wholes (Named i) all = sample_at values wholes i all
  expression_sample lg_k values wholes (Grouped e) all = expression_sample lg_k values wholes e all
  expression_sample lg_k values wholes (Combined op a b) all =
      combined_sample lg_k op (expression_value rules lg_k values a) (expression_value rules lg_k values b) (expression_whole rules wholes a) (expression_whole rules wholes b) (expression_sample lg_k values wholes a all) (expression_sample lg_k values wholes b all)
