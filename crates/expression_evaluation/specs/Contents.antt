-- The sketches that results of steps stand for.
use Rattle.std.specs.Prelude.{ℕ}
use Rattle.core_compact.specs.CompactState.{Compact, ordered_sketch}
use Rattle.core_laws.specs.Entries.{hash_key}
use Rattle.core_operators.specs.Union.{union_value}
use Rattle.expression_evaluation.specs.declared.results.ThetaResult.{ThetaResult}
use Rattle.expression_evaluation.specs.declared.results.ThetaResult.TheVariants.{Made, Open}

-- the sketch of a result: that of an open union is the ordered one of its value
abbrev pub contents_of : {A : Type 0} → ThetaResult A → Compact ℕ
contents_of (Made s) = s
contents_of (Open u) = ordered_sketch (union_value hash_key u.union) u.union.seed_hash
