use Rattle.std.proofs.Common.{[], ◌∷◌, true, subst}
use Rattle.sketch_base.specs.Seed.{seed_hash}
use Rattle.core_compact.specs.CompactState.{compact_value, IsAnswer, ordered_sketch}
use Rattle.core_laws.specs.Entries.{hash_key}
use Rattle.core_operators.specs.Union.{union_value}
use Rattle.expression_evaluation.specs.Contents.{contents_of}
use Rattle.expression_evaluation.specs.OpenUnions.{united}
use Rattle.expression_evaluation.proofs.OpenUnions.{still_open, united_two}
use Rattle.expression_evaluation.proofs.theta.union_of.Goals as goal

pub invariant_of-result : goal.invariant_of-result
invariant_of-result g c =
    record { open_union = still_open c.args.lg_k (seed_hash c.args.seed) c.in_ok-union.union c.unite_sketch.new.union (compact_value hash_key (contents_of c.args.first)) (compact_value hash_key c.in_ok-sketch.sketch) c.in_ok-union.ensures.opened c.in_ok-unite_sketch.ensures.made c.in_ok-unite_sketch.ensures.united }

pub returns-clause-value : goal.returns-clause-value
returns-clause-value g c =
    let lg = c.args.lg_k in
    let h = seed_hash c.args.seed in
    let new = c.unite_sketch.new.union in
    let a = compact_value hash_key (contents_of c.args.first) in
    subst (λ s. IsAnswer hash_key (united lg (a ∷ compact_value hash_key s ∷ [])) h true (ordered_sketch (union_value hash_key new) new.seed_hash)) c.in_ok-sketch.ensures.contents
    (united_two lg h c.in_ok-union.union new a (compact_value hash_key c.in_ok-sketch.sketch) c.in_ok-union.ensures.opened c.in_ok-unite_sketch.ensures.made c.in_ok-unite_sketch.ensures.united)
