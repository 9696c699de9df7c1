use Rattle.std.proofs.Common.{ℕ, ◌^◌, [], ◌∷◌, sym, ap, subst, ◌∙◌}
use Rattle.std.proofs.lemmas.Result.{err_from_is_err_and}
use Rattle.sketch_base.specs.Seed.{seed_hash}
use Rattle.core_compact.specs.CompactState.{compact_value}
use Rattle.core_laws.specs.Operators.{unite}
use Rattle.core_laws.specs.declared.TheConstants.{MAX_THETA}
use Rattle.core_operators.specs.Union.{Union, union_value}
use Rattle.core_slots.specs.Entry.{tuple_key}
use Rattle.core_slots.specs.declared.entry.TupleEntry.{TupleEntry}
use Rattle.tuple_sketches.specs.declared.numbers.SummaryMode.{SummaryMode}
use Rattle.tuple_sketches.specs.declared.numbers.NumberPolicy.{NumberPolicy}
use Rattle.expression_evaluation.specs.Values.{applied, sum_merged, sum_rules}
use Rattle.expression_evaluation.specs.Running.{AreRefused}
use Rattle.expression_text.specs.declared.operator.Operator.TheVariants.{Union as UnionOperator}
use Rattle.expression_evaluation.proofs.SumsRefused.{refused_part, refused_none}
use Rattle.expression_evaluation.proofs.TwoSketches.{merge_error, same_answer, nothing_united, one_united, two_united, one_seed}
use Rattle.expression_evaluation.proofs.sums.union_of.Goals as goal

pub returns-clause-value : goal.returns-clause-value
returns-clause-value g c =
    let lg = c.args.lg_k in
    let h = seed_hash c.args.seed in
    let start = c.in_ok-union.union.state in
    let one = c.unite_sketch.new.union.state in
    let two = c.unite_sketch-2.new.union.state in
    let a = compact_value tuple_key c.args.first in
    let b = compact_value tuple_key c.args.second in
    let made = c.in_ok-union.ensures.made in
    let made_one = c.in_ok-unite_sketch.ensures.made in
    let same = ap (λ (u : Union (TupleEntry ℕ) NumberPolicy). u.policy.mode) made_one in
    let merges = sum_merged one.policy.mode in
    let so_far = c.in_ok-unite_sketch.ensures.united [] (nothing_united tuple_key (sum_merged start.policy.mode) (λ x y same. same) lg h start made)
    ∙ ap (λ (m : SummaryMode). unite tuple_key (sum_merged m) (2 ^ start.lg_k) start.start (a ∷ [])) (sym same) in
    let first = one_united tuple_key merges (λ x y same. same) lg h start one made made_one a so_far in
    let both = two_united tuple_key merges (λ x y same. same) lg h start one made made_one two a b (c.in_ok-unite_sketch-2.ensures.united (a ∷ []) first)
    ∙ ap (λ (m : SummaryMode). unite tuple_key (sum_merged m) (2 ^ lg) MAX_THETA (a ∷ b ∷ [])) (same ∙ c.in_ok-union.ensures.mode) in
    same_answer tuple_key (union_value tuple_key two) (applied (sum_rules c.args.mode) lg UnionOperator a b) two.seed_hash h c.in_ok-sketch.sketch both
    (ap (λ u. u.seed_hash) c.in_ok-unite_sketch-2.ensures.made ∙ one_seed tuple_key merges (λ x y same. same) lg h start one made made_one) c.in_ok-sketch.ensures.value

pub returns-in_err-unite_sketch-clause-refused : goal.returns-in_err-unite_sketch-clause-refused
returns-in_err-unite_sketch-clause-refused g c =
    let p = err_from_is_err_and c.from_residual-in_err-unite_sketch.result c.from_residual-in_err-unite_sketch.ensures.1 in
    let start = c.in_ok-union.union.state in
    let a = compact_value tuple_key c.args.first in
    let none = ap (λ u. u.content.entries) c.in_ok-union.ensures.made in
    rw (p.1, p.2) (merge_error c.in_err-unite_sketch.field-0.0 (λ refused. absurd (refused_none start.policy.mode start a none refused)) c.in_err-unite_sketch.ensures.refused)

pub returns-in_err-unite_sketch-2-clause-refused : goal.returns-in_err-unite_sketch-2-clause-refused
returns-in_err-unite_sketch-2-clause-refused g c =
    let p = err_from_is_err_and c.from_residual-in_err-unite_sketch-2.result c.from_residual-in_err-unite_sketch-2.ensures.1 in
    let one = c.unite_sketch.new.union.state in
    let a = compact_value tuple_key c.args.first in
    let b = compact_value tuple_key c.args.second in
    let none = ap (λ u. u.content.entries) c.in_ok-union.ensures.made in
    let same = ap (λ (u : Union (TupleEntry ℕ) NumberPolicy). u.policy.mode) c.in_ok-unite_sketch.ensures.made ∙ c.in_ok-union.ensures.mode in
    rw (p.1, p.2) (merge_error c.in_err-unite_sketch-2.field-0.0
    (λ refused. subst (λ (m : SummaryMode). AreRefused (sum_rules m) a b) same (refused_part one.policy.mode one a b (c.in_ok-unite_sketch.ensures.part none) refused))
    c.in_err-unite_sketch-2.ensures.refused)
