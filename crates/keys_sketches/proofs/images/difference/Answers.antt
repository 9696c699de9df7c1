use Rattle.std.proofs.Common.{Some, ap, sym, ◌∙◌}
use Rattle.std.proofs.lemmas.Result.{err_from_is_err_and}
use Rattle.sketch_base.specs.Seed.{seed_hash}
use Rattle.core_compact.specs.CompactState.{shown_of}
use Rattle.core_laws.specs.Entries.{hash_key}
use Rattle.core_operators.specs.ANotB.{difference_refusal}
use Rattle.core_operators.specs.Intersection.{seed_refusal}
use Rattle.keys_sketches.specs.Meeting.{refusal_of_difference}
use Rattle.keys_sketches.proofs.Refused.{only_kind, refuses_kind, first_some}
use Rattle.keys_sketches.proofs.images.difference.Goals as goal

pub returns-in_err-operator-clause-refused : goal.returns-in_err-operator-clause-refused
returns-in_err-operator-clause-refused g c =
    let p = err_from_is_err_and c.from_residual.result c.from_residual.ensures.1 in
    let kind = only_kind (seed_refusal c.args.seed) c.in_err-operator.field-0.0 c.in_err-operator.ensures.refused in
    let others = difference_refusal (seed_hash c.args.seed) (shown_of hash_key c.args.first.now) (shown_of hash_key c.args.second.now) in
    refuses_kind c.from_residual.result (refusal_of_difference c.args.seed c.args.first.now c.args.second.now) p.0 p.1
    (first_some (seed_refusal c.args.seed) others c.in_err-operator.field-0.0 kind ∙ ap (λ k. Some k) (sym p.2))
