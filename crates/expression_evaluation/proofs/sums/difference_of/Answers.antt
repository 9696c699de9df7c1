use Rattle.std.proofs.Common.{ap, ◌∙◌}
use Rattle.sketch_base.specs.Seed.{seed_hash}
use Rattle.core_compact.specs.CompactState.{compact_value}
use Rattle.core_laws.specs.Entries.{hash_key}
use Rattle.core_laws.specs.Operators.{minus}
use Rattle.core_laws.specs.Shown.{shown_value}
use Rattle.core_slots.specs.Entry.{tuple_key}
use Rattle.core_state.specs.View.{shows, sequence}
use Rattle.expression_evaluation.proofs.TwoSketches.{difference_value, same_answers}
use Rattle.expression_evaluation.proofs.sums.difference_of.Goals as goal

pub returns-clause-value : goal.returns-clause-value
returns-clause-value g c = λ mode.
    let one = c.as_view.result in
    let two = c.as_view-2.result in
    let first = c.args.first in
    let second = c.args.second in
    let a = shown_value tuple_key (shows tuple_key one) (sequence one) in
    let b = shows tuple_key two in
    same_answers tuple_key c.compute.result (minus tuple_key hash_key a (shown_value hash_key b b.hashes)) (minus tuple_key tuple_key (compact_value tuple_key first) (compact_value tuple_key second)) (shows tuple_key one).seed_hash (seed_hash c.args.seed)
    (difference_value tuple_key a b first second c.as_view.ensures.value c.as_view-2.ensures.shows)
    (ap (λ s. s.seed_hash) c.as_view.ensures.shows ∙ c.requires.seeds.0) c.compute.ensures.ok
