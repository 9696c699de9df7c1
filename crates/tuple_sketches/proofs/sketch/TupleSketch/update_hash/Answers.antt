use Rattle.core_laws.specs.Insertion.{after_upsert, upsert_refusal}
use Rattle.core_streams.proofs.Calls.{on_three, on_both_err, unrefused}
use Rattle.tuple_sketches.proofs.Streams.{gives-value, gives-nothing}
use Rattle.tuple_sketches.proofs.sketch.TupleSketch.update_hash.Goals as goal

-- neither what is retained nor what the policy refuses depends on whether the step may take memory
pub returns-clause-after : goal.returns-clause-after
unfolding after_upsert
returns-clause-after g c =
    rw (c.new-step.ensures.policy, c.new-step.ensures.hash, c.new-step.ensures.value) at c.upsert.ensures.after

pub returns-clause-refused : goal.returns-clause-refused
unfolding upsert_refusal
returns-clause-refused g c =
    rw (c.new-step.ensures.policy, c.new-step.ensures.hash, c.new-step.ensures.value) at c.upsert.ensures.refused

pub returns-clause-given : goal.returns-clause-given
unfolding after_upsert upsert_refusal
returns-clause-given g c =
    let refused = rw (c.new-step.ensures.policy, c.new-step.ensures.hash, c.new-step.ensures.value) at c.upsert.ensures.refused in
    let after = rw (c.new-step.ensures.policy, c.new-step.ensures.hash, c.new-step.ensures.value) at c.upsert.ensures.after in
    on_three c.upsert.result (gives-value (g.P.SummaryPolicy.creates c.args.self.now.policy) (g.P.SummaryUpdatePolicy.updates c.args.self.now.policy) c.args.hash c.args.value c.args.self.now.state c.upsert.new.self) (unrefused c.upsert.result _ _ refused) c.upsert.ensures.nonempty after

pub returns-clause-err_given : goal.returns-clause-err_given
returns-clause-err_given g c = on_both_err c.upsert.result (gives-nothing c.args.self.now.state c.upsert.new.self) c.upsert.ensures.err_empty c.upsert.ensures.err
