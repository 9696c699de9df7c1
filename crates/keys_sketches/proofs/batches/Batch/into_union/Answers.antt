use Rattle.keys_sketches.proofs.batches.Batch.into_union.Goals as goal

pub returns-clause-united : goal.returns-clause-united
returns-clause-united g c = λ seed settings images has. c.in_ok-merge_waiting.ensures.united seed settings images has

pub returns-clause-ready : goal.returns-clause-ready
returns-clause-ready g c = λ seed settings ready. c.in_ok-merge_waiting.ensures.ready seed settings ready
