use Rattle.distinct_inputs.proofs.inputs.names_from.Goals as goal

pub returns-clause-fallible : goal.returns-clause-fallible
returns-clause-fallible g c = c.names_in_list.ensures.fallible g.R.TextReader.may_fail
