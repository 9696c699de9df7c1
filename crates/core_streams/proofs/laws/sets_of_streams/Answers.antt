use Rattle.core_streams.proofs.HashSets.{ascending-set_of, at-set_of}
use Rattle.core_streams.proofs.laws.sets_of_streams.Goals as goal

pub returns-clause-ascending : goal.returns-clause-ascending
returns-clause-ascending c = ascending-set_of

pub returns-clause-found : goal.returns-clause-found
returns-clause-found c = at-set_of
