use Rattle.core_operators.proofs.Admitted.{set_same, set_kept}
use Rattle.core_operators.proofs.filter.set_bit.Goals as goal

pub returns-clause-set : goal.returns-clause-set
returns-clause-set c = set_same c.args.words.now c.args.place c.requires.inside

pub returns-clause-kept : goal.returns-clause-kept
returns-clause-kept c = set_kept c.args.words.now c.args.place c.requires.inside
