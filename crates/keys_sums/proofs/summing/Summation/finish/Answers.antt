use Rattle.std.proofs.Common.{Ok, sym, subst}
use Rattle.keys_sums.specs.Amounts.{added_by}
use Rattle.keys_sums.specs.Sums.{HasAdded}
use Rattle.keys_sums.proofs.Adding.{finished_sums}
use Rattle.keys_sums.proofs.summing.Summation.finish.Goals as goal

pub returns-clause-sketch : goal.returns-clause-sketch
returns-clause-sketch g c = λ hashing amount mode lg_k lines has.
    finished_sums mode hashing (added_by amount) lg_k lines c.self.inside.sketch.state c.trim.new.self.state (Ok c.in_ok-sketch.sketch) (subst (HasAdded mode hashing amount lg_k lines) (sym c.self.view_is) has).summed c.in_ok-trim.ensures.same_emptiness
    c.in_ok-trim.ensures.after c.in_ok-sketch.ensures.ok

pub returns-clause-total : goal.returns-clause-total
returns-clause-total g c = λ hashing amount mode lg_k lines has. (subst (HasAdded mode hashing amount lg_k lines) (sym c.self.view_is) has).total
