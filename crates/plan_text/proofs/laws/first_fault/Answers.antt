use Rattle.plan_text.proofs.faults.BeforeFault.{no_beginning, begins, not_whole, missing_begins}
use Rattle.plan_text.proofs.faults.TooDeep.{deep_begins, deep_is_deep, front_faultless}
use Rattle.plan_text.proofs.laws.first_fault.Goals as goal

pub returns-clause-nothing : goal.returns-clause-nothing
returns-clause-nothing c = λ front faulty rest more e s. no_beginning s.0 front faulty rest more e s.1

pub returns-clause-front : goal.returns-clause-front
returns-clause-front c = λ front rest fault low e. begins front rest fault low e

pub returns-clause-missing : goal.returns-clause-missing
returns-clause-missing c = λ lines e. (λ s. not_whole s.0 lines e s.1, missing_begins lines e)

pub returns-clause-deep : goal.returns-clause-deep
returns-clause-deep c = λ front deep rest e. deep_begins front deep rest e

pub returns-clause-faultless : goal.returns-clause-faultless
returns-clause-faultless c = λ front rest more fault other low e o. front_faultless front rest more fault other low e o

pub returns-clause-deeper : goal.returns-clause-deeper
returns-clause-deeper c = λ front deep rest more command e s. deep_is_deep front deep rest more command e s
