-- How a run ends if it writes a text.
use Rattle.std.proofs.Common.{◌≡◌, ℕ, List, Option, Some, None, refl}
use Rattle.std.specs.Prelude.{IfSome}
use Rattle.plan_runs.specs.declared.runs.Ending.{Ending}
use Rattle.plan_runs.specs.declared.runs.Ending.TheVariants.{Answered, NotRead, NotWritten}
use Rattle.plan_runs.specs.Answer.{Answers}
use Rattle.plan_runs.specs.Ending.{Puts, EndsRun}

-- a text that answers the input was written
pub puts_answer : (Z : Type 0) (input text : List ℕ) (status : ℕ) (e : Ending) (old new : Option (List ℕ)) → Answers Z input status text → Puts text status e old new → EndsRun Z input e old new
puts_answer Z input text status (Answered s) old new a p = (text, rw p.0 a, p.1)
puts_answer Z input text status NotRead old new a p = tt
puts_answer Z input text status NotWritten old new a p = tt

pub puts_for : (Z : Type 0) (known : Option (List ℕ)) (text : List ℕ) (status : ℕ) (e : Ending) (old new : Option (List ℕ)) → ((input : List ℕ) → known ≡ Some input → Answers Z input status text) → Puts text status e old new → IfSome known (λ input. EndsRun Z input e old new)
puts_for Z None text status e old new a p = tt
puts_for Z (Some input) text status e old new a p = puts_answer Z input text status e old new (a input refl) p
