use Rattle.std.proofs.Common.{ap, ◌∙◌}
use Rattle.plan_text.specs.Words.{words}
use Rattle.plan_text.proofs.words.Separators.{words_none, words_some}
use Rattle.plan_text.proofs.line.word.Goals as goal

pub returns-in-None : goal.returns-in-None
returns-in-None c = words_none c.args.line.now c.in-None.ensures.none

pub returns-in-Some : goal.returns-in-Some
returns-in-Some c = ap words c.in-Some.ensures.parts ∙ words_some c.in-Some.front.now c.in-Some.rest.now c.in-Some.ensures.before
