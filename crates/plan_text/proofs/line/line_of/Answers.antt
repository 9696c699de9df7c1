use Rattle.plan_text.proofs.words.Separators.{said_more, some_more}
use Rattle.plan_text.specs.Words.{more_words}
use Rattle.plan_text.proofs.line.line_of.Goals as goal

pub returns-then-is_some : goal.returns-then-is_some
returns-then-is_some c =
    rw (c.word.ensures, c.in-Some.is, c.word-2.ensures, c.in-Some-rest.is, c.word-3.ensures, c.in-Some-rest-2.is, c.word-4.ensures)
    (said_more c.word.result.0.now c.word-2.result.0.now c.word-3.result.0.now c.word-4.result.0.now (more_words c.word-4.result.1) (some_more c.word-4.result.1 c.if-is_some.ensures))
