use Rattle.std.proofs.Common.{◌≡◌, length}
use Rattle.distinct_arguments.specs.Table.{is_among, words_in}
use Rattle.distinct_arguments.proofs.table.is_among.Given as goal

-- one of the words that are left is this one if one of all is
abbrev pub invariant-loop-words : goal.invariant-loop-words
invariant-loop-words l = is_among l.word (words_in l.words) ≡ is_among l.word (words_in l.initial.words)

abbrev pub decreases-loop-words : goal.decreases-loop-words
decreases-loop-words l = length l.words
