use Rattle.std.proofs.Common.{◌≡◌, ◌++◌, false, drop}
use Rattle.keys_fields.proofs.Words.{spaced}
use Rattle.keys_fields.proofs.layout.push_words.Given as goal

-- what is appended and what is left are all
abbrev pub invariant-loop-i : goal.invariant-loop-i
invariant-loop-i l = l.fn.to.items ++ spaced false false l.fn.line ≡ l.to.items ++ spaced l.is_behind l.is_due (drop l.i l.fn.line)
