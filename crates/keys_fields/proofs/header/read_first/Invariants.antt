use Rattle.std.proofs.Common.{◌≡◌, ℕ, List, []}
use Rattle.keys_fields.specs.Names.{HasText}
use Rattle.keys_fields.proofs.Headers.{Begins}
use Rattle.keys_fields.proofs.header.read_first.Given as goal

-- the text continues the line
abbrev pub invariant-loop : goal.invariant-loop
invariant-loop g l = (lines : List (List ℕ)) → HasText (g.R.Read.remaining l.fn.reader) lines → l.fn.line.items ≡ [] → Begins (g.R.Read.remaining l.reader) l.line.items lines
