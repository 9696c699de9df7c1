use Rattle.std.proofs.Common.{◌≡◌, ℕ, ◌<◌, [], map, get_or, false}
use Rattle.std.specs.Str.{bytes_eq}
use Rattle.expression_text.proofs.parsing.place_of.Given as goal

-- no name so far is the word
abbrev pub invariant-loop-i : goal.invariant-loop-i
invariant-loop-i g l = (k : ℕ) → k < l.i → bytes_eq (get_or (map (λ v. v.items) l.names) k []) l.word ≡ false
