use Rattle.std.proofs.Common.{◌≡◌, ◌&&◌, drop}
use Rattle.keys_sketches.specs.Hex.{are_digits}
use Rattle.keys_sketches.proofs.hex.are_digits.Given as goal

-- all letters are digits exactly if those so far are and the remaining ones
abbrev pub invariant-loop-letter : goal.invariant-loop-letter
invariant-loop-letter l = (l.all && are_digits (drop l.letter-index l.letters)) ≡ are_digits l.letters
