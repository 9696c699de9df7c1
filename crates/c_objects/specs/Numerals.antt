-- Numbers as text.
use Rattle.std.specs.Prelude.{ℕ, zero, suc, ◌+◌, ◌/◌, ◌%◌, List, [], ◌∷◌, ◌++◌, decimal}

-- the last `places` digits of a number, with zeros in front
unfoldable pub last_digits : (places number : ℕ) → List ℕ
last_digits zero number = []
last_digits (suc places) number = last_digits places (number / 10) ++ ((48 + number % 10) ∷ [])

-- a point (46) and `places` decimals, or nothing if there are none
abbrev pub after_point : (decimals places : ℕ) → List ℕ
after_point decimals zero = []
after_point decimals (suc places) = 46 ∷ last_digits (suc places) decimals

-- a number with decimals: its whole part, and behind a point its decimals
abbrev pub decimal_text : (whole decimals places : ℕ) → List ℕ
decimal_text whole decimals places = decimal whole ++ after_point decimals places
