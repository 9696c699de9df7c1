-- Lists of bytes: the numbers that they encode, and the buffer that they are written to.
use Rattle.std.specs.Prelude.{ℕ, ◌+◌, ◌*◌, ◌<◌, List, [], ◌∷◌, length}

-- the number that bytes encode, the lowest byte first
abbrev pub number : List ℕ → ℕ
number [] = 0
number (b ∷ bs) = b + 256 * number bs

-- the bytes written so far, and how many bytes there is memory for in all
pub record Buffer : Type 0 where
  pub bytes : List ℕ
  pub capacity : ℕ

-- there is no room for n more bytes without more memory
abbrev pub IsFull : Buffer → ℕ → Type 0
IsFull buffer n = buffer.capacity < length buffer.bytes + n
