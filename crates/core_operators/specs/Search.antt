-- When one of two ascending lists is searched, and by how many comparisons.
use Rattle.std.specs.Prelude.{ℕ, ◌+◌, ◌*◌, ◌/◌, ◌<◌, ◌≤◌, ◌^◌, nat_lt, Bool}

-- whether a list has more than 128 times as many entries as another
abbrev pub is_much_longer : (other_count count : ℕ) → Bool
is_much_longer other_count count = nat_lt count (other_count / 128)

-- at most k comparisons for each of `count` entries, if the list that is searched has fewer than 2^k
abbrev pub AreFewLookUps : (before after count other_count : ℕ) → Type 0
AreFewLookUps before after count other_count = (k : ℕ) → other_count < 2 ^ k → after ≤ before + k * count
