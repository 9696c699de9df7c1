-- Entries that are put into free slots in rounds. In each round, every remaining entry looks one slot further on its path.
use Rattle.std.specs.Prelude.{ℕ, ◌≡◌, ◌≤◌, ◌+◌, ◌*◌, ◌==◌, Option, List, ◌++◌, length}
use Rattle.std.specs.List.{AllByRecursion, count_by}
use Rattle.core_laws.specs.Maps.{entry_at}
use Rattle.core_slots.specs.SlotLayout.{filled, entries_in, HasOthers, IsLaidOut}

-- how many entries have the hash q
abbrev pub hash_count : {X : Type 0} → (X → ℕ) → ℕ → List X → ℕ
hash_count key q xs = count_by (λ x. key x == q) xs

-- how many entries in slots in memory have the hash q
abbrev pub entry_count_in : {S X : Type 0} → (key : X → ℕ) → (content : S → Option X) → ℕ → List S → ℕ
entry_count_in key content q slots = hash_count key q (entries_in content slots)

-- twice the sum of the numbers up to n
abbrev pub twice_sum_to : ℕ → ℕ
twice_sum_to n = n * (n + 1)

-- of the entries `whole`, `put` are in slots, `begun` of them from the start and the others after `looked` looks; `stay`
-- have looked in this round, and `wait` have not
pub record IsInRound {X : Type 0} (key : X → ℕ) (lg : ℕ) (whole stay wait : List X) (slots : List (Option X))
    (begun round put looked : ℕ) : Type 0 where
  pub laid_out : IsLaidOut key lg slots
  pub found : (q : ℕ) → entry_at key (stay ++ (wait ++ filled slots)) q ≡ entry_at key whole q
  pub all : (q : ℕ) → hash_count key q stay + hash_count key q wait + hash_count key q (filled slots) ≡ hash_count key q whole
  pub once : (q : ℕ) → hash_count key q whole ≤ 1
  pub counted : put + (length stay + length wait) ≡ length whole
  pub all_put : length (filled slots) ≡ put
  pub looked_few : 2 * looked + begun * (begun + 1) ≤ put * (put + 1)
  pub stayed : AllByRecursion (λ x. HasOthers key lg slots (key x) (round + 1)) stay
  pub waits : AllByRecursion (λ x. HasOthers key lg slots (key x) round) wait
