use Rattle.std.proofs.Common.{ℕ, ◌<◌, ◌≤◌, length, get_or, subst}
use Rattle.std.proofs.lemmas.Map.Keys.{ge_from_not_lt}
use Rattle.core_slots.specs.Rank.{HasRank}
use Rattle.core_slots.proofs.Ranks.{split_rank}
use Rattle.core_slots.proofs.selection.nth_hash.Goals as goal

pub returns : goal.returns
returns g c =
    let s = c.select_nth_unstable-hash in
    let hs = c.args.hashes.now.items in
    let front = s.result.0.now in
    let back = s.result.2.now in
    let h : ℕ = s.result.1.now in
    let low : (k : ℕ) (d : ℕ) → k < length front → get_or front k d ≤ h = λ k d lt. ge_from_not_lt h (get_or front k d) (s.ensures.partitioned.0 k d lt) in
    let high : (k : ℕ) (d : ℕ) → k < length back → h ≤ get_or back k d = λ k d lt. ge_from_not_lt (get_or back k d) h (s.ensures.partitioned.1 k d lt) in
    record { ranked = subst (λ (n : ℕ). HasRank hs n h) s.ensures.front_len (split_rank hs front back h c.requires.apart (rw c.deref_mut.ensures.value at s.ensures.permutation) low high) }
