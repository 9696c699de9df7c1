use Rattle.std.proofs.Common.{◌≡◌, ◌+◌, ◌<◌, ◌^◌, length}
use Rattle.std.specs.List.{filter}
use Rattle.keys_sums.specs.Bins.{is_in}
use Rattle.keys_sums.proofs.bins.count_in.Given as goal

-- those so far, and those that are left; together fewer than 2^32
abbrev pub invariant-loop-entry : goal.invariant-loop-entry
invariant-loop-entry g l =
    (l.count + length (filter (λ e. is_in l.bin e.summary) l.entry-iterator.rest) ≡ length (filter (λ e. is_in l.bin e.summary) l.fn.sketch.entries))
    × (length (filter (λ e. is_in l.bin e.summary) l.fn.sketch.entries) < 2 ^ 32)

abbrev pub decreases-loop-entry : goal.decreases-loop-entry
decreases-loop-entry g l = length l.entry-iterator.rest
