use Rattle.std.proofs.Common.{◌≡◌, ◌+◌, ◌-◌, ◌≤◌, length, take}
use Rattle.keys_lines.specs.Hashed.{AreHashesOfLines}
use Rattle.keys_lines.proofs.hashed_lines.hash_lines.Given as goal

-- the lines so far are hashed
abbrev pub invariant-hash_pairs : goal.invariant-hash_pairs
invariant-hash_pairs l = record {
  within : l.count ≤ length l.hashes;
  size : length l.hashes ≡ length l.fn.hashes;
  hashed : AreHashesOfLines l.hashing l.text (take l.count l.hashes) l.rest;
  shorter : length l.rest + l.count ≤ length l.text;
}

abbrev pub decreases-hash_pairs : goal.decreases-hash_pairs
decreases-hash_pairs l = length l.hashes - l.count
