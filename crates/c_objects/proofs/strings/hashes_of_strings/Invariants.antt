use Rattle.std.proofs.Common.{◌≡◌, ◌≤◌, ◌++◌, length, drop}
use Rattle.c_objects.specs.Strings.{are_ends, string_hashes}
use Rattle.c_objects.proofs.strings.hashes_of_strings.Given as goal

-- the hashes so far, then those of the strings left, are all; and the ends left are valid exactly if all are
abbrev pub invariant-loop-at : goal.invariant-loop-at
invariant-loop-at l = record {
  rest : l.hashes.items ++ string_hashes l.seed l.bytes l.start (drop l.at-index l.ends) ≡ string_hashes l.seed l.bytes 0 l.ends;
  valid : are_ends l.start (length l.bytes) (drop l.at-index l.ends) ≡ are_ends 0 (length l.bytes) l.ends;
  within : l.start ≤ length l.bytes;
}
