use Rattle.std.proofs.Common.{◌≡◌, ◌+◌, ◌≤◌, map, length, string_bytes}
use Rattle.distinct_arguments.specs.Arguments.{standard_files}
use Rattle.distinct_arguments.proofs.files.is_repeated.Given as goal

-- the uses so far, and those by the files that are left, are all
abbrev pub invariant-loop-file : goal.invariant-loop-file
invariant-loop-file l = record {
  all : l.count + standard_files (map (λ file. string_bytes file) l.rest) ≡ l.uses + standard_files (map (λ file. string_bytes file) l.files);
  limited : l.count ≤ 3;
}

abbrev pub decreases-loop-file : goal.decreases-loop-file
decreases-loop-file l = length l.rest
