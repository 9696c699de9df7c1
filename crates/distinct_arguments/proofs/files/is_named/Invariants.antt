use Rattle.std.proofs.Common.{◌≡◌, map, length, string_bytes}
use Rattle.std.specs.List.{list_any}
use Rattle.std.specs.Str.{bytes_eq}
use Rattle.distinct_arguments.proofs.files.is_named.Given as goal

-- one of the files that are left has the name if one of all has it
abbrev pub invariant-loop-file : goal.invariant-loop-file
invariant-loop-file l =
    list_any (λ file. bytes_eq file l.name) (map (λ file. string_bytes file) l.rest)
    ≡ list_any (λ file. bytes_eq file l.name) (map (λ file. string_bytes file) l.files)

abbrev pub decreases-loop-file : goal.decreases-loop-file
decreases-loop-file l = length l.rest
