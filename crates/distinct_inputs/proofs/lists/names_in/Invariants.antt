use Rattle.std.proofs.Common.{◌≡◌, ◌++◌, length}
use Rattle.std.specs.List.{AllByRecursion}
use Rattle.distinct_inputs.specs.Lists.{names_of, names_in, IsName}
use Rattle.distinct_inputs.proofs.lists.names_in.Given as goal

-- the names so far, followed by those of the rest, are all names, and each so far can be one
abbrev pub invariant-loop-name : goal.invariant-loop-name
invariant-loop-name l = record {
  listed : names_in l.list ≡ names_of l.names.items ++ names_in l.rest;
  named : AllByRecursion IsName (names_of l.names.items);
}

abbrev pub decreases-loop-name : goal.decreases-loop-name
decreases-loop-name l = length l.rest
