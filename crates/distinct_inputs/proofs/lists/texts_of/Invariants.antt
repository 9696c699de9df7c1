use Rattle.std.proofs.Common.{◌≡◌, ◌++◌, length}
use Rattle.std.specs.List.{AllByRecursion}
use Rattle.distinct_inputs.specs.Lists.{names_of, texts_of, IsName}
use Rattle.distinct_inputs.proofs.lists.texts_of.Given as goal

-- the texts so far, followed by the names that are left, are all names, and each so far can be one
abbrev pub invariant-loop-name : goal.invariant-loop-name
invariant-loop-name l = record {
  listed : texts_of l.names ≡ names_of l.texts.items ++ texts_of l.left;
  named : AllByRecursion IsName (names_of l.texts.items);
}

abbrev pub decreases-loop-name : goal.decreases-loop-name
decreases-loop-name l = length l.left
