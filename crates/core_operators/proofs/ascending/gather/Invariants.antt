use Rattle.std.proofs.Common.{◌≡◌, ◌≤◌, ◌++◌, map, take, length}
use Rattle.core_operators.specs.Filter.{admitted}
use Rattle.core_operators.proofs.ascending.gather.Given as goal

-- the entries gathered so far, then those left that are admitted, are those at the start
abbrev pub invariant-loop-gathered : goal.invariant-loop-gathered
invariant-loop-gathered g l =
    let among = admitted g.E.SketchEntry.key l.filter.words.items l.filter.shift in
    record {
      rest : map (λ x. x.now) (take l.gathered l.found) ++ among l.items.rest ≡ map (λ x. x.now) (take l.fn.count l.initial.found) ++ among l.initial.items.rest;
      limited : l.gathered ≤ 64;
      room : length l.found ≡ 64;
      fewer : length l.items.rest ≤ length l.initial.items.rest;
    }

-- the entries that are left
abbrev pub decreases-loop-gathered : goal.decreases-loop-gathered
decreases-loop-gathered g l = length l.items.rest
