use Rattle.std.proofs.Common.{◌≡◌, true, Some}
use Rattle.std.specs.Prelude.{IfSome}
use Rattle.distinct_inputs.specs.Images.{remaining_parts}
use Rattle.distinct_inputs.proofs.images.Images.next_line.Given as goal

-- the same images are left
abbrev pub invariant-loop : goal.invariant-loop
invariant-loop g l = record {
  hex : l.self.hex ≡ true;
  sums : l.self.sums ≡ l.fn.self.sums;
  same : IfSome (remaining_parts g.S.Source.Read.remaining g.S.Sources.texts l.fn.self)
      (λ images. remaining_parts g.S.Source.Read.remaining g.S.Sources.texts l.self ≡ Some images);
}
