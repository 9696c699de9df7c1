use Rattle.std.proofs.Common.{◌≡◌, ℕ, List, ◌++◌, length}
use Rattle.keys_sketches.specs.Sources.{Continues}
use Rattle.keys_sketches.proofs.image_union.add_images.Given as goal

-- the images so far are united with those before the call, are as many as the loop has counted, and the union is ready for more
abbrev pub invariant-loop-count : goal.invariant-loop-count
invariant-loop-count g l = record {
  united : (settings : g.U.ImageUnion.Settings) (images : List (List ℕ)) → g.U.ImageUnion.has_united l.seed settings images l.fn.union → Continues (g.S.Sources.texts l.fn.sources) (g.S.Sources.texts l.sources) (λ taken. g.U.ImageUnion.has_united l.seed settings (images ++ taken) l.union);
  ready : (settings : g.U.ImageUnion.Settings) → g.U.ImageUnion.is_ready l.seed settings l.fn.union → g.U.ImageUnion.is_ready l.seed settings l.union;
  parted : Continues (g.S.Sources.texts l.fn.sources) (g.S.Sources.texts l.sources) (λ taken. Unit {0});
  counted : Continues (g.S.Sources.texts l.fn.sources) (g.S.Sources.texts l.sources) (λ taken. l.count ≡ length taken);
}
