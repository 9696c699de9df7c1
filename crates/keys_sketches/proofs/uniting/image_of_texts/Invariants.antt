use Rattle.std.proofs.Common.{◌≡◌, ◌++◌, ℕ, List}
use Rattle.std.specs.Prelude.{map, length}
use Rattle.keys_sketches.specs.Shards.{images_of_texts}
use Rattle.keys_sketches.specs.Unions.{HasUnited, IsReady}
use Rattle.keys_sketches.proofs.uniting.image_of_texts.Given as goal

-- the images so far are united, and those of the texts that are left complete the images of all
abbrev pub invariant-loop-text : goal.invariant-loop-text
invariant-loop-text g l = record {
  united : (images : List (List ℕ)) × (images ++ images_of_texts l.hashing l.lg_k (map (λ v. v.items) l.left) ≡ images_of_texts l.hashing l.lg_k (map (λ v. v.items) l.texts)) × HasUnited l.hashing.seed l.lg_k images l.union;
  ready : IsReady l.hashing.seed l.union;
}

abbrev pub decreases-loop-text : goal.decreases-loop-text
decreases-loop-text g l = length l.left
