-- Images are read again.
use Rattle.std.proofs.Common.{◌≡◌, ◌<◌, ◌^◌, ℕ, List, [], None, sym, subst, ◌∙◌, append-nil, arith}
use Rattle.std.proofs.lemmas.Bool.Decides.{nat_tests}
use Rattle.sketch_base.specs.Seed.{seed_hash}
use Rattle.core_compact.specs.CompactState.{Compact, IsCompact}
use Rattle.core_laws.specs.Entries.{hash_key}
use Rattle.core_laws.specs.Settings.{settings_refusal}
use Rattle.theta_sketches.specs.Image.{Reads, SpellsSketch, written}
use Rattle.theta_sketches.proofs.ReadBack.{spells_again}
use Rattle.c_objects.specs.Streams.{IsReadAs}

-- the seed hash of accepted settings isn't 0
pub seeded : (lg_k start seed : ℕ) → settings_refusal lg_k start seed ≡ None → 0 < seed_hash seed
seeded lg_k start seed is = grind (arith, nat_tests)

-- the image of a compact sketch is read as that sketch
pub image_read : (s : Compact ℕ) (bytes : List ℕ) → IsCompact hash_key s → s.seed_hash < 2 ^ 16 → bytes ≡ written s
    → ((r : Compact ℕ) → Reads bytes s.seed_hash r → r ≡ s) → IsReadAs bytes s
image_read s bytes compact high is alone = record {
  is_read = λ low. record {
    seeded = low;
    spelled = subst (λ bs. SpellsSketch bs s.seed_hash s) (append-nil (written s) ∙ sym is) (spells_again s [] compact high);
  };
  alone = alone;
}
