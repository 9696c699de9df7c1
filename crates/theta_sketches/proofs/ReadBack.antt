-- What was written is read as the sketch that was written.
use Rattle.std.proofs.Common.{◌≡◌, ℕ, ◌<◌, ◌^◌, List, [], ◌∷◌, ◌++◌, subst, append-nil}
use Rattle.std.specs.Bool.{⊤}
use Rattle.std.specs.Int.{w64, to_le_bytes}
use Rattle.std.specs.List.{AllByRecursion}
use Rattle.core_compact.specs.CompactState.{Compact, IsCompact}
use Rattle.core_laws.specs.Entries.{hash_key}
use Rattle.core_images.specs.Entry.{SpellsHash}
use Rattle.core_images.specs.Head.{theta_head}
use Rattle.core_images.specs.HashSpelling.{hash_written, one_hash}
use Rattle.core_images.proofs.ImageLayouts.{heads_one}
use Rattle.core_images.proofs.ReadAgain.{written_again}
use Rattle.theta_sketches.specs.Image.{SpellsSketch, Reads, written, version_3}
use Rattle.theta_sketches.proofs.ImageLayouts.{theta_from}

all_values : (xs : List ℕ) → AllByRecursion (λ _. ⊤) xs
all_values [] = tt
all_values (x ∷ xs) = (tt, all_values xs)

-- bytes spell at most one sketch
pub read_once : (bytes : List ℕ) (h : ℕ) (r s : Compact ℕ) → SpellsSketch bytes h r → SpellsSketch bytes h s → r ≡ s
read_once bytes h r s p q = heads_one hash_key SpellsHash bytes h one_hash (theta_head bytes) r s (theta_from bytes h p) (theta_from bytes h q)

-- the image of a sketch spells it, whatever bytes follow
pub spells_again : (s : Compact ℕ) (rest : List ℕ) → IsCompact hash_key s → s.seed_hash < 2 ^ 16 → SpellsSketch (written s ++ rest) s.seed_hash s
spells_again s rest w high =
    let f = written_again hash_key SpellsHash (λ hash. to_le_bytes w64 hash) (λ _. ⊤) (λ x v small. hash_written x small) 3 0 rest s w (all_values s.entries) high in
    version_3 f.0 s f.1 f.3

-- and nothing else is read from it
pub read_back : (r s : Compact ℕ) → IsCompact hash_key r → r.seed_hash < 2 ^ 16 → Reads (written r) r.seed_hash s → s ≡ r
read_back r s w high reads =
    let h : ℕ = r.seed_hash in
    let again : SpellsSketch (written r) h r = subst (λ bytes. SpellsSketch bytes h r) (append-nil (written r)) (spells_again r [] w high) in
    read_once (written r) h s r reads.spelled again
