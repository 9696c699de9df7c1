-- Sketches of texts, read from images.
use Rattle.std.proofs.Common.{◌≡◌, ℕ, List, [], ◌∷◌, ◌++◌, ◌<◌, ◌^◌, arith, refl, sym, ap, subst, ◌∙◌}
use Rattle.std.proofs.lemmas.List.{append-nil}
use Rattle.sketch_base.specs.Seed.{seed_hash}
use Rattle.core_compact.specs.CompactState.{Compact, IsCompact, compact_value}
use Rattle.core_laws.specs.Maps.{IsAscending}
use Rattle.core_laws.specs.Cuts.{Retained}
use Rattle.core_laws.specs.Entries.{hash_key}
use Rattle.core_laws.specs.Samples.{IsSample}
use Rattle.core_laws.specs.Values.{NonEmpty}
use Rattle.core_laws.proofs.maps.Ascending.{ascending-filter}
use Rattle.core_table.proofs.OtherOrders.{map_of-ascending}
use Rattle.theta_sketches.specs.Image.{Reads, written}
use Rattle.keys_lines.specs.Lines.{lines_of}
use Rattle.keys_sketches.specs.Keys.{key_set, value_of_lines, sketch_of_value}
use Rattle.keys_sketches.specs.Shards.{AreRead, AreReadAsTexts, AreValuesOfTexts, values_of_sketches}
use Rattle.keys_sketches.proofs.Shards.{part_of}
use Rattle.keys_lines.specs.declared.key.Hashing.{Hashing}

-- bytes are read as one sketch at most
abbrev pub ReadsOne : Type 0
ReadsOne = (bytes : List ℕ) (h : ℕ) (r s : Compact ℕ) → Reads bytes h r → Reads bytes h s → r ≡ s

module _ (hashing : Hashing) where
  again : (v : Retained ℕ) (whole : List ℕ) → IsSample hash_key (NonEmpty v) whole → compact_value hash_key (sketch_of_value hashing.seed (NonEmpty v)) ≡ NonEmpty v
  again v whole s =
      let up : IsAscending hash_key v.entries = subst (IsAscending hash_key) (sym s.all_below) (ascending-filter hash_key _ whole s.ascending) in
      ap (λ xs. NonEmpty (record { entries = xs; theta = v.theta })) (map_of-ascending hash_key v.entries up)

  -- the sketch of the value of lines has that value
  pub value_again : (lg_k : ℕ) (lines : List (List ℕ)) → compact_value hash_key (sketch_of_value hashing.seed (value_of_lines hashing lg_k lines)) ≡ value_of_lines hashing lg_k lines
  value_again lg_k [] = refl
  value_again lg_k (line ∷ lines) = again _ (key_set hashing (line ∷ lines)) (part_of hashing lg_k (line ∷ lines)).sample

  module _ (one : ReadsOne) (lg_k : ℕ) where
    -- the values of the sketches that were read are those of the texts
    pub values_read : (images : List (List ℕ)) (sketches : List (Compact ℕ)) (texts : List (List ℕ)) → AreReadAsTexts hashing lg_k images texts → AreRead hashing.seed images sketches → AreValuesOfTexts hashing lg_k texts (values_of_sketches sketches)
    values_read [] [] [] are read = tt
    values_read [] [] (t ∷ ts) are read = absurd are
    values_read [] (s ∷ ss) ts are read = absurd read
    values_read (b ∷ bs) [] ts are read = absurd read
    values_read (b ∷ bs) (s ∷ ss) [] are read = absurd are
    values_read (b ∷ bs) (s ∷ ss) (t ∷ ts) are read = (
      (are.0.0, are.0.1, ap (λ r. compact_value hash_key r) (one b (seed_hash hashing.seed) s (sketch_of_value hashing.seed (value_of_lines hashing are.0.0 (lines_of t))) read.0 are.0.2) ∙ value_again are.0.0 (lines_of t)),
      values_read bs ss ts are.1 read.1,
    )

-- what is written is read
pub seed_hash-small : (seed : ℕ) → seed_hash seed < 2 ^ 16
unfolding seed_hash
seed_hash-small seed = omega arith

-- a written sketch is read again, whatever follows it
abbrev pub ReadsAgain : Type 0
ReadsAgain = (s : Compact ℕ) (rest : List ℕ) → IsCompact hash_key s → 0 < s.seed_hash → s.seed_hash < 2 ^ 16 → Reads (written s ++ rest) s.seed_hash s

-- bytes that are written of a sketch are read as that sketch
pub reads_it : ReadsAgain → (s : Compact ℕ) (seed : ℕ) (bytes : List ℕ) → IsCompact hash_key s → s.seed_hash ≡ seed_hash seed → 0 < seed_hash seed → bytes ≡ written s → Reads bytes (seed_hash seed) s
reads_it anew s seed bytes compact same seeded image =
    let low : 0 < s.seed_hash = omega (arith, same, seeded) in
    let small : s.seed_hash < 2 ^ 16 = omega (arith, same, seed_hash-small seed) in
    let all : written s ++ [] ≡ bytes = append-nil (written s) ∙ sym image in
    subst (λ (h : ℕ). Reads bytes h s) same (subst (λ (bs : List ℕ). Reads bs s.seed_hash s) all (anew s [] compact low small))
