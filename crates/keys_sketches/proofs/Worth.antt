-- The value of a sketch of lines after a trim, and ordered sketches.
use Rattle.std.proofs.Common.{◌≡◌, ℕ, ◌^◌, true, List, [], ◌∷◌, refl, ap, ◌∙◌, arith}
use Rattle.core_compact.specs.CompactState.{Compact, IsAnswer, ordered_sketch}
use Rattle.core_laws.specs.Entries.{hash_key}
use Rattle.core_laws.specs.Values.{Sketch, Empty, NonEmpty}
use Rattle.core_laws.specs.declared.TheConstants.{MAX_THETA}
use Rattle.core_state.specs.Updatable.{Updatable, sketch_value}
use Rattle.core_streams.proofs.WholeMaps.{least-part, value-empty}
use Rattle.core_table.specs.HashTable.{empty_table}
use Rattle.theta_sketches.specs.Streams.{IsSketchOf, IsTrimmedOf}
use Rattle.theta_sketches.proofs.Streams.{gives-hashes, sketch-made, sketch-part}
use Rattle.keys_lines.specs.declared.key.Hashing.{Hashing}
use Rattle.keys_sketches.specs.Keys.{line_state, new_state, with_lines, line_hashes, key_set, value_of_lines}
use Rattle.keys_sketches.proofs.Takings.{with_lines-hashes}

module _ (hashing : Hashing) (lg_k : ℕ) where
  -- a new sketch into which lines were inserted was given their hashes
  pub given_lines : (lines : List (List ℕ)) (s : Updatable ℕ) → line_state s ≡ with_lines hashing (new_state hashing.seed lg_k) lines → IsSketchOf lg_k MAX_THETA hashing.seed s (line_hashes hashing lines)
  given_lines lines s is =
      let new : Updatable ℕ = record { empty = true; map = empty_table lg_k MAX_THETA hashing.seed; sequence = [] } in
      let all = is ∙ with_lines-hashes hashing lines (new_state hashing.seed lg_k) in
      gives-hashes (line_hashes hashing lines) new s (ap (λ h. h.map) all) (ap (λ h. h.empty) all) lg_k MAX_THETA hashing.seed [] (sketch-made lg_k MAX_THETA hashing.seed new (omega arith) refl)

  -- and after a trim its value is that of the lines
  pub trimmed_value : (lines : List (List ℕ)) (s t : Updatable ℕ) → line_state s ≡ with_lines hashing (new_state hashing.seed lg_k) lines → t.empty ≡ s.empty → IsTrimmedOf lg_k MAX_THETA hashing.seed t (line_hashes hashing lines) → sketch_value t ≡ value_of_lines hashing lg_k lines
  trimmed_value [] s t is same trimmed = value-empty hash_key t (same ∙ ap (λ h. h.empty) is)
  trimmed_value (line ∷ lines) s t is same trimmed =
      least-part hash_key (2 ^ lg_k) MAX_THETA (sketch_value t) (key_set hashing (line ∷ lines)) trimmed.no_more (sketch-part lg_k MAX_THETA hashing.seed t (line_hashes hashing (line ∷ lines)) trimmed.sketch).part
      (λ none. (let wrong : line_hashes hashing (line ∷ lines) ≡ [] = trimmed.sketch.none none in cc))

-- an ordered result is the ordered sketch
pub ordered_answer : {X : Type 0} (key : X → ℕ) (v : Sketch X) (h : ℕ) (s : Compact X) → IsAnswer key v h true s → s ≡ ordered_sketch v h
ordered_answer key Empty h s is = is
ordered_answer key (NonEmpty v) h s is =
    let entries : s.entries ≡ v.entries = is.in_order is.ordered_if in
    λ i. record { empty = is.nonempty i; entries = entries i; theta = is.same_theta i; seed_hash = is.same_seed i; ordered = is.ordered_if i }
