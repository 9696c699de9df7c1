-- Inserting lines keeps the seed of a sketch.
use Rattle.std.proofs.Common.{◌≡◌, ℕ, List, [], ◌∷◌, ◌++◌, refl, sym, ap, ◌∙◌}
use Rattle.core_state.specs.Updatable.{Updatable}
use Rattle.keys_lines.specs.Lines.{lines_after}
use Rattle.keys_lines.specs.declared.key.Hashing.{Hashing}
use Rattle.keys_sketches.specs.Keys.{LineState, line_state, with_line, with_lines}
use Rattle.keys_sketches.specs.Taking.{Takes}

lines_seed : (hashing : Hashing) (lines : List (List ℕ)) (s : LineState) → (with_lines hashing s lines).map.seed_hash ≡ s.map.seed_hash
lines_seed hashing [] s = refl
lines_seed hashing (line ∷ lines) s = lines_seed hashing lines (with_line hashing s line)

pub taken_seed : (hashing : Hashing) (lines : List (List ℕ)) (old new : Updatable ℕ) → line_state new ≡ with_lines hashing (line_state old) lines → new.map.seed_hash ≡ old.map.seed_hash
taken_seed hashing lines old new is = ap (λ (s : LineState). s.map.seed_hash) is ∙ lines_seed hashing lines (line_state old)

pub takes_seed : (hashing : Hashing) (old new : LineState) (front piece left : List ℕ) → Takes hashing old front piece new left → new.map.seed_hash ≡ old.map.seed_hash
takes_seed hashing old new front piece left takes =
    sym (lines_seed hashing (lines_after left []) new) ∙ sym (ap (λ (s : LineState). s.map.seed_hash) (takes [])) ∙ lines_seed hashing (lines_after front (piece ++ [])) old
