-- Calls on a sketch and a text that comes in pieces: by both before, the status and both after.
use Rattle.std.specs.Prelude.{◌≡◌, ◌≢◌, ◌++◌, ◌⊎◌, ℕ, List, [], map}
use Rattle.sketch_base.specs.Seed.{hash_of}
use Rattle.core_state.specs.Updatable.{Updatable}
use Rattle.keys_lines.specs.Keys.{hashing_of}
use Rattle.keys_lines.specs.Lines.{lines_of, lines_after}
use Rattle.keys_lines.specs.Open.{IsOpen}
use Rattle.keys_lines.specs.declared.key.Key.TheVariants.{Line}
use Rattle.keys_sketches.specs.Keys.{LineState, line_state, line_hashes, with_lines}
use Rattle.keys_sketches.specs.Pieces.{HasInserted, IsAtStart, StopsInPiece}
use Rattle.keys_sketches.specs.declared.pieces.OpenText.{OpenText}
use Rattle.theta_sketches.specs.Streams.{IsSketchOf, GivesMore, GivesNothing}
use Rattle.c_objects.specs.declared.theta.SeededSketch.{SeededSketch}

-- the hashes of the lines of a text, in their order
abbrev pub text_hashes : (seed : ℕ) → (text : List ℕ) → List ℕ
text_hashes seed text = map (λ line. hash_of seed line) (lines_of text)

-- a sketch with these settings was given hashes, and then the lines of a text so far, but for its open line, and nothing else
pub record IsGivenText (lg_k start seed : ℕ) (hashes text : List ℕ) (s : Updatable ℕ) (t : OpenText) : Type 0 where
  pub first : Updatable ℕ
  pub given : IsSketchOf lg_k start seed first hashes
  pub hashed : t.hashing ≡ hashing_of Line seed
  pub inserted : HasInserted (line_state first) text (line_state s) t

-- a text of which no byte has come, whose whole lines are hashed under this seed
abbrev pub IsNewText : (seed : ℕ) → OpenText → Type 0
IsNewText seed t =
    IsAtStart (hashing_of Line seed) t
    × ((lg_k start : ℕ) (hashes : List ℕ) (s : Updatable ℕ) → IsSketchOf lg_k start seed s hashes → IsGivenText lg_k start seed hashes [] s t)

-- a call gave a sketch some first lines of a piece, perhaps none, as `StopsInPiece` says
abbrev pub GivesFirstLines : (piece : List ℕ) → (old new : Updatable ℕ) → OpenText → Type 0
GivesFirstLines piece old new t =
    (front : List ℕ)
    → IsOpen t.hashing front t.last
    → (first : List (List ℕ))
    × GivesMore old new (λ _. line_hashes t.hashing first)
    × ((more : List ℕ) → (rest : List (List ℕ)) × (lines_after front (piece ++ more) ≡ first ++ rest))

-- a text of another seed was refused, with 1, and nothing has changed
abbrev pub RefusesText : (old_text : OpenText) → (old : SeededSketch) → (status : ℕ) → (new_text : OpenText) → (new : SeededSketch) → Type 0
RefusesText old_text old status new_text new = (old_text.hashing.seed ≢ old.seed) × (status ≡ 1) × (new_text ≡ old_text) × (new ≡ old)

-- The lines that end in a piece of a text were inserted, with status 0: if those of the pieces before were inserted since the
-- sketch was in the state `start`, all of the longer text are, but for its open line; and if the sketch was given those since
-- it was given `hashes`, it was given these too. Or memory was refused, with 3: exactly some first lines of the piece were
-- inserted, and the text is as before the piece.
abbrev pub UpdatesText : (piece : List ℕ)
    → (old_text : OpenText)
    → (old : SeededSketch)
    → (status : ℕ)
    → (new_text : OpenText)
    → (new : SeededSketch)
    → Type 0
UpdatesText piece old_text old status new_text new =
    RefusesText old_text old status new_text new
    ⊎ ((old_text.hashing.seed ≡ old.seed)
    × (new.seed ≡ old.seed)
    × (new_text.hashing ≡ old_text.hashing)
    × (((status ≡ 0) × ((start : LineState) (text : List ℕ)
    → HasInserted start text (line_state old.sketch) old_text → HasInserted start (text ++ piece) (line_state new.sketch) new_text)
    × ((lg_k start seed : ℕ) (hashes text : List ℕ) → IsGivenText lg_k start seed hashes text old.sketch old_text
    → IsGivenText lg_k start seed hashes (text ++ piece) new.sketch new_text))
    ⊎ ((status ≡ 3) × (new_text ≡ old_text) × StopsInPiece piece (line_state old.sketch) (line_state new.sketch) old_text
    × GivesFirstLines piece old.sketch new.sketch old_text)))

-- A text was ended, with status 0: the sketch is as after the lines of the whole text, in their order, since the state
-- `start`, and was given their hashes; and another text may begin. Or memory was refused, with 3, and nothing has changed.
abbrev pub EndsText : (old_text : OpenText) → (old : SeededSketch) → (status : ℕ) → (new_text : OpenText) → (new : SeededSketch) → Type 0
EndsText old_text old status new_text new =
    RefusesText old_text old status new_text new
    ⊎ ((old_text.hashing.seed ≡ old.seed)
    × (new.seed ≡ old.seed)
    × (((status ≡ 0) × IsAtStart old_text.hashing new_text
    × ((start : LineState) (text : List ℕ) → HasInserted start text (line_state old.sketch) old_text
    → line_state new.sketch ≡ with_lines old_text.hashing start (lines_of text))
    × ((lg_k start seed : ℕ) (hashes text : List ℕ) → IsGivenText lg_k start seed hashes text old.sketch old_text
    → IsSketchOf lg_k start seed new.sketch (hashes ++ text_hashes seed text) × IsNewText seed new_text))
    ⊎ ((status ≡ 3) × (new_text ≡ old_text) × (line_state new.sketch ≡ line_state old.sketch) × GivesNothing old.sketch new.sketch)))
