-- Texts that come in pieces, by the streams that their sketches were given.
use Rattle.std.proofs.Common.{◌≡◌, ℕ, List, ◌++◌, map, ap, subst, ◌∙◌}
use Rattle.core_state.specs.Updatable.{Updatable}
use Rattle.theta_sketches.specs.Streams.{IsSketchOf, GivesMore, GivesNothing}
use Rattle.theta_sketches.proofs.Streams.{gives-hashes, gives-nothing}
use Rattle.keys_lines.specs.Keys.{hashing_of}
use Rattle.keys_lines.specs.Lines.{lines_of}
use Rattle.keys_lines.specs.declared.key.Hashing.{Hashing}
use Rattle.keys_lines.specs.declared.key.Key.TheVariants.{Line}
use Rattle.keys_sketches.specs.Keys.{LineState, line_state, line_hashes, with_lines}
use Rattle.keys_sketches.specs.Pieces.{HasInserted, IsAtStart, StopsInPiece}
use Rattle.keys_sketches.specs.declared.pieces.OpenText.{OpenText}
use Rattle.keys_sketches.proofs.Takings.{with_lines-hashes}
use Rattle.c_objects.specs.Texts.{text_hashes, IsGivenText, IsNewText, GivesFirstLines}

-- a sketch that is as after lines was given their hashes
lines_given : (hashing : Hashing) (lines : List (List ℕ)) (old new : Updatable ℕ) → line_state new ≡ with_lines hashing (line_state old) lines
    → GivesMore old new (λ _. line_hashes hashing lines)
lines_given hashing lines old new is =
    let whole = is ∙ with_lines-hashes hashing lines (line_state old) in
    gives-hashes (line_hashes hashing lines) old new (ap (λ s. s.map) whole) (ap (λ s. s.empty) whole)

-- a text of which no byte has come
pub begun : (seed : ℕ) (t : OpenText) → IsAtStart (hashing_of Line seed) t → IsNewText seed t
begun seed t start = (start, λ lg_k from hashes s given. record { first = s; given = given; hashed = start.0; inserted = start.1 (line_state s) })

-- and one of which a piece more has come
pub piece_given : (piece : List ℕ) (old new : Updatable ℕ) (t u : OpenText) → u.hashing ≡ t.hashing
    → ((start : LineState) (text : List ℕ) → HasInserted start text (line_state old) t → HasInserted start (text ++ piece) (line_state new) u)
    → (lg_k start seed : ℕ) (hashes text : List ℕ) → IsGivenText lg_k start seed hashes text old t → IsGivenText lg_k start seed hashes (text ++ piece) new u
piece_given piece old new t u same inserted lg_k start seed hashes text is = record {
  first = is.first;
  given = is.given;
  hashed = same ∙ is.hashed;
  inserted = inserted (line_state is.first) text is.inserted;
}

pub first_given : (piece : List ℕ) (old new : Updatable ℕ) (t : OpenText) → StopsInPiece piece (line_state old) (line_state new) t → GivesFirstLines piece old new t
first_given piece old new t stops front open_line =
    let first = stops front open_line in (first.0, lines_given t.hashing first.0 old new first.1, first.2)

-- a text that was ended
pub text_given : (old new : Updatable ℕ) (t u : OpenText) → IsAtStart t.hashing u
    → ((start : LineState) (text : List ℕ) → HasInserted start text (line_state old) t → line_state new ≡ with_lines t.hashing start (lines_of text))
    → (lg_k start seed : ℕ) (hashes text : List ℕ) → IsGivenText lg_k start seed hashes text old t
    → IsSketchOf lg_k start seed new (hashes ++ text_hashes seed text) × IsNewText seed u
text_given old new t u again inserted lg_k start seed hashes text is =
    let after : line_state new ≡ with_lines (hashing_of Line seed) (line_state is.first) (lines_of text) =
    inserted (line_state is.first) text is.inserted ∙ ap (λ (h : Hashing). with_lines h (line_state is.first) (lines_of text)) is.hashed in (
      lines_given (hashing_of Line seed) (lines_of text) is.first new after lg_k start seed hashes is.given,
      begun seed u (subst (λ (h : Hashing). IsAtStart h u) is.hashed again),
    )

pub same_given : (old new : Updatable ℕ) → line_state new ≡ line_state old → GivesNothing old new
same_given old new same = gives-nothing old new (ap (λ s. s.empty) same) (ap (λ s. s.map) same)
