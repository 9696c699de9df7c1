-- Lines that are read one after another.
use Rattle.std.specs.Prelude.{ℕ, ◌≡◌, ◌++◌, ⊤, Bool, true, false, List, [], ◌∷◌, Option, Some, None, Vec}
use Rattle.core_state.specs.Updatable.{Updatable}
use Rattle.keys_lines.specs.Lines.{lines_of, lines_after}
use Rattle.keys_groups.specs.Groups.{without_lf}
use Rattle.keys_groups.specs.States.{IsGrouped}
use Rattle.keys_groups.specs.declared.groups.Grouping.{Grouping}

-- the bytes of the first line that was left were read, and the others are left; there is none only at the end
abbrev pub ReadsLine : (old new : Option (List ℕ)) → (bytes : List ℕ) → (found : Bool) → Type 0
ReadsLine None new bytes found = ⊤
ReadsLine (Some text) new bytes false = lines_of text ≡ []
ReadsLine (Some text) new bytes true =
    (left : List ℕ) × (new ≡ Some left) × (lines_of text ≡ without_lf bytes ∷ lines_of left)

-- this holds of the lines that were read, and the others are left
abbrev pub ContinuesLines : (old new : Option (List ℕ)) → (List (List ℕ) → Type 0) → Type 0
ContinuesLines None new P = ⊤
ContinuesLines (Some text) None P = ⊥
ContinuesLines (Some text) (Some left) P = (taken : List (List ℕ)) × (lines_of text ≡ taken ++ lines_of left) × P taken

-- Some first lines of a text are in groups now, behind those before, and the rest of the text is left: with any
-- continuation, the text's lines are these and then those of the rest.
abbrev pub LeavesLines : {A : Type 0} → Grouping → (before : List (List ℕ)) → (text : List ℕ) → (new : List (Vec ℕ A × Updatable ℕ)) → (rest : List ℕ) → Type 0
LeavesLines grouping before text new rest =
    (lines : List (List ℕ))
    × IsGrouped grouping (before ++ lines) new
    × ((more : List ℕ) → lines_after [] (text ++ more) ≡ lines ++ lines_after [] (rest ++ more))

-- .. of a piece that continues an open line, and another open line is left
abbrev pub TakesLines : {A : Type 0} → Grouping → (before : List (List ℕ)) → (front piece : List ℕ) → (new : List (Vec ℕ A × Updatable ℕ)) →
    (left : List ℕ) → Type 0
TakesLines grouping before front piece new left =
    (lines : List (List ℕ))
    × IsGrouped grouping (before ++ lines) new
    × ((more : List ℕ) → lines_after front (piece ++ more) ≡ lines ++ lines_after left more)
