-- Lines of names, of which some have none.
use Rattle.std.proofs.Common.{ℕ, ◌≡◌, Bool, true, false, cond, List, [], ◌∷◌, ◌++◌, refl, ap, ◌∙◌}
use Rattle.std.specs.Prelude.{flat_map}
use Rattle.std.specs.List.{filter}

chosen : (b : Bool) (line rest more : List ℕ) (name : List ℕ) (names : List (List ℕ)) (line_of : List ℕ → List ℕ) → line ≡ line_of name → rest ≡ more → more ≡ flat_map line_of names → cond b line [] ++ rest ≡ flat_map line_of (cond b (name ∷ names) names)
chosen true line rest more name names line_of is same all = ap (λ l. l ++ rest) is ∙ ap (λ r. line_of name ++ r) (same ∙ all)
chosen false line rest more name names line_of is same all = same ∙ all

-- the lines of names that pass a test, and none of the others, are the lines of those that pass it
pub lines_of_chosen : (test : List ℕ → Bool) (line_of : List ℕ → List ℕ) (names : List (List ℕ)) → flat_map (λ name. cond (test name) (line_of name) []) names ≡ flat_map line_of (filter test names)
lines_of_chosen test line_of [] = refl
lines_of_chosen test line_of (name ∷ names) =
    chosen (test name) (line_of name) (flat_map (λ n. cond (test n) (line_of n) []) names) (flat_map line_of (filter test names)) name (filter test names) line_of refl (lines_of_chosen test line_of names) refl
