-- Lines, one for each name, one after another.
use Rattle.std.proofs.Common.{ℕ, ◌≡◌, List, [], ◌∷◌, ◌++◌, sym, ap, ◌∙◌, append_assoc, append-nil}
use Rattle.std.specs.Prelude.{flat_map}

module _ (line_of : List ℕ → List ℕ) where
  -- one line more
  pub line_added : (all printed line : List ℕ) (names others : List (List ℕ)) (name : List ℕ) → all ≡ printed ++ flat_map line_of names → names ≡ name ∷ others → line ≡ line_of name → all ≡ (printed ++ line) ++ flat_map line_of others
  line_added all printed line names others name so_far parted is =
      so_far
      ∙ ap (λ ns. printed ++ flat_map line_of ns) parted
      ∙ ap (λ l. printed ++ (l ++ flat_map line_of others)) (sym is)
      ∙ sym (append_assoc printed line (flat_map line_of others))

  -- all lines
  pub all_lines : (all printed : List ℕ) (names : List (List ℕ)) → all ≡ printed ++ flat_map line_of names → names ≡ [] → printed ≡ all
  all_lines all printed names so_far none = sym (so_far ∙ ap (λ ns. printed ++ flat_map line_of ns) none ∙ append-nil printed)
