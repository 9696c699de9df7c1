-- Lines that are cut at their last tab.
use Rattle.std.specs.Prelude.{ℕ, ◌==◌, ◌||◌, Bool, false, List, [], ◌∷◌, if◌then◌else◌}

-- whether a text has a tab (9)
abbrev pub has_tab : List ℕ → Bool
has_tab [] = false
has_tab (byte ∷ text) = byte == 9 || has_tab text

-- the parts of a text before and after its last tab; without a tab both have no bytes
abbrev pub before_tab : List ℕ → List ℕ
before_tab [] = []
before_tab (byte ∷ text) = if has_tab text then byte ∷ before_tab text else []

abbrev pub behind_tab : List ℕ → List ℕ
behind_tab [] = []
behind_tab (byte ∷ text) = if has_tab text then behind_tab text else if byte == 9 then text else []
