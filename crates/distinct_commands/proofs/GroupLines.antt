-- The lines of groups, one after another.
use Rattle.std.proofs.Common.{ℕ, ◌≡◌, Bool, true, false, cond, List, [], ◌∷◌, ◌++◌, map, refl, sym, ap, ◌∙◌}
use Rattle.std.specs.List.{filter}
use Rattle.std.proofs.lemmas.List.{map-append}
use Rattle.std.proofs.lemmas.List.Elements.{All-nil, All-push}
use Rattle.distinct_commands.specs.Ranked.{HasTexts}
use Rattle.distinct_commands.specs.declared.ranked.Ranked.{Ranked}

-- the first name of some is kept, or isn't
module _ (p : List ℕ → Bool) where
  pub name_kept : (names others : List (List ℕ)) (name : List ℕ) → names ≡ name ∷ others → p name ≡ true → filter p names ≡ name ∷ filter p others
  name_kept names others name parted kept = ap (filter p) parted ∙ ap (λ b. cond b (name ∷ filter p others) (filter p others)) kept

  pub name_dropped : (names others : List (List ℕ)) (name : List ℕ) → names ≡ name ∷ others → p name ≡ false → filter p names ≡ filter p others
  name_dropped names others name parted dropped = ap (filter p) parted ∙ ap (λ b. cond b (name ∷ filter p others) (filter p others)) dropped

-- groups, each with its number and its text
module _ (number : List ℕ → ℕ) (text : List ℕ → List ℕ) where
  abbrev IsOfName : Ranked → Type 0
  IsOfName group = (group.number ≡ number group.name.items) × (group.text.items ≡ text group.name.items)

  pub none_has_texts : HasTexts number text [] []
  none_has_texts = (refl, All-nil IsOfName)

  -- one group more
  pub group_added : (names : List (List ℕ)) (groups : List Ranked) (group : Ranked) (name : List ℕ) → HasTexts number text names groups → group.name.items ≡ name → group.number ≡ number name → group.text.items ≡ text name →
      HasTexts number text (names ++ name ∷ []) (groups ++ group ∷ [])
  group_added names groups group name has named estimated printed = (
    ap (λ ns. ns ++ name ∷ []) has.0 ∙ ap (λ n. map (λ g. g.name.items) groups ++ n ∷ []) (sym named) ∙ sym (map-append (λ g. g.name.items) groups (group ∷ [])),
    All-push IsOfName groups group has.1 (estimated ∙ ap number (sym named), printed ∙ ap text (sym named)),
  )
