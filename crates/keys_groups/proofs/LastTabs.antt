-- Texts with a last tab.
use Rattle.std.proofs.Common.{ℕ, ◌≡◌, Bool, true, false, cond, eqb, List, [], ◌∷◌, ◌++◌, refl, ap, ◌∙◌, append_assoc}
use Rattle.std.specs.Prelude.{◌||◌}
use Rattle.keys_groups.specs.Tabs.{has_tab, before_tab, behind_tab}

or_true : (b : Bool) → (b || true) ≡ true
or_true true = refl
or_true false = refl

pub tab_there : (front seen : List ℕ) → has_tab (front ++ 9 ∷ seen) ≡ true
tab_there [] seen = refl
tab_there (byte ∷ front) seen = ap (λ t. eqb byte 9 || t) (tab_there front seen) ∙ or_true (eqb byte 9)

pub before_last : (front seen : List ℕ) → has_tab seen ≡ false → before_tab (front ++ 9 ∷ seen) ≡ front
before_last [] seen lacks = ap (λ b. cond b (9 ∷ before_tab seen) []) lacks
before_last (byte ∷ front) seen lacks = ap (λ b. cond b (byte ∷ before_tab (front ++ 9 ∷ seen)) []) (tab_there front seen) ∙ ap (λ t. byte ∷ t) (before_last front seen lacks)

pub behind_last : (front seen : List ℕ) → has_tab seen ≡ false → behind_tab (front ++ 9 ∷ seen) ≡ seen
behind_last [] seen lacks = ap (λ b. cond b (behind_tab seen) seen) lacks
behind_last (byte ∷ front) seen lacks = ap (λ b. cond b (behind_tab (front ++ 9 ∷ seen)) (cond (eqb byte 9) (front ++ 9 ∷ seen) [])) (tab_there front seen) ∙ behind_last front seen lacks

-- a line whose last tab was found
pub parted_at : (line left front seen : List ℕ) (last : ℕ) → line ≡ left ++ seen → left ≡ front ++ last ∷ [] → last ≡ 9 → line ≡ front ++ 9 ∷ seen
parted_at line left front seen last parted ends is =
    parted ∙ ap (λ t. t ++ seen) (ends ∙ ap (λ b. front ++ b ∷ []) is) ∙ append_assoc front (9 ∷ []) seen
