-- Entries spelled one after another.
use Rattle.std.proofs.Common.{◌≡◌, ℕ, ◌<◌, List, [], ◌∷◌, ◌++◌, length, refl, sym, ap, ◌∙◌, arith, append_assoc, append-nil}
use Rattle.std.proofs.lemmas.List.{append_cancel_left}
use Rattle.core_images.specs.Entry.{SpellsEach, HasEntries, Holds}
use Rattle.core_images.specs.declared.preamble.Preamble.{Preamble}

-- lists with the same front that are equal have the same rest
pub append_cancel : {X : Type 0} (a b u v : List X) → a ≡ b → a ++ u ≡ b ++ v → u ≡ v
append_cancel a b u v e same = append_cancel_left b u v (ap (λ l. l ++ u) (sym e) ∙ same)

module _ {X : Type 0} (Spells : List ℕ → X → Type 0) (one : (a b u v : List ℕ) (x y : X) → Spells a x → Spells b y → a ++ u ≡ b ++ v → (a ≡ b) × (x ≡ y)) where
  regrouped : (a b c d e f u v : List ℕ) → a ≡ c ++ d → b ≡ e ++ f → a ++ u ≡ b ++ v → c ++ (d ++ u) ≡ e ++ (f ++ v)
  regrouped a b c d e f u v p q same = sym (append_assoc c d u) ∙ ap (λ l. l ++ u) (sym p) ∙ same ∙ ap (λ l. l ++ v) q ∙ append_assoc e f v

  -- the same bytes begin with only one list of `count` entries
  pub each_one : (xs ys : List X) (a b u v : List ℕ) → SpellsEach Spells a xs → SpellsEach Spells b ys → a ++ u ≡ b ++ v → length xs ≡ length ys → xs ≡ ys
  each_one [] [] a b u v p q same count = refl
  each_one [] (y ∷ ys) a b u v p q same count = absurd (omega arith)
  each_one (x ∷ xs) [] a b u v p q same count = absurd (omega arith)
  each_one (x ∷ xs) (y ∷ ys) a b u v p q same count =
      let joined = regrouped a b p.0 p.1 q.0 q.1 u v p.2 q.2 same in
      let first = one p.0 q.0 (p.1 ++ u) (q.1 ++ v) x y p.3 q.3 joined in
      let others = append_cancel p.0 q.0 (p.1 ++ u) (q.1 ++ v) first.0 joined in
      let fewer : length xs ≡ length ys = omega arith in
      let rest = each_one xs ys p.1 q.1 u v p.4 q.4 others fewer in
      λ i. first.1 i ∷ rest i

  -- if more entries are spelled than were read, the rest begins with one more
  pub next_one : (xs ys : List X) (a b u v : List ℕ) → SpellsEach Spells a xs → SpellsEach Spells b ys → a ++ u ≡ b ++ v → length xs < length ys → (text : List ℕ) × (after : List ℕ) × (y : X) × Spells text y × (u ≡ text ++ after)
  next_one xs [] a b u v p q same count = absurd (omega arith)
  next_one [] (y ∷ ys) a b u v p q same count = (q.0, q.1 ++ v, y, q.3, regrouped a b [] [] q.0 q.1 u v p q.2 same)
  next_one (x ∷ xs) (y ∷ ys) a b u v p q same count =
      let joined = regrouped a b p.0 p.1 q.0 q.1 u v p.2 q.2 same in
      let first = one p.0 q.0 (p.1 ++ u) (q.1 ++ v) x y p.3 q.3 joined in
      let others = append_cancel p.0 q.0 (p.1 ++ u) (q.1 ++ v) first.0 joined in
      next_one xs ys p.1 q.1 u v p.4 q.4 others (omega arith)

  pub holds_one : (bytes : List ℕ) (n : ℕ) (xs ys : List X) → Holds Spells bytes n xs → Holds Spells bytes n ys → xs ≡ ys
  holds_one bytes n xs ys f g = each_one xs ys f.text g.text f.after g.after f.spelled g.spelled (sym f.there ∙ g.there) (f.counted ∙ sym g.counted)

  pub lists_one : (key : X → ℕ) (bytes : List ℕ) (p : Preamble) (h : ℕ) (xs ys : List X) → HasEntries key Spells bytes p h xs → HasEntries key Spells bytes p h ys → xs ≡ ys
  lists_one key bytes p h xs ys f g = holds_one _ _ xs ys f.content g.content

  -- one more entry after those that were read
  pub each_more : (xs : List X) (x : X) (a b : List ℕ) → SpellsEach Spells a xs → Spells b x → SpellsEach Spells (a ++ b) (xs ++ x ∷ [])
  each_more [] x a b p s = (b, [], ap (λ l. l ++ b) p ∙ sym (append-nil b), s, refl)
  each_more (y ∷ xs) x a b p s = (p.0, p.1 ++ b, ap (λ l. l ++ b) p.2 ∙ append_assoc p.0 p.1 b, p.3, each_more xs x p.1 b p.4 s)
