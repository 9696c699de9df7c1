-- Texts that are read one after another.
use Rattle.std.proofs.Common.{◌≡◌, ℕ, ◌+◌, length, List, [], ◌∷◌, ◌++◌, Option, Some, None, refl, sym, ap, subst, ◌∙◌, append_assoc, append-nil, arith}
use Rattle.std.specs.Prelude.{IfSome}
use Rattle.keys_lines.specs.Lines.{lines_of, lines_of_all}
use Rattle.keys_lines.specs.declared.key.Hashing.{Hashing}
use Rattle.keys_sketches.specs.Keys.{LineState, with_lines}
use Rattle.keys_sketches.specs.Sources.{IsFirst, GivesNext, LeadsTo, Continues}
use Rattle.keys_sketches.proofs.Takings.{with_lines-append}

-- a fact about a value that may be there implies another one if it does for each value
pub if_some : {T : Type 0} (o : Option T) (P Q : T → Type 0) → ((x : T) → P x → Q x) → IfSome o P → IfSome o Q
if_some None P Q step holds = tt
if_some (Some x) P Q step holds = step x holds

-- a list with one more element
length-more : {T : Type 0} (xs : List T) (x : T) → length (xs ++ x ∷ []) ≡ length xs + 1
length-more [] x = refl
length-more (y ∷ xs) x = omega (arith, length-more xs x)

-- the count of a list is one more after one more element
pub count_more : {T : Type 0} (o : Option T) (n : ℕ) (xs : List T) → n ≡ length xs → IfSome o (λ x. n + 1 ≡ length (xs ++ x ∷ []))
count_more None n xs counted = tt
count_more (Some x) n xs counted = ap (λ m. m + 1) counted ∙ sym (length-more xs x)

-- the fact that claims nothing
pub if_any : {T : Type 0} (o : Option T) → IfSome o (λ x. Unit {0})
if_any None = tt
if_any (Some x) = tt

module _ (hashing : Hashing) where
  pub leads_itself : (texts : Option (List (List ℕ))) (s : LineState) → LeadsTo hashing texts s texts s
  leads_itself None s = tt
  leads_itself (Some texts) s = refl

  module _ {S : Type 0} (remaining : S → Option (List ℕ)) where
    one_more : (texts : List (List ℕ)) (left : List (List ℕ)) (s t u : LineState) (source : S) (new : Option (List (List ℕ))) → with_lines hashing s (lines_of_all texts) ≡ with_lines hashing t (lines_of_all left) →
        IsFirst remaining left source new → IfSome (remaining source) (λ text. u ≡ with_lines hashing t (lines_of text)) → LeadsTo hashing (Some texts) s new u
    one_more texts left s t u source new so_far first taken =
        let is : u ≡ with_lines hashing t (lines_of first.text) = subst (λ (o : Option (List ℕ)). IfSome o (λ text. u ≡ with_lines hashing t (lines_of text))) first.has taken in
        subst (λ (o : Option (List (List ℕ))). LeadsTo hashing (Some texts) s o u) (sym first.leaves)
        (so_far ∙ ap (λ ts. with_lines hashing t (lines_of_all ts)) first.parted ∙ with_lines-append hashing (lines_of first.text) (lines_of_all first.texts_left) t ∙ ap (λ v. with_lines hashing v (lines_of_all first.texts_left)) (sym is))

    -- one more source
    pub leads_next : (old now new : Option (List (List ℕ))) (s t u : LineState) (o : Option S) (source : S) → LeadsTo hashing old s now t → GivesNext remaining now new o → o ≡ Some source →
        IfSome (remaining source) (λ text. u ≡ with_lines hashing t (lines_of text)) → LeadsTo hashing old s new u
    leads_next None now new s t u o source so_far gives is taken = tt
    leads_next (Some texts) None new s t u o source so_far gives is taken = absurd so_far
    leads_next (Some texts) (Some left) new s t u o source so_far gives is taken = one_more texts left s t u source new so_far (subst (GivesNext remaining (Some left) new) is gives) taken

    -- at the end
    pub leads_end : (old now new : Option (List (List ℕ))) (s t : LineState) (o : Option S) (P : List (List ℕ) → Type 0) → LeadsTo hashing old s now t → GivesNext remaining now new o → o ≡ None →
        ((texts : List (List ℕ)) → t ≡ with_lines hashing s (lines_of_all texts) → P texts) → IfSome old P
    leads_end None now new s t o P so_far gives is then = tt
    leads_end (Some texts) None new s t o P so_far gives is then = absurd so_far
    leads_end (Some texts) (Some left) new s t o P so_far gives is then = then texts (sym (so_far ∙ ap (λ ts. with_lines hashing t (lines_of_all ts)) (subst (GivesNext remaining (Some left) new) is gives)))

-- ---- what holds of all texts that were read

pub continues_itself : (texts : Option (List (List ℕ))) (P : List (List ℕ) → Type 0) → P [] → Continues texts texts P
continues_itself None P holds = tt
continues_itself (Some texts) P holds = ([], refl, holds)

module _ {S : Type 0} (remaining : S → Option (List ℕ)) (P Q : List (List ℕ) → Type 0) where
  one_taken : (texts taken left : List (List ℕ)) (source : S) (new : Option (List (List ℕ))) → texts ≡ taken ++ left → P taken → IsFirst remaining left source new →
      ((done : List (List ℕ)) → P done → IfSome (remaining source) (λ text. Q (done ++ text ∷ []))) → Continues (Some texts) new Q
  one_taken texts taken left source new parted holds first step =
      let then : Q (taken ++ first.text ∷ []) = subst (λ (o : Option (List ℕ)). IfSome o (λ text. Q (taken ++ text ∷ []))) first.has (step taken holds) in
      subst (λ (o : Option (List (List ℕ))). Continues (Some texts) o Q) (sym first.leaves) (
        taken ++ first.text ∷ [],
        parted ∙ ap (λ ts. taken ++ ts) first.parted ∙ sym (append_assoc taken (first.text ∷ []) first.texts_left),
        then,
      )

  -- after one more text the fact on the texts so far has its next step
  pub continues_next : (old now new : Option (List (List ℕ))) (o : Option S) (source : S) → Continues old now P → GivesNext remaining now new o → o ≡ Some source →
      ((done : List (List ℕ)) → P done → IfSome (remaining source) (λ text. Q (done ++ text ∷ []))) → Continues old new Q
  continues_next None now new o source so_far gives is step = tt
  continues_next (Some texts) None new o source so_far gives is step = absurd so_far
  continues_next (Some texts) (Some left) new o source so_far gives is step =
      one_taken texts so_far.0 left source new so_far.1 so_far.2 (subst (GivesNext remaining (Some left) new) is gives) step

  -- at the end the fact holds of all texts
  pub continues_end : (old now new : Option (List (List ℕ))) (o : Option S) → Continues old now P → GivesNext remaining now new o → o ≡ None → IfSome old P
  continues_end None now new o so_far gives is = tt
  continues_end (Some texts) None new o so_far gives is = absurd so_far
  continues_end (Some texts) (Some left) new o so_far gives is =
      let none : left ≡ [] = subst (GivesNext remaining (Some left) new) is gives in
      subst P (sym (so_far.1 ∙ ap (λ ts. so_far.0 ++ ts) none ∙ append-nil so_far.0)) so_far.2
