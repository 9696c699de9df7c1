-- Slots as they are in memory, and the entries in them.
use Rattle.std.proofs.Common.{◌≡◌, ℕ, zero, suc, ◌+◌, ◌<◌, ◌≤◌, List, [], ◌∷◌, ◌++◌, length, map, get_or, set, take, drop, replicate, Option, Some, None, Ok, Err, refl, sym, ap, subst, ◌∙◌, arith}
use Rattle.std.specs.Prelude.{option_map, Result, MatchResult, OnOk, OnErr}
use Rattle.std.proofs.lemmas.List.{map-append, take-append-drop}
use Rattle.core_slots.specs.SlotLayout.{filled, slot}
use Rattle.core_slots.proofs.SlotLayouts.{filled-append}

module _ {S X : Type 0} (content : S → Option X) where
  -- the entry in the slot at a place
  pub slot-map : (slots : List S) (p : ℕ) (d : S) → p < length slots → slot (map content slots) p ≡ content (get_or slots p d)
  slot-map [] p d lt = absurd (omega (arith, lt))
  slot-map (s ∷ slots) zero d lt = refl
  slot-map (s ∷ slots) (suc p) d lt = slot-map slots p d (omega (arith, lt))

  pub map-set : (slots : List S) (p : ℕ) (s : S) → map content (set slots p s) ≡ set (map content slots) p (content s)
  map-set [] p s = refl
  map-set (t ∷ slots) zero s = refl
  map-set (t ∷ slots) (suc p) s = ap (λ xs. content t ∷ xs) (map-set slots p s)

  pub length-content : (slots : List S) → length (map content slots) ≡ length slots
  length-content [] = refl
  length-content (s ∷ slots) = ap suc (length-content slots)

pub no_some : {Y : Type 0} (o : Option Y) → ((y : Y) → o ≡ Some y → ⊥) → o ≡ None
no_some None never = refl
no_some (Some y) never = absurd (never y refl)

module _ {X : Type 0} (key : X → ℕ) where
  -- an entry of a hash
  pub some_of : (o : Option X) (h : ℕ) → option_map key o ≡ Some h → (x : X) × (o ≡ Some x) × (key x ≡ h)
  some_of None h e = absurd (cc)
  some_of (Some x) h e = (x, refl, cc)

  pub none_of : (o : Option X) → ((h : ℕ) → option_map key o ≡ Some h → ⊥) → o ≡ None
  none_of None never = refl
  none_of (Some x) never = absurd (never (key x) refl)

-- the entries in several slots
module _ {S X : Type 0} (content : S → Option X) where
  pub filled-take : (slots : List S) (i : ℕ) (d : S) → i < length slots → filled (map content (take (suc i) slots)) ≡ filled (map content (take i slots)) ++ filled (content (get_or slots i d) ∷ [])
  filled-take [] i d lt = absurd (omega (arith, lt))
  filled-take (s ∷ slots) zero d lt = refl
  filled-take (s ∷ slots) (suc i) d lt =
      let rest = filled-take slots i d (omega (arith, lt)) in
      elim (content s) as (λ o. filled (o ∷ map content (take (suc i) slots)) ≡ filled (o ∷ map content (take i slots)) ++ filled (content (get_or slots i d) ∷ [])) [ None ↦ rest | Some x ↦ ap (λ zs. x ∷ zs) rest ]

  pub take_whole : (slots : List S) (i : ℕ) → length slots ≤ i → take i slots ≡ slots
  take_whole [] zero le = refl
  take_whole [] (suc i) le = refl
  take_whole (s ∷ slots) zero le = absurd (omega (arith, le))
  take_whole (s ∷ slots) (suc i) le = ap (λ xs. s ∷ xs) (take_whole slots i (omega (arith, le)))

  pub filled-next : (slots : List S) (i : ℕ) (d : S) → i < length slots → filled (map content (take (i + 1) slots)) ≡ filled (map content (take i slots)) ++ filled (content (get_or slots i d) ∷ [])
  filled-next slots i d lt =
      let next : suc i ≡ i + 1 = omega arith in
      subst (λ (n : ℕ). filled (map content (take n slots)) ≡ filled (map content (take i slots)) ++ filled (content (get_or slots i d) ∷ [])) next (filled-take slots i d lt)

-- a slot that is written twice
module _ {Y : Type 0} where
  pub set-again : (ys : List Y) (p : ℕ) (a b : Y) → set (set ys p a) p b ≡ set ys p b
  set-again [] p a b = refl
  set-again (y ∷ ys) zero a b = refl
  set-again (y ∷ ys) (suc p) a b = ap (λ zs. y ∷ zs) (set-again ys p a b)

module _ {X : Type 0} where
  set-same : (xs : List (Option X)) (p : ℕ) (x : X) → slot xs p ≡ Some x → set xs p (Some x) ≡ xs
  set-same [] p x e = refl
  set-same (o ∷ xs) zero x e = ap (λ u. u ∷ xs) (sym e)
  set-same (o ∷ xs) (suc p) x e = ap (λ zs. o ∷ zs) (set-same xs p x e)

  one_some : {x y : X} → Some x ≡ Some y → x ≡ y
  one_some e = cc

  -- an entry after a step
  pub wrote : {T E : Type 0} (r : Result T E) (xs : List (Option X)) (p : ℕ) (old new : X) (writes : X → X) → MatchResult r (λ _. new ≡ writes old) (λ _. new ≡ old) → slot xs p ≡ Some old
      → OnOk r ((x : X) → slot xs p ≡ Some x → set xs p (Some new) ≡ set xs p (Some (writes x)))
  wrote (Ok t) xs p old new writes is present = λ x there. ap (λ y. set xs p (Some y)) is ∙ ap (λ y. set xs p (Some (writes y))) (one_some (sym present ∙ there))
  wrote (Err e) xs p old new writes is present = tt

  pub left_it : {T E : Type 0} (r : Result T E) (xs : List (Option X)) (p : ℕ) (old new : X) (writes : X → X) → MatchResult r (λ _. new ≡ writes old) (λ _. new ≡ old) → slot xs p ≡ Some old
      → OnErr r (set xs p (Some new) ≡ xs)
  left_it (Ok t) xs p old new writes is present = tt
  left_it (Err e) xs p old new writes is present = ap (λ y. set xs p (Some y)) is ∙ set-same xs p old present

module _ {S X : Type 0} (content : S → Option X) where
  -- there are no more entries than slots
  pub filled_most : (slots : List S) → length (filled (map content slots)) ≤ length slots
  filled_most [] = omega arith
  filled_most (s ∷ slots) = elim (content s) as (λ o. length (filled (o ∷ map content slots)) ≤ length (s ∷ slots)) [ None ↦ omega (arith, filled_most slots) | Some x ↦ omega (arith, filled_most slots) ]

  -- free slots have no entries
  pub filled-free : (free : S) → content free ≡ None → (n : ℕ) → filled (map content (replicate n free)) ≡ []
  filled-free free is zero = refl
  filled-free free is (suc n) = rw is (filled-free free is n)

  freed-suc : (slots : List S) (i : ℕ) (s : S) → i < length slots → content s ≡ None → filled (map content (take i slots)) ≡ [] → filled (map content (take (suc i) (set slots i s))) ≡ []
  freed-suc [] i s lt none before = absurd (omega (arith, lt))
  freed-suc (t ∷ slots) zero s lt none before = rw none refl
  freed-suc (t ∷ slots) (suc i) s lt none before =
      (elim (content t) as (λ o. filled (o ∷ map content (take i slots)) ≡ [] → filled (o ∷ map content (take (suc i) (set slots i s))) ≡ []) [ None ↦ λ b. freed-suc slots i s (omega (arith, lt)) none b | Some x ↦ λ b. absurd (cc) ]) before

  -- one more slot is free
  pub freed : (slots : List S) (i : ℕ) (s : S) → i < length slots → content s ≡ None → filled (map content (take i slots)) ≡ [] → filled (map content (take (i + 1) (set slots i s))) ≡ []
  freed slots i s lt none before =
      let next : suc i ≡ i + 1 = omega arith in
      subst (λ (n : ℕ). filled (map content (take n (set slots i s))) ≡ []) next (freed-suc slots i s lt none before)

module _ {S X : Type 0} (content : S → Option X) where
  -- the entries in the first slots, and those in the others
  pub two_parts : (xs : List S) (n : ℕ) → filled (map content xs) ≡ filled (map content (take n xs)) ++ filled (map content (drop n xs))
  two_parts xs n = ap (λ ys. filled (map content ys)) (sym (take-append-drop n xs)) ∙ ap filled (map-append content (take n xs) (drop n xs)) ∙ filled-append (map content (take n xs)) (map content (drop n xs))
