-- Searches among slots, and writes to them.
use Rattle.std.proofs.Common.{◌≡◌, ℕ, zero, suc, ◌+◌, ◌*◌, ◌%◌, ◌^◌, ◌<◌, ◌≤◌, ◌≢◌, true, false, not, cond, eqb, ltb, List, [], ◌∷◌, ◌++◌, length, length-append, set, Option, Some, None, inl, inr, ◌⊎◌, refl, sym, ap, ◌∙◌, subst, arith}
use Rattle.std.proofs.lemmas.Bool.{cases_lt, cases_eq, cases_order}
use Rattle.std.proofs.lemmas.Bool.Decides.{nat_tests}
use Rattle.std.proofs.lemmas.List.{get_or-set_same, get_or-set_other, length-set}
use Rattle.std.proofs.lemmas.List.Sums.{length-filter}
use Rattle.core_laws.specs.Maps.{entry_at, with_entry, below, above, rank, map_of}
use Rattle.std.proofs.lemmas.Nat.{mod_below, pow_pos}
use Rattle.std.proofs.Math.Nat.{mod-add-mod}
use Rattle.core_slots.specs.Probe.{probe, stride}
use Rattle.core_slots.specs.SlotLayout.{filled, slot, is_other, HasOthers, IsOnPath, IsLaidOut}
use Rattle.core_laws.proofs.maps.Ascending.{ascending-with_entry}
use Rattle.core_laws.proofs.maps.MapsOfLists.{entry_at-map_of, ascending-map_of}
use Rattle.core_laws.proofs.maps.LookUps.{entry_at-with_entry, same_map}
use Rattle.core_slots.proofs.Strides.{probe_once}

module _ {X : Type 0} where
  pub slot_in : (slots : List (Option X)) (p : ℕ) (x : X) → slot slots p ≡ Some x → p < length slots
  slot_in [] p x present = absurd (cc)
  slot_in (o ∷ slots) zero x present = omega arith
  slot_in (o ∷ slots) (suc p) x present = omega (arith, slot_in slots p x present)

  -- a slot that is cleared
  cleared : (slots : List (Option X)) (p : ℕ) (x : X) → slot slots p ≡ Some x → length (filled slots) ≡ suc (length (filled (set slots p None)))
  cleared [] p x present = absurd (cc)
  cleared (o ∷ slots) zero x present = rw present refl
  cleared (None ∷ slots) (suc p) x present = cleared slots p x present
  cleared (Some y ∷ slots) (suc p) x present = ap suc (cleared slots p x present)

  -- different filled slots are no more than the entries in slots
  pub limited : (n : ℕ) (slots : List (Option X)) (place : ℕ → ℕ) (content : (i : ℕ) → i < n → (x : X) × (slot slots (place i) ≡ Some x))
      → ((i j : ℕ) → i < n → j < n → place i ≡ place j → i ≡ j) → n ≤ length (filled slots)
  limited zero slots place content once = omega arith
  limited (suc n) slots place content once =
      let p : ℕ = place n in
      let last = content n (omega arith) in
      let rest : n ≤ length (filled (set slots p None)) =
      limited n (set slots p None) place
      (λ i lt.
      let one = content i (omega (arith, lt)) in
      let other : place i ≢ p = λ same. absurd (let e : i ≡ n = once i n (omega (arith, lt)) (omega arith) same in omega (arith, lt, e)) in
      (one.0, get_or-set_other slots p (place i) None None other ∙ one.1))
      (λ i j li lj. once i j (omega (arith, li)) (omega (arith, lj))) in
      omega (arith, rest, cleared slots p last.0 last.1)

module _ {X : Type 0} (key : X → ℕ) where
  other_held : (h : ℕ) (o : Option X) → is_other key h o ≡ true → (x : X) × (o ≡ Some x)
  other_held h None is = absurd (cc)
  other_held h (Some x) is = (x, refl)

  -- a search passes no more slots than are filled
  pub few_others : (lg h n : ℕ) (slots : List (Option X)) → n ≤ 2 ^ lg → HasOthers key lg slots h n → n ≤ length (filled slots)
  unfolding HasOthers
  few_others lg h n slots most others =
      limited n slots (probe h lg) (λ i lt. other_held h (slot slots (probe h lg i)) (others i lt)) (λ i j li lj same. probe_once h lg i j (omega (arith, li, most)) (omega (arith, lj, most)) same)

one_more : (h i s : ℕ) → (h + i * s) + s ≡ h + (i + 1) * s
one_more h i s = omega arith

pub probe_start : (h lg : ℕ) → probe h lg 0 ≡ h % 2 ^ lg
unfolding probe
probe_start h lg = ap (λ (n : ℕ). n % 2 ^ lg) (omega arith)

pub probe_next : (h lg i : ℕ) → (probe h lg i + stride h lg) % 2 ^ lg ≡ probe h lg (i + 1)
unfolding probe
probe_next h lg i = mod-add-mod (h + i * stride h lg) (2 ^ lg) (stride h lg) ∙ ap (λ (n : ℕ). n % 2 ^ lg) (one_more h i (stride h lg))

pub probe_low : (h lg i : ℕ) → probe h lg i < 2 ^ lg
unfolding probe
probe_low h lg i = mod_below (h + i * stride h lg) (2 ^ lg) (pow_pos lg)

module _ {X : Type 0} (key : X → ℕ) (lg : ℕ) (slots : List (Option X)) (h : ℕ) where
  pub others_none : HasOthers key lg slots h 0
  unfolding HasOthers
  others_none i lt = absurd (omega (arith, lt))

  pub others_more : (n : ℕ) → HasOthers key lg slots h n → is_other key h (slot slots (probe h lg n)) ≡ true → HasOthers key lg slots h (n + 1)
  unfolding HasOthers
  others_more n others more i lt =
      elim (cases_lt i n) [
        | inl low ↦ others i low
        | inr high ↦ let same : n ≡ i = omega (arith, lt, high) in subst (λ (m : ℕ). is_other key h (slot slots (probe h lg m)) ≡ true) same more
      ]

-- ---- writes
module _ {X : Type 0} (key : X → ℕ) (lg : ℕ) where
  -- a slot that has another hash is not free
  not_there : (slots : List (Option X)) (h p q : ℕ) → is_other key h (slot slots p) ≡ false → is_other key h (slot slots q) ≡ true → q ≢ p
  not_there slots h p q present there = λ same. absurd (let e = ap (λ (n : ℕ). is_other key h (slot slots n)) same in cc)

  -- a search for h doesn't distinguish entries with the same key
  other_same : (h : ℕ) (x y : X) → key x ≡ key y → is_other key h (Some x) ≡ is_other key h (Some y)
  other_same h x y same = ap (λ (n : ℕ). not (eqb n h)) same

  -- a write that no search can see
  pub on_path_kept : (slots : List (Option X)) (p h q : ℕ) (x : X) → ((j : ℕ) → is_other key h (slot slots j) ≡ true → is_other key h (slot (set slots p (Some x)) j) ≡ true) → IsOnPath key lg slots h q → IsOnPath key lg (set slots p (Some x)) h q
  unfolding HasOthers
  on_path_kept slots p h q x keeps on = record { step = on.step; in_range = on.in_range; present = on.present; others = λ i lt. keeps (probe h lg i) (on.others i lt) }

  -- a write to a free slot hides no entry
  free_keeps : (slots : List (Option X)) (p h : ℕ) (x : X) → slot slots p ≡ None → (j : ℕ) → is_other key h (slot slots j) ≡ true → is_other key h (slot (set slots p (Some x)) j) ≡ true
  free_keeps slots p h x free j other =
      let apart : j ≢ p = not_there slots h p j (ap (is_other key h) free) other in
      ap (is_other key h) (get_or-set_other slots p j (Some x) None apart) ∙ other

  -- nor does one over an entry of the same key
  same_keeps : (slots : List (Option X)) (p h : ℕ) (x y : X) → slot slots p ≡ Some y → key x ≡ key y → (j : ℕ) → is_other key h (slot slots j) ≡ true → is_other key h (slot (set slots p (Some x)) j) ≡ true
  same_keeps slots p h x y content same j other =
      elim (cases_eq j p) [
        | inl is ↦
            let put : slot (set slots p (Some x)) p ≡ Some x = get_or-set_same slots p (Some x) None (slot_in slots p y content) in
            let there : is_other key h (Some y) ≡ true = ap (is_other key h) (sym content) ∙ ap (λ (n : ℕ). is_other key h (slot slots n)) (sym is) ∙ other in
            ap (λ (n : ℕ). is_other key h (slot (set slots p (Some x)) n)) is ∙ ap (is_other key h) put ∙ other_same h x y same ∙ there
        | inr apart ↦ ap (is_other key h) (get_or-set_other slots p j (Some x) None apart) ∙ other
      ]

  laid_out_by : (slots : List (Option X)) (p : ℕ) (x : X) → IsLaidOut key lg slots → p < length slots → IsOnPath key lg slots (key x) p
      → ((h j : ℕ) → is_other key h (slot slots j) ≡ true → is_other key h (slot (set slots p (Some x)) j) ≡ true) → IsLaidOut key lg (set slots p (Some x))
  laid_out_by slots p x is inside on keeps = record {
    size = length-set slots p (Some x) ∙ is.size;
    on_path = λ q y content.
        elim (cases_eq q p) [
          | inl same ↦
              let present : y ≡ x = let a = get_or-set_same slots p (Some x) None inside in let b = ap (λ (n : ℕ). slot (set slots p (Some x)) n) same in cc in
              rw (present, same) (on_path_kept slots p (key x) p x (keeps (key x)) on)
          | inr apart ↦ on_path_kept slots p (key y) q x (keeps (key y)) (is.on_path q y (sym (get_or-set_other slots p q (Some x) None apart) ∙ content))
        ];
  }

  pub laid_out_new : (slots : List (Option X)) (p : ℕ) (x : X) → IsLaidOut key lg slots → p < length slots → slot slots p ≡ None → IsOnPath key lg slots (key x) p → IsLaidOut key lg (set slots p (Some x))
  laid_out_new slots p x is inside free on = laid_out_by slots p x is inside on (λ h j other. free_keeps slots p h x free j other)

  pub laid_out_same : (slots : List (Option X)) (p : ℕ) (x y : X) → IsLaidOut key lg slots → slot slots p ≡ Some y → key x ≡ key y → IsLaidOut key lg (set slots p (Some x))
  laid_out_same slots p x y is content same =
      laid_out_by slots p x is (slot_in slots p y content) (rw same (is.on_path p y content)) (λ h j other. same_keeps slots p h x y content same j other)

-- ---- searches
module _ {X : Type 0} (key : X → ℕ) where
  pub other_not : (h : ℕ) (y : X) → key y ≡ h → is_other key h (Some y) ≡ false
  other_not h y same = let e : eqb (key y) h ≡ true = grind (arith, nat_tests) in rw e refl

  -- a search ends before the slot of an entry only if it ends at one
  ends_first : (lg h p q i : ℕ) (slots : List (Option X)) → is_other key h (slot slots p) ≡ false → HasOthers key lg slots h i → (on : IsOnPath key lg slots h p) → on.step < i → ⊥
  unfolding HasOthers
  ends_first lg h p q i slots ends others on before =
      let a = others on.step before in
      let b = ap (λ (n : ℕ). is_other key h (slot slots n)) on.present in
      absurd (cc)

  -- an entry with the hash is only where a search for it ends
  pub only_there : (lg h p q : ℕ) (y : X) (slots : List (Option X)) → IsLaidOut key lg slots → IsOnPath key lg slots h p → is_other key h (slot slots p) ≡ false → slot slots q ≡ Some y → key y ≡ h → q ≡ p
  only_there lg h p q y slots is on ends content same =
      let off : IsOnPath key lg slots h q = subst (λ (n : ℕ). IsOnPath key lg slots n q) same (is.on_path q y content) in
      let ends' : is_other key h (slot slots q) ≡ false = ap (is_other key h) content ∙ other_not h y same in
      elim (cases_order on.step off.step) [
        | inl tie ↦ sym off.present ∙ ap (λ (n : ℕ). probe h lg n) (sym tie) ∙ on.present
        | inr (inl lt) ↦ absurd (ends_first lg h p q off.step slots ends off.others on lt)
        | inr (inr gt) ↦ absurd (ends_first lg h q p on.step slots ends' on.others off gt)
      ]

  pub found_none : (slots : List (Option X)) (h : ℕ) → ((q : ℕ) (y : X) → slot slots q ≡ Some y → key y ≢ h) → entry_at key (filled slots) h ≡ None
  found_none [] h none = refl
  found_none (None ∷ slots) h none = found_none slots h (λ q y content. none (suc q) y content)
  found_none (Some x ∷ slots) h none =
      let differs : key x ≢ h = none 0 x refl in
      let e : eqb (key x) h ≡ false = grind (arith, nat_tests) in
      rw e (found_none slots h (λ q y content. none (suc q) y content))

  found_some : (slots : List (Option X)) (h p : ℕ) (x : X) → slot slots p ≡ Some x → key x ≡ h → ((q : ℕ) (y : X) → slot slots q ≡ Some y → key y ≡ h → q ≡ p) → entry_at key (filled slots) h ≡ Some x
  found_some [] h p x content same only = absurd (cc)
  found_some (o ∷ slots) h zero x content same only = let e : eqb (key x) h ≡ true = grind (arith, nat_tests) in rw (content, e) refl
  found_some (None ∷ slots) h (suc p) x content same only = found_some slots h p x content same (λ q y there alike. let a : suc q ≡ suc p = only (suc q) y there alike in omega (arith, a))
  found_some (Some z ∷ slots) h (suc p) x content same only =
      let differs : key z ≢ h = λ alike. absurd (let a : 0 ≡ suc p = only 0 z refl alike in omega (arith, a)) in
      let e : eqb (key z) h ≡ false = grind (arith, nat_tests) in
      rw e (found_some slots h p x content same (λ q y there alike. let a : suc q ≡ suc p = only (suc q) y there alike in omega (arith, a)))

  pub ended : (h : ℕ) (o : Option X) → is_other key h o ≡ false → (o ≡ None) ⊎ ((x : X) × (o ≡ Some x) × (key x ≡ h))
  ended h None e = inl refl
  ended h (Some x) e = inr (x, refl, grind (arith, nat_tests))

  -- a search finds what the map has
  pub search_finds : (lg h p : ℕ) (slots : List (Option X)) → IsLaidOut key lg slots → IsOnPath key lg slots h p → is_other key h (slot slots p) ≡ false → entry_at key (map_of key (filled slots)) h ≡ slot slots p
  search_finds lg h p slots is on ends =
      entry_at-map_of key (filled slots) h ∙
      elim (ended h (slot slots p) ends) [
        | inl free ↦
            found_none slots h (λ q y content alike. absurd (let same : q ≡ p = only_there lg h p q y slots is on ends content alike in let b = ap (λ (n : ℕ). slot slots n) same in cc)) ∙ sym free
        | inr content ↦ found_some slots h p content.0 content.1 content.2 (λ q y there alike. only_there lg h p q y slots is on ends there alike) ∙ sym content.1
      ]

  -- an entry put where a search for it ends is inserted into the map
  filled_put : (slots : List (Option X)) (p : ℕ) (x : X) (q : ℕ) → p < length slots → ((j : ℕ) (y : X) → slot slots j ≡ Some y → key y ≡ key x → j ≡ p) → is_other key (key x) (slot slots p) ≡ false
      → entry_at key (filled (set slots p (Some x))) q ≡ cond (eqb (key x) q) (Some x) (entry_at key (filled slots) q)
  filled_put [] p x q inside only ends = absurd (omega (arith, inside))
  filled_put (None ∷ slots) zero x q inside only ends = refl
  filled_put (Some y ∷ slots) zero x q inside only ends =
      let same : key y ≡ key x = grind (arith, nat_tests) in
      rw same (elim (eqb (key x) q) as (λ b. cond b (Some x) (entry_at key (filled slots) q) ≡ cond b (Some x) (cond b (Some y) (entry_at key (filled slots) q))) [ true ↦ refl | false ↦ refl ])
  filled_put (None ∷ slots) (suc p) x q inside only ends =
      filled_put slots p x q (omega (arith, inside)) (λ j y content alike. let a : suc j ≡ suc p = only (suc j) y content alike in omega (arith, a)) ends
  filled_put (Some y ∷ slots) (suc p) x q inside only ends =
      let rest = filled_put slots p x q (omega (arith, inside)) (λ j z content alike. let a : suc j ≡ suc p = only (suc j) z content alike in omega (arith, a)) ends in
      let differs : key y ≢ key x = λ alike. absurd (let a : 0 ≡ suc p = only 0 y refl alike in omega (arith, a)) in
      ap (λ o. cond (eqb (key y) q) (Some y) o) rest ∙
      (elim (eqb (key y) q) as (λ b. eqb (key y) q ≡ b → cond b (Some y) (cond (eqb (key x) q) (Some x) (entry_at key (filled slots) q)) ≡ cond (eqb (key x) q) (Some x) (cond b (Some y) (entry_at key (filled slots) q))) [
        | true ↦ λ e. let f : eqb (key x) q ≡ false = grind (arith, nat_tests) in rw f refl
        | false ↦ λ e. refl
      ]) refl

  pub put_joins : (lg p : ℕ) (x : X) (slots : List (Option X)) → IsLaidOut key lg slots → p < length slots → IsOnPath key lg slots (key x) p → is_other key (key x) (slot slots p) ≡ false
      → map_of key (filled (set slots p (Some x))) ≡ with_entry key (map_of key (filled slots)) x
  put_joins lg p x slots is inside on ends =
      same_map key (map_of key (filled (set slots p (Some x)))) (with_entry key (map_of key (filled slots)) x) (ascending-map_of key (filled (set slots p (Some x)))) (ascending-with_entry key (map_of key (filled slots)) x (ascending-map_of key (filled slots)))
      (λ q.
      entry_at-map_of key (filled (set slots p (Some x))) q ∙
      filled_put slots p x q inside (λ j y content alike. only_there lg (key x) p j y slots is on ends content alike) ends ∙
      ap (λ o. cond (eqb (key x) q) (Some x) o) (sym (entry_at-map_of key (filled slots) q)) ∙
      sym (entry_at-with_entry key (map_of key (filled slots)) x q))

-- ---- one entry more
module _ {X : Type 0} where
  pub filled-append : (xs ys : List (Option X)) → filled (xs ++ ys) ≡ filled xs ++ filled ys
  filled-append [] ys = refl
  filled-append (None ∷ xs) ys = filled-append xs ys
  filled-append (Some x ∷ xs) ys = ap (λ zs. x ∷ zs) (filled-append xs ys)

  pub filled_new : (slots : List (Option X)) (p : ℕ) (x : X) → p < length slots → slot slots p ≡ None → length (filled (set slots p (Some x))) ≡ length (filled slots) + 1
  filled_new [] p x inside free = absurd (omega (arith, inside))
  filled_new (None ∷ slots) zero x inside free = omega arith
  filled_new (Some y ∷ slots) zero x inside free = absurd (cc)
  filled_new (None ∷ slots) (suc p) x inside free = filled_new slots p x (omega (arith, inside)) free
  filled_new (Some y ∷ slots) (suc p) x inside free = omega (arith, filled_new slots p x (omega (arith, inside)) free)

  -- a slot of slots without entries
  pub nothing_held : (slots : List (Option X)) (p : ℕ) (x : X) → filled slots ≡ [] → slot slots p ≡ Some x → ⊥
  nothing_held [] p x none content = absurd (cc)
  nothing_held (None ∷ slots) zero x none content = absurd (cc)
  nothing_held (None ∷ slots) (suc p) x none content = nothing_held slots p x none content
  nothing_held (Some y ∷ slots) p x none content = absurd (cc)

module _ {X : Type 0} (key : X → ℕ) (lg : ℕ) where
  pub laid_out_empty : (slots : List (Option X)) → length slots ≡ 2 ^ lg → filled slots ≡ [] → IsLaidOut key lg slots
  laid_out_empty slots size none = record { size = size; on_path = λ p x content. absurd (nothing_held slots p x none content) }

  pub laid_out_put : (slots : List (Option X)) (p : ℕ) (x : X) → IsLaidOut key lg slots → p < length slots → IsOnPath key lg slots (key x) p → is_other key (key x) (slot slots p) ≡ false → IsLaidOut key lg (set slots p (Some x))
  laid_out_put slots p x is inside on ends =
      elim (ended key (key x) (slot slots p) ends) [
        | inl free ↦ laid_out_new key lg slots p x is inside free on
        | inr content ↦ laid_out_same key lg slots p x content.0 is content.1 (sym content.2)
      ]

  pub put_found : (slots : List (Option X)) (p : ℕ) (x : X) → IsLaidOut key lg slots → p < length slots → IsOnPath key lg slots (key x) p → is_other key (key x) (slot slots p) ≡ false
      → (q : ℕ) → entry_at key (filled (set slots p (Some x))) q ≡ entry_at key (x ∷ filled slots) q
  put_found slots p x is inside on ends q = filled_put key slots p x q inside (λ j y content alike. only_there key lg (key x) p j y slots is on ends content alike) ends

-- ---- how many
module _ {X : Type 0} (key : X → ℕ) where
  length-parts : (m : List X) (x : X) → entry_at key m (key x) ≡ None → length (below key m (key x)) + length (above key m (key x)) ≡ length m
  length-parts [] x none = omega arith
  length-parts (y ∷ m) x none =
      (elim (eqb (key y) (key x)) as (λ b. eqb (key y) (key x) ≡ b → length (below key (y ∷ m) (key x)) + length (above key (y ∷ m) (key x)) ≡ suc (length m)) [
        | true ↦ λ e. absurd (let head : entry_at key (y ∷ m) (key x) ≡ Some y = rw e refl in cc)
        | false ↦ λ e.
            let tail : entry_at key (y ∷ m) (key x) ≡ entry_at key m (key x) = rw e refl in
            let rest = length-parts m x (sym tail ∙ none) in
            elim (cases_lt (key y) (key x)) [
              | inl lt ↦ let a : ltb (key y) (key x) ≡ true = grind (arith, nat_tests) in let b : ltb (key x) (key y) ≡ false = grind (arith, nat_tests) in rw (a, b) (omega (arith, rest))
              | inr ge ↦ let a : ltb (key y) (key x) ≡ false = grind (arith, nat_tests) in let b : ltb (key x) (key y) ≡ true = grind (arith, nat_tests) in rw (a, b) (omega (arith, rest))
            ]
      ]) refl

  pub length-with_entry : (m : List X) (x : X) → entry_at key m (key x) ≡ None → length (with_entry key m x) ≡ suc (length m)
  length-with_entry m x none = length-append (below key m (key x)) (x ∷ above key m (key x)) ∙ omega (arith, length-parts m x none)

  length-distinct : (slots : List (Option X)) → ((i j : ℕ) (y z : X) → slot slots i ≡ Some y → slot slots j ≡ Some z → key y ≡ key z → i ≡ j) → length (map_of key (filled slots)) ≡ length (filled slots)
  length-distinct [] apart = refl
  length-distinct (None ∷ slots) apart = length-distinct slots (λ i j y z yi zj same. let a : suc i ≡ suc j = apart (suc i) (suc j) y z yi zj same in omega (arith, a))
  length-distinct (Some x ∷ slots) apart =
      let none : entry_at key (map_of key (filled slots)) (key x) ≡ None = entry_at-map_of key (filled slots) (key x) ∙ found_none key slots (key x) (λ q y content same. absurd (let a : suc q ≡ 0 = apart (suc q) 0 y x content refl same in omega (arith, a))) in
      length-with_entry (map_of key (filled slots)) x none ∙ ap suc (length-distinct slots (λ i j y z yi zj same. let a : suc i ≡ suc j = apart (suc i) (suc j) y z yi zj same in omega (arith, a)))

  -- the map has as many entries as the slots
  pub length-map_of : (lg : ℕ) (slots : List (Option X)) → IsLaidOut key lg slots → length (map_of key (filled slots)) ≡ length (filled slots)
  length-map_of lg slots is =
      length-distinct slots (λ i j y z yi zj same. only_there key lg (key z) j i y slots is (is.on_path j z zj) (ap (is_other key (key z)) zj ∙ other_not key (key z) z refl) yi same)

-- ---- how many are below
module _ {X : Type 0} (key : X → ℕ) where
  smaller-append : (xs ys : List X) (h : ℕ) → length (below key (xs ++ ys) h) ≡ length (below key xs h) + length (below key ys h)
  smaller-append [] ys h = omega arith
  smaller-append (x ∷ xs) ys h =
      elim (ltb (key x) h) as (λ b. length (cond b (x ∷ below key (xs ++ ys) h) (below key (xs ++ ys) h)) ≡ length (cond b (x ∷ below key xs h) (below key xs h)) + length (below key ys h)) [
        | true ↦ omega (arith, smaller-append xs ys h)
        | false ↦ smaller-append xs ys h
      ]

  smaller-parts : (m : List X) (x : X) (h : ℕ) → entry_at key m (key x) ≡ None → length (below key (below key m (key x)) h) + length (below key (above key m (key x)) h) ≡ length (below key m h)
  smaller-parts [] x h none = omega arith
  smaller-parts (y ∷ m) x h none =
      (elim (eqb (key y) (key x)) as (λ b. eqb (key y) (key x) ≡ b → length (below key (below key (y ∷ m) (key x)) h) + length (below key (above key (y ∷ m) (key x)) h) ≡ length (below key (y ∷ m) h)) [
        | true ↦ λ e. absurd (let head : entry_at key (y ∷ m) (key x) ≡ Some y = rw e refl in cc)
        | false ↦ λ e.
            let tail : entry_at key (y ∷ m) (key x) ≡ entry_at key m (key x) = rw e refl in
            let rest = smaller-parts m x h (sym tail ∙ none) in
            let lows : List X = below key (below key m (key x)) h in
            let highs : List X = below key (above key m (key x)) h in
            let all : List X = below key m h in
            elim (cases_lt (key y) (key x)) [
              | inl lt ↦
                  let a : ltb (key y) (key x) ≡ true = grind (arith, nat_tests) in
                  let b : ltb (key x) (key y) ≡ false = grind (arith, nat_tests) in
                  rw (a, b) (elim (ltb (key y) h) as (λ t. length (cond t (y ∷ lows) lows) + length highs ≡ length (cond t (y ∷ all) all)) [ true ↦ omega (arith, rest) | false ↦ rest ])
              | inr ge ↦
                  let a : ltb (key y) (key x) ≡ false = grind (arith, nat_tests) in
                  let b : ltb (key x) (key y) ≡ true = grind (arith, nat_tests) in
                  rw (a, b) (elim (ltb (key y) h) as (λ t. length lows + length (cond t (y ∷ highs) highs) ≡ length (cond t (y ∷ all) all)) [ true ↦ omega (arith, rest) | false ↦ rest ])
            ]
      ]) refl

  pub smaller-with_entry : (m : List X) (x : X) (h : ℕ) → entry_at key m (key x) ≡ None → length (below key (with_entry key m x) h) ≡ length (below key (x ∷ m) h)
  smaller-with_entry m x h none =
      smaller-append (below key m (key x)) (x ∷ above key m (key x)) h ∙
      (let parts = smaller-parts m x h none in
      let lows : List X = below key (below key m (key x)) h in
      let highs : List X = below key (above key m (key x)) h in
      let all : List X = below key m h in
      elim (ltb (key x) h) as (λ t. length lows + length (cond t (x ∷ highs) highs) ≡ length (cond t (x ∷ all) all)) [ true ↦ omega (arith, parts) | false ↦ parts ])

  smaller-distinct : (slots : List (Option X)) (h : ℕ) → ((i j : ℕ) (y z : X) → slot slots i ≡ Some y → slot slots j ≡ Some z → key y ≡ key z → i ≡ j) → length (below key (map_of key (filled slots)) h) ≡ length (below key (filled slots) h)
  smaller-distinct [] h apart = refl
  smaller-distinct (None ∷ slots) h apart = smaller-distinct slots h (λ i j y z yi zj same. let a : suc i ≡ suc j = apart (suc i) (suc j) y z yi zj same in omega (arith, a))
  smaller-distinct (Some x ∷ slots) h apart =
      let none : entry_at key (map_of key (filled slots)) (key x) ≡ None = entry_at-map_of key (filled slots) (key x) ∙ found_none key slots (key x) (λ q y content same. absurd (let a : suc q ≡ 0 = apart (suc q) 0 y x content refl same in omega (arith, a))) in
      let rest = smaller-distinct slots h (λ i j y z yi zj same. let a : suc i ≡ suc j = apart (suc i) (suc j) y z yi zj same in omega (arith, a)) in
      let mapped : List X = below key (map_of key (filled slots)) h in
      let content : List X = below key (filled slots) h in
      smaller-with_entry (map_of key (filled slots)) x h none ∙ elim (ltb (key x) h) as (λ t. length (cond t (x ∷ mapped) mapped) ≡ length (cond t (x ∷ content) content)) [ true ↦ ap suc rest | false ↦ rest ]

  -- a hash has as many smaller ones in the map as in the slots
  pub rank-map_of : (lg : ℕ) (slots : List (Option X)) (h : ℕ) → IsLaidOut key lg slots → rank key (map_of key (filled slots)) h ≡ rank key (filled slots) h
  rank-map_of lg slots h is =
      sym (length-filter (λ x. ltb (key x) h) (map_of key (filled slots))) ∙
      smaller-distinct slots h (λ i j y z yi zj same. only_there key lg (key z) j i y slots is (is.on_path j z zj) (ap (is_other key (key z)) zj ∙ other_not key (key z) z refl) yi same) ∙
      length-filter (λ x. ltb (key x) h) (filled slots)
