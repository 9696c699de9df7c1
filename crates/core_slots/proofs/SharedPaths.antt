-- Entries that are put along paths that they share.
use Rattle.std.proofs.Common.{◌≡◌, ℕ, zero, suc, ◌+◌, ◌*◌, ◌%◌, ◌^◌, ◌<◌, ◌≤◌, ◌≢◌, Bool, true, false, not, eqb, cond, List, [], ◌∷◌, ◌++◌, append-nil, length, length-append, set, map, Option, Some, None, is_none, Bor, inl, inr, refl, sym, ap, ◌∙◌, subst, arith}
use Rattle.std.specs.List.{Contains, sum_by, count_by}
use Rattle.std.specs.List.Sorted.{IsPermutation}
use Rattle.std.specs.Option.{is_some, option_copied, option_map_or}
use Rattle.std.proofs.lemmas.Bool.{cases_lt, cases_eq}
use Rattle.std.proofs.lemmas.Bool.Decides.{nat_tests}
use Rattle.std.proofs.lemmas.List.{get_or-set_same, get_or-set_other, get_or_default, map-append}
use Rattle.std.proofs.lemmas.List.Sums.{sum_by-cons}
use Rattle.std.proofs.lemmas.List.Sorted.{IsPermutation-sym, Contains-permutation, sum_by-IsPermutation}
use Rattle.core_laws.specs.Maps.{entry_at}
use Rattle.core_laws.proofs.maps.LookUps.{entry_at-append}
use Rattle.core_slots.specs.SlotLayout.{filled, slot, is_other, HasOthers, IsOnPath, IsLaidOut}
use Rattle.core_slots.specs.Probe.{probe, stride}
use Rattle.core_slots.specs.Rounds.{hash_count, IsInRound}
use Rattle.core_slots.proofs.SlotLayouts.{filled-append, filled_new, laid_out_new, probe_next, probe_low, put_found}
use Rattle.core_slots.proofs.Moves.{count-append, count-cons}
use Rattle.core_slots.proofs.HashCounts.{absent_counted, count_put, counted_none, counted_there, one_here}
use Rattle.core_slots.proofs.Settled.{all_others_none, is_taken, part_settled}

-- two paths of one stride that meet stay together
pub meets : (h o lg passed i : ℕ) → stride h lg ≡ stride o lg → probe o lg passed ≡ probe h lg 0 → probe h lg i ≡ probe o lg (passed + i)
meets h o lg passed zero same start = sym start ∙ ap (λ (n : ℕ). probe o lg n) (omega arith)
meets h o lg passed (suc i) same start =
    let before = meets h o lg passed i same start in
    let one : suc i ≡ i + 1 = omega arith in
    let other : (passed + i) + 1 ≡ passed + suc i = omega arith in
    ap (λ (n : ℕ). probe h lg n) one
    ∙ sym (probe_next h lg i)
    ∙ ap (λ (n : ℕ). (n + stride h lg) % 2 ^ lg) before
    ∙ ap (λ (n : ℕ). (probe o lg (passed + i) + n) % 2 ^ lg) same
    ∙ probe_next o lg (passed + i)
    ∙ ap (λ (n : ℕ). probe o lg n) other

module _ {X : Type 0} (key : X → ℕ) where
  -- an entry in a slot has another hash than one that is in none
  other_there : (slots : List (Option X)) (h p : ℕ) (y : X) → entry_at key (filled slots) h ≡ None → slot slots p ≡ Some y → is_other key h (slot slots p) ≡ true
  other_there slots h p y absent there =
      let differs : key y ≢ h = λ alike. absurd (omega (arith, absent_counted key (filled slots) h absent, counted_there key slots p h y there alike)) in
      let another : not (eqb (key y) h) ≡ true = grind (arith, nat_tests) in
      ap (is_other key h) there ∙ another

  pub taken_other : (slots : List (Option X)) (h p : ℕ) → entry_at key (filled slots) h ≡ None → is_none (slot slots p) ≡ false → is_other key h (slot slots p) ≡ true
  taken_other slots h p absent taken = let one = is_taken (slot slots p) taken in other_there slots h p one.0 absent one.1

  not_free : (h : ℕ) (o : Option X) → is_other key h o ≡ true → is_none o ≡ false
  not_free h None other = absurd (cc)
  not_free h (Some x) other = refl

-- a slot in which a look found an entry
pub copied_taken : {X : Type 0} (seen : Option (Bor X)) (o : Option X) → is_some seen ≡ true → option_copied seen ≡ o → is_none o ≡ false
copied_taken None o some is = absurd (cc)
copied_taken (Some x) o some is = ap is_none (sym is)

-- ---- the last of the waiting slots is taken out
module _ {S X : Type 0} (content : S → Option X) where
  last_is : (items rest : List S) (s : S) (o : Option X) → items ≡ rest ++ s ∷ [] → content s ≡ o → filled (map content items) ≡ filled (map content rest) ++ filled (o ∷ [])
  last_is items rest s o popped is =
      ap (λ xs. filled (map content xs)) popped ∙ ap filled (map-append content rest (s ∷ [])) ∙ filled-append (map content rest) (content s ∷ []) ∙ ap (λ u. filled (map content rest) ++ filled (u ∷ [])) is

  pub last_taken : (items rest : List S) (s : S) (x : X) → items ≡ rest ++ s ∷ [] → content s ≡ Some x → filled (map content items) ≡ filled (map content rest) ++ x ∷ []
  last_taken items rest s x popped is = last_is items rest s (Some x) popped is

  pub last_free : (items rest : List S) (s : S) → items ≡ rest ++ s ∷ [] → content s ≡ None → filled (map content items) ≡ filled (map content rest)
  last_free items rest s popped is = last_is items rest s None popped is ∙ append-nil (filled (map content rest))

-- the first n slots on the path of h are taken
unfoldable pub ArePassed : {X : Type 0} → (lg : ℕ) → List (Option X) → (h n : ℕ) → Type 0
ArePassed lg slots h n = (i : ℕ) → i < n → is_none (slot slots (probe h lg i)) ≡ false

module _ {X : Type 0} (lg : ℕ) (slots : List (Option X)) where
  pub passed_none : (h : ℕ) → ArePassed lg slots h 0
  unfolding ArePassed
  passed_none h i lt = absurd (omega (arith, lt))

module _ {X : Type 0} (key : X → ℕ) (lg : ℕ) (slots : List (Option X)) where
  -- what is known of the path of a new hash by that of another
  pub others_known : (h o taken known : ℕ) → entry_at key (filled slots) h ≡ None → ArePassed lg slots o taken → ((i : ℕ) → i < known → (t : ℕ) × (t < taken) × (probe h lg i ≡ probe o lg t)) → HasOthers key lg slots h known
  unfolding HasOthers ArePassed
  others_known h o taken known absent passed meet i lt =
      let one = meet i lt in
      taken_other key slots h (probe h lg i) absent (ap (λ (n : ℕ). is_none (slot slots n)) one.2 ∙ passed one.0 one.1)

  -- what is known once the slot after these steps was taken
  pub passed_put : (h steps : ℕ) (x : X) → length slots ≡ 2 ^ lg → HasOthers key lg slots h steps → ArePassed lg (set slots (probe h lg steps) (Some x)) h (steps + 1)
  unfolding HasOthers ArePassed
  passed_put h steps x size others i lt =
      let at : ℕ = probe h lg steps in
      elim (cases_eq (probe h lg i) at) [
        | inl same ↦ ap (λ (n : ℕ). is_none (slot (set slots at (Some x)) n)) same ∙ ap is_none (get_or-set_same slots at (Some x) None (omega (arith, probe_low h lg steps, size)))
        | inr apart ↦
            elim (cases_lt i steps) [
              | inl low ↦ ap is_none (get_or-set_other slots at (probe h lg i) (Some x) None apart) ∙ not_free key h (slot slots (probe h lg i)) (others i low)
              | inr high ↦ absurd (apart (let e : i ≡ steps = omega (arith, lt, high) in ap (λ (n : ℕ). probe h lg n) e))
            ]
      ]

-- ---- entries in another order
module _ {X : Type 0} (key : X → ℕ) where
  found_once : (xs : List (Option X)) (p q : ℕ) (x : X) → slot xs p ≡ Some x → key x ≡ q → hash_count key q (filled xs) ≤ 1 → entry_at key (filled xs) q ≡ Some x
  found_once [] p q x there same once = absurd (cc)
  found_once (None ∷ xs) zero q x there same once = absurd (cc)
  found_once (Some y ∷ xs) zero q x there same once =
      let e : y ≡ x = cc in
      let is : eqb (key y) q ≡ true = let k = ap key e in grind (arith, nat_tests) in
      rw is (ap Some e)
  found_once (None ∷ xs) (suc p) q x there same once = found_once xs p q x there same once
  found_once (Some y ∷ xs) (suc p) q x there same once =
      let parts = count-cons (λ z. eqb (key z) q) y (filled xs) in
      let later = counted_there key xs p q x there same in
      (elim (eqb (key y) q) as (λ b. eqb (key y) q ≡ b → cond b (Some y) (entry_at key (filled xs) q) ≡ Some x) [
        | true ↦ λ e. absurd (omega (arith, parts, later, once, one_here key y q e))
        | false ↦ λ e. found_once xs p q x there same (omega (arith, parts, once))
      ]) refl

  found_where : (xs : List (Option X)) (q : ℕ) (x : X) → entry_at key (filled xs) q ≡ Some x → Contains xs (Some x) × (key x ≡ q)
  found_where [] q x found = absurd (cc)
  found_where (None ∷ xs) q x found = let later = found_where xs q x found in ((suc later.0.0, omega (arith, later.0.1), later.0.2), later.1)
  found_where (Some y ∷ xs) q x found =
      (elim (eqb (key y) q) as (λ b. eqb (key y) q ≡ b → cond b (Some y) (entry_at key (filled xs) q) ≡ Some x → Contains (Some y ∷ xs) (Some x) × (key x ≡ q)) [
        | true ↦ λ e f. ((zero, omega arith, f), (let s : y ≡ x = cc in let k = ap key s in grind (arith, nat_tests)))
        | false ↦ λ e f. let later = found_where xs q x f in ((suc later.0.0, omega (arith, later.0.1), later.0.2), later.1)
      ]) refl found

  found_moved : (xs ys : List (Option X)) (q : ℕ) (x : X) → IsPermutation xs ys → hash_count key q (filled ys) ≤ 1 → entry_at key (filled xs) q ≡ Some x → entry_at key (filled ys) q ≡ Some x
  found_moved xs ys q x moved once found =
      let before = found_where xs q x found in
      let after = Contains-permutation xs ys (Some x) moved before.0 in
      found_once ys after.0 q x (get_or_default ys after.0 None (Some x) after.1 ∙ after.2) before.1 once

  count_of : (p : X → Bool) → Option X → ℕ
  count_of p o = count_by p (filled (o ∷ []))

  count_is : (p : X → Bool) (xs : List (Option X)) → count_by p (filled xs) ≡ sum_by (count_of p) xs
  unfolding count_of
  count_is p [] = refl
  count_is p (None ∷ xs) = count_is p xs
  count_is p (Some x ∷ xs) = count-cons p x (filled xs) ∙ ap (λ (n : ℕ). count_by p (x ∷ []) + n) (count_is p xs) ∙ sym (sum_by-cons (count_of p) (Some x) xs)

  pub count_moved : (p : X → Bool) (xs ys : List (Option X)) → IsPermutation xs ys → count_by p (filled ys) ≡ count_by p (filled xs)
  count_moved p xs ys moved = count_is p ys ∙ sum_by-IsPermutation (count_of p) xs ys moved ∙ sym (count_is p xs)

  -- the order of slots doesn't change the entry at a hash that is there once
  pub entry_moved : (xs ys : List (Option X)) (q : ℕ) → IsPermutation xs ys → hash_count key q (filled xs) ≤ 1 → entry_at key (filled ys) q ≡ entry_at key (filled xs) q
  entry_moved xs ys q moved once =
      let once' : hash_count key q (filled ys) ≤ 1 = omega (arith, once, count_moved (λ x. eqb (key x) q) xs ys moved) in
      (elim (entry_at key (filled xs) q) as (λ o. entry_at key (filled xs) q ≡ o → entry_at key (filled ys) q ≡ o) [
        | Some x ↦ λ e. found_moved xs ys q x moved once' e
        | None ↦ λ e.
            (elim (entry_at key (filled ys) q) as (λ o. entry_at key (filled ys) q ≡ o → o ≡ None) [
              | Some y ↦ λ f. absurd (let g = found_moved ys xs q y (IsPermutation-sym xs ys moved) once f in cc)
              | None ↦ λ f. refl
            ]) refl
      ]) refl

length_is : {X : Type 0} (xs : List X) → count_by (λ x. true) xs ≡ length xs
length_is [] = refl
length_is (x ∷ xs) = count-cons (λ y. true) x xs ∙ omega (arith, length_is xs)

module _ {X : Type 0} (key : X → ℕ) (lg : ℕ) where
  -- all wait, in another order
  pub paths_start : (before wait slots : List (Option X)) → IsPermutation before wait → IsLaidOut key lg slots → ((q : ℕ) → hash_count key q (filled before) + hash_count key q (filled slots) ≤ 1)
      → IsInRound key lg (filled before ++ filled slots) [] (filled wait) slots 0 0 (length (filled slots)) 0
  paths_start before wait slots moved laid_out once = record {
    laid_out = laid_out;
    found = λ q.
        entry_at-append key (filled wait) (filled slots) q
        ∙ ap (λ o. option_map_or Some o (entry_at key (filled slots) q)) (entry_moved key before wait q moved (omega (arith, once q)))
        ∙ sym (entry_at-append key (filled before) (filled slots) q);
    all = λ q. omega (arith, count_moved key (λ x. eqb (key x) q) before wait moved, count-append (λ x. eqb (key x) q) (filled before) (filled slots));
    once = λ q. omega (arith, count-append (λ x. eqb (key x) q) (filled before) (filled slots), once q);
    counted = omega (arith, length-append (filled before) (filled slots), count_moved key (λ x. true) before wait moved, length_is (filled before), length_is (filled wait));
    all_put = refl;
    looked_few = omega arith;
    stayed = tt;
    waits = all_others_none key lg slots (filled wait);
  }

  module _ (whole rest : List X) (x : X) (slots : List (Option X)) (put : ℕ) (is : IsInRound key lg whole [] (rest ++ x ∷ []) slots 0 0 put 0) where
    -- a waiting entry is in no slot
    pub waits_absent : entry_at key (filled slots) (key x) ≡ None
    waits_absent =
        let same : eqb (key x) (key x) ≡ true = grind (arith, nat_tests) in
        counted_none key (filled slots) (key x) (omega (arith, is.all (key x), is.once (key x), count-append (λ y. eqb (key y) (key x)) rest (x ∷ []), one_here key x (key x) same))

    -- nor are all slots taken
    pub waits_room : length whole ≤ 2 ^ lg → length (filled slots) < 2 ^ lg
    waits_room room = omega (arith, room, is.counted, is.all_put, length-append rest (x ∷ []))

    -- it takes the first free slot on its path
    pub path_puts : (at steps : ℕ) → at ≡ probe (key x) lg steps → steps < 2 ^ lg → slot slots (probe (key x) lg steps) ≡ None → HasOthers key lg slots (key x) steps → IsInRound key lg whole [] rest (set slots at (Some x)) 0 0 (put + 1) 0
    path_puts at steps way low there others =
        let free : slot slots at ≡ None = ap (λ (n : ℕ). slot slots n) way ∙ there in
        let inside : at < length slots = omega (arith, probe_low (key x) lg steps, way, is.laid_out.size) in
        let on : IsOnPath key lg slots (key x) at = record { step = steps; in_range = low; present = sym way; others = others } in
        let more : length (filled (set slots at (Some x))) ≡ put + 1 = filled_new slots at x inside free ∙ ap (λ (n : ℕ). n + 1) is.all_put in
        subst (λ (n : ℕ). IsInRound key lg whole [] rest (set slots at (Some x)) 0 0 n 0) more
        (part_settled key lg whole rest (x ∷ []) slots (set slots at (Some x)) put is (laid_out_new key lg slots at x is.laid_out inside free on) (put_found key lg slots at x is.laid_out inside on (ap (is_other key (key x)) free))
        (λ q. count_put key (λ y. eqb (key y) q) slots at x inside free) (omega (arith, filled_new slots at x inside free)))

-- ---- looks
pub looked_more : (p b l l0 m s : ℕ) → 2 * l + b * (b + 1) ≤ 2 * l0 + p * (p + 1) → m ≤ l + s + 1 → s ≡ p → 2 * m + b * (b + 1) ≤ 2 * l0 + (p + 1) * ((p + 1) + 1)
looked_more p b l l0 m s one two three = omega (arith, one, two, three)
