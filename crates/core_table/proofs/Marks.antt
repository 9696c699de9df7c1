-- Marks: the first marked slot, the slots after it, and slots without a mark.
use Rattle.std.proofs.Common.{Bor, true, false, cond, ltb, ◌≡◌, ℕ, zero, suc, ◌+◌, ◌-◌, ◌*◌, ◌/◌, ◌^◌, ◌<◌, ◌≤◌, not, if◌then◌else◌, List, [], ◌∷◌, length, map, get_or, take, drop, drop-cons, Option, Some, None, is_some, refl, sym, ap, subst, ◌∙◌, arith}
use Rattle.std.specs.List.{prefix_len}
use Rattle.std.specs.Option.{option_copied}
use Rattle.std.specs.Simd.Lanes.{mask_l}
use Rattle.std.proofs.lemmas.List.{length-map, length-drop, length-take-le, drop-map, take-map}
use Rattle.std.proofs.lemmas.Simd.{mask_l-lt, trailing_mask_l}
use Rattle.core_slots.specs.SlotLayout.{filled}
use Rattle.core_slots.proofs.Held.{slot-map, take_whole}
use Rattle.core_laws.specs.Maps.{below}
use Rattle.core_table.specs.Marks.{AreMarked, only_below, under}
use lib.Count.{count_trailing_zeros}
use Rattle.std.proofs.Math.Pow.{pow_mono}
use native.Mathlib.Nat.{pow-suc, two-pow-succ, mul_comm, div-one, div-div-eq-div-mul}

halved : (m n : ℕ) → 2 * m / 2 ^ suc n / 2 ≡ m / 2 ^ n / 2
halved m n =
    ap (λ p. 2 * m / p / 2) (pow-suc 2 n ∙ mul_comm (2 ^ n) 2)
    ∙ ap (λ k. k / 2) (sym (div-div-eq-div-mul (2 * m) 2 (2 ^ n)) ∙ ap (λ k. k / 2 ^ n) (omega arith))

odd_halved : (m : ℕ) → (1 + 2 * m) / 2 ^ 0 / 2 ≡ m
odd_halved m = ap (λ k. k / 2) (div-one (1 + 2 * m)) ∙ omega arith

module _ {X : Type 0} where
  -- a bit for each of some slots: whether it holds an entry
  abbrev pub marks_in : List (Option X) → ℕ
  marks_in slots = mask_l (map is_some slots)

  -- slots without a mark have no entries
  pub unmarked : (slots : List (Option X)) (n : ℕ) → marks_in (take n slots) ≡ 0 → filled slots ≡ filled (drop n slots)
  unmarked [] zero e = refl
  unmarked [] (suc n) e = refl
  unmarked (o ∷ slots) zero e = refl
  unmarked (None ∷ slots) (suc n) e = unmarked slots n (omega (arith, e))
  unmarked (Some x ∷ slots) (suc n) e = absurd (omega (arith, e))

  -- how many slots are before the first that holds an entry
  abbrev pub free_before : List (Option X) → ℕ
  free_before slots = prefix_len (λ o. not (is_some o)) slots

  -- the n-th slot is the first that is marked
  pub record IsFirstMarked (slots : List (Option X)) (ahead n : ℕ) : Type 0 where
    pub near : n < ahead
    pub inside : n < length slots
    pub entry : X
    pub present : get_or slots n None ≡ Some entry
    pub parts : filled slots ≡ entry ∷ filled (drop (suc n) slots)
    pub behind : marks_in (take ahead slots) / 2 ^ n / 2 ≡ marks_in (take (ahead - suc n) (drop (suc n) slots))

  pub first_marked : (slots : List (Option X)) (ahead : ℕ) → 0 < marks_in (take ahead slots) → IsFirstMarked slots ahead (free_before (take ahead slots))
  first_marked [] zero some = absurd (omega (arith, some))
  first_marked [] (suc ahead) some = absurd (omega (arith, some))
  first_marked (o ∷ slots) zero some = absurd (omega (arith, some))
  first_marked (Some x ∷ slots) (suc ahead) some = record {
    near = omega arith;
    inside = omega arith;
    entry = x;
    present = refl;
    parts = refl;
    behind = odd_halved (marks_in (take ahead slots)) ∙ ap (λ k. marks_in (take k slots)) (omega arith);
  }
  first_marked (None ∷ slots) (suc ahead) some =
      let later = first_marked slots ahead (omega (arith, some)) in
      let n = free_before (take ahead slots) in
      let doubled : marks_in (take (suc ahead) (None ∷ slots)) ≡ 2 * marks_in (take ahead slots) = omega arith in
      let next : IsFirstMarked (None ∷ slots) (suc ahead) (suc n) = record {
        near = omega (arith, later.near);
        inside = omega (arith, later.inside);
        entry = later.entry;
        present = later.present;
        parts = later.parts;
        behind = ap (λ k. k / 2 ^ suc n / 2) doubled ∙ halved (marks_in (take ahead slots)) n ∙ later.behind ∙ ap (λ k. marks_in (take k (drop (suc n) slots))) (omega arith);
      } in
      subst (IsFirstMarked (None ∷ slots) (suc ahead)) (omega arith) next

  -- the marks of a slot and those behind it
  pub marks_with : (slots : List (Option X)) (k : ℕ) → k < length slots → marks_in (drop k slots) ≡ (if is_some (get_or slots k None) then 1 else 0) + 2 * marks_in (drop (suc k) slots)
  marks_with slots k lt = ap marks_in (drop-cons slots k None lt)

-- the marks of slots as they are in memory, made from the last on
module _ {S X : Type 0} (content : S → Option X) where
  -- the marks of the last i slots
  abbrev pub AreMarksBehind : List S → (i marks : ℕ) → Type 0
  AreMarksBehind slots i marks = marks ≡ marks_in (drop (length slots - i) (map content slots))

  pub marks_fit : (slots : List S) (i marks : ℕ) → i < length slots → length slots ≤ 64 → AreMarksBehind slots i marks → 2 * marks + 1 < 2 ^ 64
  marks_fit slots i marks lt limited reported =
      let behind = drop (length slots - i) (map content slots) in
      let count : length (map is_some behind) ≡ i = length-map behind is_some ∙ length-drop (length slots - i) (map content slots) ∙ ap (λ n. n - (length slots - i)) (length-map slots content) ∙ omega arith in
      let small : marks < 2 ^ i = rw (reported) (subst (λ n. marks_in behind < 2 ^ n) count (mask_l-lt (map is_some behind))) in
      let le : suc i ≤ 64 = omega (arith, lt, limited) in
      omega (arith, small, two-pow-succ i, pow_mono {i = suc i} {j = 64} le)

  pub mark_more : (slots : List S) (i marks mark : ℕ) (s : S) → i < length slots → s ≡ get_or slots (length slots - 1 - i) s → mark ≡ (if is_some (content s) then 1 else 0) → AreMarksBehind slots i marks
      → AreMarksBehind slots (i + 1) (2 * marks + mark)
  mark_more slots i marks mark s lt is reported so_far =
      let k = length slots - (i + 1) in
      let inside : k < length slots = omega (arith, lt) in
      let same_place : k ≡ length slots - 1 - i = omega (arith, lt) in
      let back : suc k ≡ length slots - i = omega (arith, lt) in
      let present : get_or (map content slots) k None ≡ content s = slot-map content slots k s inside ∙ ap (λ n. content (get_or slots n s)) same_place ∙ ap content (sym is) in
      let behind : drop (suc k) (map content slots) ≡ drop (length slots - i) (map content slots) = ap (λ n. drop n (map content slots)) back in
      let whole = marks_with (map content slots) k (omega (arith, lt, length-map slots content)) in
      let first : mark ≡ (if is_some (get_or (map content slots) k None) then 1 else 0) = rw present reported in
      let others : marks ≡ marks_in (drop (suc k) (map content slots)) = so_far ∙ ap marks_in (sym behind) in
      omega (arith, whole, first, others)

  -- slots behind the k-th, as a slice has them
  behind_slice : (slots : List S) (k : ℕ) → map content (take (length slots - k) (drop k slots)) ≡ drop k (map content slots)
  behind_slice slots k = ap (map content) (take_whole content (drop k slots) (length slots - k) (omega (arith, length-drop k slots))) ∙ sym (drop-map content k slots)

  -- the marks of the first slots, as a slice has them
  pub marked_front : (slots : List S) (ahead marks : ℕ) → ahead ≤ 64 → ahead ≤ length slots → marks ≡ marks_in (map content (take ahead slots)) → AreMarked (map content slots) ahead marks
  marked_front slots ahead marks limited within reported = record {
    limited = limited;
    within = omega (arith, within, length-map slots content);
    reported = reported ∙ ap marks_in (sym (take-map content ahead slots));
  }

  -- slots without a mark are passed over
  pub passed_over : (slots : List S) (ahead marks : ℕ) → AreMarked (map content slots) ahead marks → marks ≡ 0 → filled (map content (take (length slots - ahead) (drop ahead slots))) ≡ filled (map content slots)
  passed_over slots ahead marks are none = rw (behind_slice slots ahead) (sym (unmarked (map content slots) ahead (sym are.reported ∙ none)))

  -- slots, some of them marked: the first marked one, and the slots after it
  module _ (slots : List S) (ahead marks : ℕ) (are : AreMarked (map content slots) ahead marks) (some : 0 < marks) where
    abbrev n : ℕ
    n = count_trailing_zeros 64 marks

    fits : length (take ahead (map content slots)) ≤ 64
    fits = omega (arith, length-take-le ahead (map content slots), are.limited)

    place : n ≡ free_before (take ahead (map content slots))
    place = ap (count_trailing_zeros 64) are.reported ∙ trailing_mask_l is_some 64 (take ahead (map content slots)) fits (rw (← are.reported) some)

    pub first : IsFirstMarked (map content slots) ahead n
    first = rw place (first_marked (map content slots) ahead (rw (← are.reported) some))

    next : suc n ≡ n + 1
    next = omega arith

    pub near : n < ahead
    near = first.near

    pub inside : n < length slots
    inside = omega (arith, first.inside, length-map slots content)

    pub held_first : (d : S) → content (get_or slots n d) ≡ Some first.entry
    held_first d = sym (slot-map content slots n d inside) ∙ first.present

    pub parts : (d : S) → filled (map content slots) ≡ filled (content (get_or slots n d) ∷ map content (take (length slots - (n + 1)) (drop (n + 1) slots)))
    parts d = rw (held_first d, behind_slice slots (n + 1)) (first.parts ∙ ap (λ k. first.entry ∷ filled (drop k (map content slots))) next)

    pub behind : AreMarked (map content (take (length slots - (n + 1)) (drop (n + 1) slots))) (ahead - (n + 1)) (marks / 2 ^ n / 2)
    behind = rw (behind_slice slots (n + 1)) (record {
      limited = omega (arith, are.limited);
      within = omega (arith, are.within, length-drop (n + 1) (map content slots));
      reported = ap (λ k. k / 2 ^ n / 2) are.reported ∙ first.behind ∙ ap (λ k. marks_in (take (ahead - k) (drop k (map content slots)))) next;
    })

-- a slot's mark is 0 or 1
pub one_at_most : {X : Type 0} (o : Option X) → (if is_some o then 1 else 0) ≤ 1
one_at_most None = omega arith
one_at_most (Some x) = omega arith

-- a borrow of something is no borrow of nothing
pub never_none : {X : Type 0} {o : Option (Bor X)} {x : X} → o ≡ None → option_copied o ≡ Some x → ⊥
never_none none some = absurd (cc)

-- the entries in slots under a bound
module _ {S X : Type 0} (key : X → ℕ) (content : S → Option X) where
  only_held : (theta : ℕ) (o : Option X) (x : X) → only_below key theta o ≡ Some x → o ≡ Some x
  only_held theta None x is = absurd (cc)
  only_held theta (Some y) x is = (elim (ltb (key y) theta) as (λ t. (if t then Some y else None) ≡ Some x → Some y ≡ Some x) [ true ↦ λ e. e | false ↦ λ e. absurd (cc) ]) is

  under_held : (bound : Option ℕ) (s : S) (x : X) → under key bound content s ≡ Some x → content s ≡ Some x
  under_held None s x is = is
  under_held (Some theta) s x is = only_held theta (content s) x is

  -- the entry of the first marked slot is under the bound
  pub first_held : (bound : Option ℕ) (slots : List S) (ahead marks : ℕ) (are : AreMarked (map (under key bound content) slots) ahead marks) (some : 0 < marks) (d : S)
      → content (get_or slots (count_trailing_zeros 64 marks) d) ≡ Some (first (under key bound content) slots ahead marks are some).entry
  first_held bound slots ahead marks are some d = under_held bound (get_or slots (count_trailing_zeros 64 marks) d) (first (under key bound content) slots ahead marks are some).entry (held_first (under key bound content) slots ahead marks are some d)

  -- the entries under a theta are the entries below it
  pub filled-under : (theta : ℕ) (slots : List S) → filled (map (under key (Some theta) content) slots) ≡ below key (filled (map content slots)) theta
  filled-under theta [] = refl
  filled-under theta (s ∷ slots) =
      let rest = filled-under theta slots in
      let others = map (under key (Some theta) content) slots in
      elim (content s) as (λ o. filled (only_below key theta o ∷ others) ≡ below key (filled (o ∷ map content slots)) theta) [
        | None ↦ rest
        | Some x ↦
            elim (ltb (key x) theta) as (λ t. filled ((if t then Some x else None) ∷ others) ≡ cond t (x ∷ below key (filled (map content slots)) theta) (below key (filled (map content slots)) theta)) [ true ↦ ap (λ xs. x ∷ xs) rest | false ↦ rest ]
      ]
