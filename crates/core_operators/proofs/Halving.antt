-- A search by halves: what it keeps, and how often a list can be halved.
use Rattle.std.proofs.Common.{◌≡◌, ℕ, zero, suc, ◌+◌, ◌/◌, ◌<◌, ◌≤◌, ◌^◌, true, cond, eqb, List, [], ◌∷◌, length, get_or, take, drop, Some, sym, ap, ◌∙◌, arith}
use Rattle.std.specs.List.{AllByRecursion}
use Rattle.std.proofs.Math.Nat.{two-pow-succ}
use Rattle.std.proofs.lemmas.List.{length-drop, length-take, drop_more}
use Rattle.std.proofs.lemmas.Bool.Decides.{nat_tests}
use Rattle.core_laws.specs.Maps.{IsAscending, entry_at}
use Rattle.core_operators.specs.Search.{is_much_longer, AreFewLookUps}
use Rattle.core_laws.proofs.maps.Ascending.{ascending-head, ascending-tail, ascending-nil, ascending-cons, each-get_or}
use Rattle.core_laws.proofs.maps.LookUps.{entry_at_head, entry_at_rest, past}

-- a list of this length can be halved j more times, after some of the k times
pub record AreHalvings (left before now k : ℕ) : Type 0 where
  pub halvings : ℕ
  pub within : left < 2 ^ halvings
  pub count : now + halvings ≤ before + k

halved : (left less j before now k : ℕ) → less ≤ left / 2 → 0 < left → left < 2 ^ j → now + j ≤ before + k → AreHalvings less before (now + 1) k
halved left less zero before now k half some within count = absurd (omega (arith, some, within))
halved left less (suc j) before now k half some within count =
    record { halvings = j; within = omega (arith, half, within, two-pow-succ j); count = omega (arith, count) }

pub halve : (left less before now k : ℕ) → less ≤ left / 2 → 0 < left → AreHalvings left before now k → AreHalvings less before (now + 1) k
halve left less before now k half some was = halved left less was.halvings before now k half some was.within was.count

-- looking up each entry in a much longer list takes fewer comparisons than that list has entries
pub few_in_all : (before after count other_count : ℕ) → other_count < 2 ^ 64 → is_much_longer other_count count ≡ true → AreFewLookUps before after count other_count → after ≤ before + other_count
few_in_all before after count other_count fits longer few =
    let most = few 64 fits in
    let more : count < other_count / 128 = grind (arith, nat_tests) in
    omega (arith, most, more)

module _ {X : Type 0} (key : X → ℕ) where
  each-take : (P : X → Type 0) (xs : List X) (n : ℕ) → AllByRecursion P xs → AllByRecursion P (take n xs)
  each-take P [] zero all = tt
  each-take P [] (suc n) all = tt
  each-take P (x ∷ xs) zero all = tt
  each-take P (x ∷ xs) (suc n) all = (all.0, each-take P xs n all.1)

  pub ascending-take : (xs : List X) (n : ℕ) → IsAscending key xs → IsAscending key (take n xs)
  ascending-take [] zero up = ascending-nil key
  ascending-take [] (suc n) up = ascending-nil key
  ascending-take (x ∷ xs) zero up = ascending-nil key
  ascending-take (x ∷ xs) (suc n) up = ascending-cons key x (take n xs) (each-take (λ y. key x < key y) xs n (ascending-head key x xs up)) (ascending-take xs n (ascending-tail key x xs up))

  pub ascending-drop : (xs : List X) (n : ℕ) → IsAscending key xs → IsAscending key (drop n xs)
  ascending-drop [] zero up = up
  ascending-drop [] (suc n) up = up
  ascending-drop (x ∷ xs) zero up = up
  ascending-drop (x ∷ xs) (suc n) up = ascending-drop xs n (ascending-tail key x xs up)

  later_key : (x : X) (xs : List X) (m : ℕ) (d : X) → IsAscending key (x ∷ xs) → m < length xs → key x < key (get_or xs m d)
  later_key x xs m d up lt = each-get_or (λ y. key x < key y) xs m d lt (ascending-head key x xs up)

  -- the entry is behind the middle if the middle one is less
  behind_middle : (xs : List X) (m h : ℕ) (d : X) → IsAscending key xs → m < length xs → key (get_or xs m d) < h → entry_at key (drop (suc m) xs) h ≡ entry_at key xs h
  behind_middle [] m h d up lt less = absurd (omega (arith, lt))
  behind_middle (x ∷ xs) zero h d up lt less = sym (entry_at_rest key x xs h (λ same. omega (arith, same, less)))
  behind_middle (x ∷ xs) (suc m) h d up lt less =
      let later = later_key x xs m d up (omega (arith, lt)) in
      behind_middle xs m h d (ascending-tail key x xs up) (omega (arith, lt)) less ∙ sym (entry_at_rest key x xs h (λ same. omega (arith, same, less, later)))

  -- it is before the middle if the middle one is greater
  before_middle : (xs : List X) (m h : ℕ) (d : X) → IsAscending key xs → m < length xs → h < key (get_or xs m d) → entry_at key (take m xs) h ≡ entry_at key xs h
  before_middle [] m h d up lt greater = absurd (omega (arith, lt))
  before_middle (x ∷ xs) zero h d up lt greater = sym (past key x xs h up greater)
  before_middle (x ∷ xs) (suc m) h d up lt greater = ap (λ o. cond (eqb (key x) h) (Some x) o) (before_middle xs m h d (ascending-tail key x xs up) (omega (arith, lt)) greater)

  at_middle : (xs : List X) (m h : ℕ) (d : X) → IsAscending key xs → m < length xs → key (get_or xs m d) ≡ h → entry_at key xs h ≡ Some (get_or xs m d)
  at_middle [] m h d up lt same = absurd (omega (arith, lt))
  at_middle (x ∷ xs) zero h d up lt same = entry_at_head key x xs h same
  at_middle (x ∷ xs) (suc m) h d up lt same =
      let later = later_key x xs m d up (omega (arith, lt)) in
      entry_at_rest key x xs h (λ alike. omega (arith, alike, same, later)) ∙ at_middle xs m h d (ascending-tail key x xs up) (omega (arith, lt)) same

  -- a list in two halves, the second with its first entry apart
  module _ (xs before : List X) (x : X) (behind : List X) (h : ℕ) (up : IsAscending key xs) (front : before ≡ take (length xs / 2) xs) (rest : drop (length xs / 2) xs ≡ x ∷ behind) where
    in_middle : length xs / 2 < length xs
    in_middle = omega (arith, length-drop (length xs / 2) xs, ap length rest)

    parted : x ∷ behind ≡ get_or xs (length xs / 2) x ∷ drop (length xs / 2 + 1) xs
    parted = sym rest ∙ drop_more xs (length xs / 2) x in_middle

    middle_is : get_or xs (length xs / 2) x ≡ x
    middle_is = let e = parted in cc

    behind_is : drop (suc (length xs / 2)) xs ≡ behind
    behind_is = let e = parted in let more : suc (length xs / 2) ≡ length xs / 2 + 1 = omega arith in ap (λ (n : ℕ). drop n xs) more ∙ (let d : drop (length xs / 2 + 1) xs ≡ behind = cc in d)

    pub middle_found : key x ≡ h → entry_at key xs h ≡ Some x
    middle_found same = at_middle xs (length xs / 2) h x up in_middle (ap key middle_is ∙ same) ∙ ap Some middle_is

    pub behind_same : key x < h → entry_at key behind h ≡ entry_at key xs h
    behind_same less = ap (λ ys. entry_at key ys h) (sym behind_is) ∙ behind_middle xs (length xs / 2) h x up in_middle (rw middle_is less)

    pub before_same : h < key x → entry_at key before h ≡ entry_at key xs h
    before_same greater = ap (λ ys. entry_at key ys h) front ∙ before_middle xs (length xs / 2) h x up in_middle (rw middle_is greater)

    pub behind_ascends : IsAscending key behind
    behind_ascends = rw (← behind_is) (ascending-drop xs (suc (length xs / 2)) up)

    pub before_ascends : IsAscending key before
    before_ascends = rw front (ascending-take xs (length xs / 2) up)

    pub behind_short : length behind ≤ length xs / 2
    behind_short = omega (arith, length-drop (length xs / 2) xs, ap length rest)

    pub before_short : length before ≤ length xs / 2
    before_short = omega (arith, length-take (length xs / 2) xs, ap length front)

    pub some_left : 0 < length xs
    some_left = omega (arith, in_middle)
