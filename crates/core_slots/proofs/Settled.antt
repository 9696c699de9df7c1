-- Entries that are put into free slots in rounds.
use Rattle.std.proofs.Common.{◌≡◌, ℕ, ◌+◌, ◌-◌, ◌*◌, ◌^◌, ◌<◌, ◌≤◌, ◌≢◌, zero, suc, true, false, not, eqb, cond, List, [], ◌∷◌, ◌++◌, length, length-append, length-take, append_assoc, append-nil, map, set, get_or, take, drop, Option, Some, None, is_none, refl, sym, ap, subst, ◌∙◌, arith}
use Rattle.std.specs.List.{AllByRecursion}
use Rattle.std.specs.Option.{option_map_or}
use Rattle.std.proofs.lemmas.Bool.Decides.{nat_tests}
use Rattle.std.proofs.lemmas.List.{take-set-le, take_more_set, take_all, take_at, take-take, length-drop, drop_all, drop_more, get_or-take, get_or-set_other, map-append}
use Rattle.core_laws.specs.Maps.{entry_at, map_of}
use Rattle.core_laws.proofs.maps.LookUps.{entry_at-append, same_map}
use Rattle.core_laws.proofs.maps.MapsOfLists.{entry_at-map_of, ascending-map_of}
use Rattle.core_slots.specs.SlotLayout.{filled, slot, is_other, HasOthers, IsOnPath, IsLaidOut}
use Rattle.core_slots.specs.Probe.{probe}
use Rattle.core_slots.specs.Rounds.{hash_count, IsInRound}
use Rattle.core_slots.proofs.Held.{take_whole, two_parts}
use Rattle.core_slots.proofs.SlotLayouts.{few_others, filled-append, filled_new, laid_out_new, others_none, others_more, probe_low, put_found}
use Rattle.core_slots.proofs.Moves.{count-append, count-cons}
use Rattle.core_slots.proofs.HashCounts.{count_put, counted_none, counted_there, one_here}

-- ---- a slot that is looked at
module _ {X : Type 0} where
  pub is_free : (o : Option X) → is_none o ≡ true → o ≡ None
  is_free None is = refl
  is_free (Some x) is = absurd (cc)

  pub is_taken : (o : Option X) → is_none o ≡ false → (x : X) × (o ≡ Some x)
  is_taken None is = absurd (cc)
  is_taken (Some x) is = (x, refl)

-- ---- the remaining slots, in memory: the staying ones in front, and the waiting ones from a place on
module _ {S : Type 0} where
  -- a write before a place changes no element after it
  drop_take-set : (left : List S) (n count i : ℕ) (s : S) → i < n → drop n (take count (set left i s)) ≡ drop n (take count left)
  drop_take-set left n zero i s lt = refl
  drop_take-set [] n (suc count) i s lt = refl
  drop_take-set (x ∷ left) zero (suc count) i s lt = absurd (omega (arith, lt))
  drop_take-set (x ∷ left) (suc n) (suc count) zero s lt = refl
  drop_take-set (x ∷ left) (suc n) (suc count) (suc i) s lt = drop_take-set left n count i s (omega (arith, lt))

module _ {S X : Type 0} (content : S → Option X) where
  -- the entries in the first places, and those from a place on
  pub in_front : ℕ → List S → List X
  in_front n left = filled (map content (take n left))

  pub in_wait : (at count : ℕ) → List S → List X
  in_wait at count left = filled (map content (drop at (take count left)))

  pub waits_next : (left : List S) (at count : ℕ) (d : S) → at < count → count ≤ length left → in_wait at count left ≡ filled (content (get_or left at d) ∷ []) ++ in_wait (at + 1) count left
  unfolding in_wait
  waits_next left at count d lt within =
      let long : at < length (take count left) = omega (arith, length-take count left, lt, within) in
      ap (λ xs. filled (map content xs)) (drop_more (take count left) at d long)
      ∙ ap (λ (s : S). filled (content s ∷ map content (drop (at + 1) (take count left)))) (get_or-take count left at d lt)
      ∙ filled-append (content (get_or left at d) ∷ []) (map content (drop (at + 1) (take count left)))

  -- a place that was reached may be written, and so may the one to which a staying entry is moved
  pub front_before : (left : List S) (kept at : ℕ) (s : S) → kept ≤ at → in_front kept (set left at s) ≡ in_front kept left
  unfolding in_front
  front_before left kept at s le = ap (λ xs. filled (map content xs)) (take-set-le kept left at s le)

  pub wait_behind : (left : List S) (at count i : ℕ) (s : S) → i ≤ at → in_wait (at + 1) count (set left i s) ≡ in_wait (at + 1) count left
  unfolding in_wait
  wait_behind left at count i s le = ap (λ xs. filled (map content xs)) (drop_take-set left (at + 1) count i s (omega (arith, le)))

  pub front_more : (left : List S) (kept : ℕ) (s : S) → kept < length left → in_front (kept + 1) (set left kept s) ≡ in_front kept left ++ filled (content s ∷ [])
  unfolding in_front
  front_more left kept s lt =
      ap (λ xs. filled (map content xs)) (take_more_set left kept s lt) ∙ ap filled (map-append content (take kept left) (s ∷ [])) ∙ filled-append (map content (take kept left)) (content s ∷ [])

  pub front_none : (left : List S) → in_front 0 left ≡ []
  unfolding in_front
  front_none [] = refl
  front_none (s ∷ left) = refl

  pub front_whole : (left : List S) (n : ℕ) → length left ≤ n → in_front n left ≡ filled (map content left)
  unfolding in_front
  front_whole left n le = ap (λ xs. filled (map content xs)) (take_whole content left n le)

  pub front_is : (left : List S) (count : ℕ) → in_wait 0 count left ≡ in_front count left
  unfolding in_front in_wait
  front_is left count = ap (λ xs. filled (map content xs)) (drop_none (take count left))
    where
      drop_none : (xs : List S) → drop 0 xs ≡ xs
      drop_none [] = refl
      drop_none (x ∷ xs) = refl

  pub none_behind : (left : List S) (at count : ℕ) → count ≤ at → in_wait at count left ≡ []
  unfolding in_wait
  none_behind left at count le = ap (λ xs. filled (map content xs)) (drop_all at (take count left) (omega (arith, length-take count left, le)))

-- ---- numbers
turned : (p l r b : ℕ) → 2 * l + b * (b + 1) ≤ p * (p + 1) → r ≤ p → 2 * (l + r + 1) + b * (b + 1) ≤ (p + 1) * ((p + 1) + 1)
turned p l r b limited some = omega (arith, limited, some)

module _ {X : Type 0} (key : X → ℕ) where
  -- if each hash occurs once, moving an entry behind others finds no other entry for any hash
  passing : (xs ys : List X) (x : X) (q : ℕ) → hash_count key q (x ∷ xs) ≤ 1 → entry_at key (xs ++ (x ∷ ys)) q ≡ entry_at key ((x ∷ xs) ++ ys) q
  passing xs ys x q once =
      let parts = count-cons (λ y. eqb (key y) q) x xs in
      (elim (eqb (key x) q) as (λ b. eqb (key x) q ≡ b → entry_at key (xs ++ (x ∷ ys)) q ≡ cond b (Some x) (entry_at key (xs ++ ys) q)) [
        | true ↦ λ e.
            let none = counted_none key xs q (omega (arith, parts, once, one_here key x q e)) in
            entry_at-append key xs (x ∷ ys) q ∙ rw (none, e) refl
        | false ↦ λ e. entry_at-append key xs (x ∷ ys) q ∙ ap (λ o. option_map_or Some (entry_at key xs q) o) (rw e refl) ∙ sym (entry_at-append key xs ys q)
      ]) refl

module _ {X : Type 0} where
  all-append : (P : X → Type 0) (xs : List X) (x : X) → AllByRecursion P xs → P x → AllByRecursion P (xs ++ x ∷ [])
  all-append P [] x all one = (one, tt)
  all-append P (y ∷ xs) x all one = (all.0, all-append P xs x all.1 one)

module _ {X : Type 0} (key : X → ℕ) (lg : ℕ) where
  -- other hashes on a path stay if a free slot is taken
  others_put : (slots : List (Option X)) (p h n : ℕ) (x : X) → slot slots p ≡ None → HasOthers key lg slots h n → HasOthers key lg (set slots p (Some x)) h n
  unfolding HasOthers
  others_put slots p h n x free others i lt =
      let there = others i lt in
      let apart : probe h lg i ≢ p = λ same. absurd (let e : slot slots (probe h lg i) ≡ None = ap (λ (m : ℕ). slot slots m) same ∙ free in let f = ap (is_other key h) e in cc) in
      ap (is_other key h) (get_or-set_other slots p (probe h lg i) (Some x) None apart) ∙ there

  all_others_put : (slots : List (Option X)) (p n : ℕ) (x : X) (xs : List X) → slot slots p ≡ None → AllByRecursion (λ y. HasOthers key lg slots (key y) n) xs → AllByRecursion (λ y. HasOthers key lg (set slots p (Some x)) (key y) n) xs
  all_others_put slots p n x [] free all = tt
  all_others_put slots p n x (y ∷ xs) free all = (others_put slots p (key y) n x free all.0, all_others_put slots p n x xs free all.1)

  pub all_others_none : (slots : List (Option X)) (xs : List X) → AllByRecursion (λ y. HasOthers key lg slots (key y) 0) xs
  all_others_none slots [] = tt
  all_others_none slots (y ∷ xs) = (others_none key lg slots (key y), all_others_none slots xs)

  -- all wait at first
  pub round_starts : (wait : List X) (slots : List (Option X)) → IsLaidOut key lg slots → ((q : ℕ) → hash_count key q wait + hash_count key q (filled slots) ≤ 1) → IsInRound key lg (wait ++ filled slots) [] wait slots (length (filled slots)) 0 (length (filled slots)) 0
  round_starts wait slots laid_out once = record {
    laid_out = laid_out;
    found = λ q. refl;
    all = λ q. omega (arith, count-append (λ x. eqb (key x) q) wait (filled slots));
    once = λ q. omega (arith, count-append (λ x. eqb (key x) q) wait (filled slots), once q);
    counted = omega (arith, length-append wait (filled slots));
    all_put = refl;
    looked_few = omega arith;
    stayed = tt;
    waits = all_others_none slots wait;
  }

  module _ (whole stay : List X) (slots : List (Option X)) (begun round put looked : ℕ) where
    -- the next round
    pub round_next : IsInRound key lg whole stay [] slots begun round put looked → IsInRound key lg whole [] stay slots begun (round + 1) put looked
    round_next is = record {
      laid_out = is.laid_out;
      found = is.found;
      all = λ q. omega (arith, is.all q);
      once = is.once;
      counted = omega (arith, is.counted);
      all_put = is.all_put;
      looked_few = is.looked_few;
      stayed = tt;
      waits = is.stayed;
    }

    -- no path is longer than the number of slots, while one stays
    pub round_short : (wait : List X) → IsInRound key lg whole stay wait slots begun round put looked → length whole ≤ 2 ^ lg → round < 2 ^ lg → 0 < length stay → round + 1 < 2 ^ lg
    round_short wait is room low some =
        let first : round + 1 ≤ length (filled slots) = first_few stay some is.stayed in
        omega (arith, first, is.all_put, is.counted, some, room)
      where
        first_few : (xs : List X) → 0 < length xs → AllByRecursion (λ x. HasOthers key lg slots (key x) (round + 1)) xs → round + 1 ≤ length (filled slots)
        first_few [] none all = absurd (omega (arith, none))
        first_few (x ∷ xs) one all = few_others key lg (key x) (round + 1) slots (omega (arith, low)) all.0

    module _ (x : X) (wait : List X) (is : IsInRound key lg whole stay (x ∷ wait) slots begun round put looked) (p : ℕ) (on_way : p ≡ probe (key x) lg round) where
      -- an entry takes the free slot that it looks at
      pub round_puts : round < 2 ^ lg → slot slots p ≡ None → IsInRound key lg whole stay wait (set slots p (Some x)) begun round (put + 1) (looked + round + 1)
      round_puts low free =
          let inside : p < length slots = omega (arith, probe_low (key x) lg round, on_way, is.laid_out.size) in
          let mine = is.waits.0 in
          let on : IsOnPath key lg slots (key x) p = record { step = round; in_range = low; present = sym on_way; others = mine } in
          let found = put_found key lg slots p x is.laid_out inside on (ap (is_other key (key x)) free) in
          let passed = few_others key lg (key x) round slots (omega (arith, low)) mine in
          record {
            laid_out = laid_out_new key lg slots p x is.laid_out inside free on;
            found = λ q.
                entry_at-append key stay (wait ++ filled (set slots p (Some x))) q
                ∙ ap (λ o. option_map_or Some (entry_at key stay q) o) (
                entry_at-append key wait (filled (set slots p (Some x))) q
                ∙ ap (λ o. option_map_or Some (entry_at key wait q) o) (found q)
                ∙ sym (entry_at-append key wait (x ∷ filled slots) q)
                ∙ passing key wait (filled slots) x q (omega (arith, is.all q, is.once q))
                )
                ∙ sym (entry_at-append key stay ((x ∷ wait) ++ filled slots) q)
                ∙ is.found q;
            all = λ q. omega (arith, is.all q, count-cons (λ y. eqb (key y) q) x wait, count_put key (λ y. eqb (key y) q) slots p x inside free);
            once = is.once;
            counted = omega (arith, is.counted);
            all_put = omega (arith, filled_new slots p x inside free, is.all_put);
            looked_few = turned put looked round begun is.looked_few (omega (arith, passed, is.all_put));
            stayed = all_others_put slots p (round + 1) x stay free is.stayed;
            waits = all_others_put slots p round x wait free is.waits.1;
          }

      -- an entry that looks at another stays
      pub round_keeps : (y : X) → slot slots p ≡ Some y → IsInRound key lg whole (stay ++ x ∷ []) wait slots begun round put looked
      round_keeps y taken =
          let same : eqb (key x) (key x) ≡ true = grind (arith, nat_tests) in
          let parts = count-cons (λ z. eqb (key z) (key x)) x wait in
          let differs : key y ≢ key x = λ alike. absurd (omega (arith, parts, one_here key x (key x) same, counted_there key slots p (key x) y taken alike, is.all (key x), is.once (key x))) in
          let another : not (eqb (key y) (key x)) ≡ true = grind (arith, nat_tests) in
          let looked_at : is_other key (key x) (slot slots (probe (key x) lg round)) ≡ true = ap (λ (n : ℕ). is_other key (key x) (slot slots n)) (sym on_way) ∙ ap (is_other key (key x)) taken ∙ another in
          record {
            laid_out = is.laid_out;
            found = λ q. ap (λ xs. entry_at key xs q) (append_assoc stay (x ∷ []) (wait ++ filled slots)) ∙ is.found q;
            all = λ q. omega (arith, is.all q, count-cons (λ z. eqb (key z) q) x wait, count-append (λ z. eqb (key z) q) stay (x ∷ []));
            once = is.once;
            counted = omega (arith, is.counted, length-append stay (x ∷ []));
            all_put = is.all_put;
            looked_few = is.looked_few;
            stayed = all-append (λ z. HasOthers key lg slots (key z) (round + 1)) stay x is.stayed (others_more key lg slots (key x) round is.waits.0 looked_at);
            waits = is.waits.1;
          }

  -- all wait before the first part
  pub all_wait : (wait : List X) (slots : List (Option X)) → IsLaidOut key lg slots → filled slots ≡ [] → ((q : ℕ) → hash_count key q wait ≤ 1) → IsInRound key lg wait [] wait slots 0 0 0 0
  all_wait wait slots laid_out free once = record {
    laid_out = laid_out;
    found = λ q. rw (free, append-nil wait) refl;
    all = λ q. rw free (omega arith);
    once = once;
    counted = omega arith;
    all_put = ap length free;
    looked_few = omega arith;
    stayed = tt;
    waits = all_others_none slots wait;
  }

  -- some of the entries that wait were settled by themselves
  pub part_settled : (whole rest part : List X) (slots after : List (Option X)) (put : ℕ) → IsInRound key lg whole [] (rest ++ part) slots 0 0 put 0 → IsLaidOut key lg after
      → ((q : ℕ) → entry_at key (filled after) q ≡ entry_at key (part ++ filled slots) q) → ((q : ℕ) → hash_count key q (filled after) ≡ hash_count key q part + hash_count key q (filled slots)) → length (filled after) ≡ length part + length (filled slots)
      → IsInRound key lg whole [] rest after 0 0 (length (filled after)) 0
  part_settled whole rest part slots after put is laid_out found all counted = record {
    laid_out = laid_out;
    found = λ q.
        entry_at-append key rest (filled after) q
        ∙ ap (λ o. option_map_or Some (entry_at key rest q) o) (found q)
        ∙ sym (entry_at-append key rest (part ++ filled slots) q)
        ∙ ap (λ xs. entry_at key xs q) (sym (append_assoc rest part (filled slots)))
        ∙ is.found q;
    all = λ q. omega (arith, is.all q, all q, count-append (λ x. eqb (key x) q) rest part);
    once = is.once;
    counted = omega (arith, is.counted, is.all_put, counted, length-append rest part);
    all_put = refl;
    looked_few = omega arith;
    stayed = tt;
    waits = all_others_none after rest;
  }

  -- all are in slots once none waits
  pub settled_map : (whole : List X) (slots : List (Option X)) (begun round put looked : ℕ) → IsInRound key lg whole [] [] slots begun round put looked → map_of key (filled slots) ≡ map_of key whole
  settled_map whole slots begun round put looked is =
      same_map key (map_of key (filled slots)) (map_of key whole) (ascending-map_of key (filled slots)) (ascending-map_of key whole)
      (λ q. entry_at-map_of key (filled slots) q ∙ is.found q ∙ sym (entry_at-map_of key whole q))

-- ---- looks
-- the looks up to one round, and up to the next
pub looks_next : (a r n k l : ℕ) → l ≤ a + r * (k + n) + k → n ≡ 0 → l ≤ a + (r + 1) * (0 + k) + 0
looks_next a r n k l most none = let product : r * (k + n) ≡ r * (k + 0) = ap (λ (t : ℕ). r * (k + t)) none in omega (arith, most, product)

pub looks_put : (a r k n m l : ℕ) → n ≡ 1 + m → l ≤ a + r * (k + n) + k → l + 1 ≤ (a + r + 1) + r * (k + m) + k
looks_put a r k n m l one most = let product : r * (k + n) ≡ r * (k + (1 + m)) = ap (λ (t : ℕ). r * (k + t)) one in omega (arith, product, most)

pub looks_kept : (a r k n m l : ℕ) → n ≡ 1 + m → l ≤ a + r * (k + n) + k → l + 1 ≤ a + r * ((k + 1) + m) + (k + 1)
looks_kept a r k n m l one most = let product : r * (k + n) ≡ r * (k + (1 + m)) = ap (λ (t : ℕ). r * (k + t)) one in omega (arith, product, most)

pub looks_end : (l l0 looked r n put after begun : ℕ) → l ≤ l0 + looked + r * (0 + n) + 0 → n ≡ 0 → 2 * looked + begun * (begun + 1) ≤ put * (put + 1) → after ≡ put → 2 * l + begun * (begun + 1) ≤ 2 * l0 + after * (after + 1)
looks_end l l0 looked r n put after begun most none limited is =
    let product : r * (0 + n) ≡ r * (0 + 0) = ap (λ (t : ℕ). r * (0 + t)) none in
    rw is (omega (arith, product, most, limited))

pub looks_part : (l m l0 after before put : ℕ) → before ≡ put → 2 * l + before * (before + 1) ≤ 2 * m + after * (after + 1) → 2 * m ≤ 2 * l0 + put * (put + 1) → 2 * l ≤ 2 * l0 + after * (after + 1)
looks_part l m l0 after before put is more most = let same : before * (before + 1) ≡ put * (put + 1) = ap (λ (n : ℕ). n * (n + 1)) is in omega (arith, same, more, most)

-- ---- parts of the waiting slots
module _ {S : Type 0} where
  -- the rest of a list, as a part of it
  pub rest_part : (xs : List S) (n : ℕ) → take (length xs - n) (drop n xs) ≡ drop n xs
  rest_part xs n = take_all (length xs - n) (drop n xs) (omega (arith, length-drop n xs))

  -- the slots in front of a part that was written are unchanged
  front_kept : (xs more end : List S) (from n : ℕ) → from ≤ length xs → from ≤ n → take from (take n ((take from xs ++ more) ++ end)) ≡ take from xs
  front_kept xs more end from n within le =
      let long : length (take from xs) ≡ from = omega (arith, length-take from xs, within) in
      take-take from n ((take from xs ++ more) ++ end) le ∙ ap (take from) (append_assoc (take from xs) more end) ∙ take_at (take from xs) (more ++ end) from long

module _ {S X : Type 0} (content : S → Option X) (key : X → ℕ) (lg : ℕ) where
  -- a part at the end was settled and cut off, and the slots in front of it still wait
  pub part_done : (whole : List X) (items now more end left : List S) (from n : ℕ) (slots after : List (Option X)) (put : ℕ) → now ≡ items → left ≡ take from (take n ((take from now ++ more) ++ end)) → from ≤ length now → from ≤ n
      → IsInRound key lg whole [] (filled (map content items)) slots 0 0 put 0 → IsLaidOut key lg after
      → ((q : ℕ) → entry_at key (filled after) q ≡ entry_at key (filled (map content (take (length now - from) (drop from now))) ++ filled slots) q)
      → ((q : ℕ) → hash_count key q (filled after) ≡ hash_count key q (filled (map content (take (length now - from) (drop from now)))) + hash_count key q (filled slots))
      → length (filled after) ≡ length (filled (map content (take (length now - from) (drop from now)))) + length (filled slots) → IsInRound key lg whole [] (filled (map content left)) after 0 0 (length (filled after)) 0
  part_done whole items now more end left from n slots after put same cut within le is laid_out found all count =
      let part : List X = filled (map content (drop from now)) in
      let front : List X = filled (map content (take from now)) in
      let waiting : filled (map content items) ≡ front ++ part = ap (λ xs. filled (map content xs)) (sym same) ∙ two_parts content now from in
      let left_is : filled (map content left) ≡ front = ap (λ xs. filled (map content xs)) (cut ∙ front_kept now more end from n within le) in
      let found' : (q : ℕ) → entry_at key (filled after) q ≡ entry_at key (part ++ filled slots) q = rw (rest_part now from) at found in
      let all' : (q : ℕ) → hash_count key q (filled after) ≡ hash_count key q part + hash_count key q (filled slots) = rw (rest_part now from) at all in
      let count' : length (filled after) ≡ length part + length (filled slots) = rw (rest_part now from) at count in
      rw left_is (part_settled key lg whole front part slots after put (subst (λ xs. IsInRound key lg whole [] xs slots 0 0 put 0) waiting is) laid_out found' all' count')
