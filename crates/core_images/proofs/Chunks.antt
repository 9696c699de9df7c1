-- Entries in lists of bytes, N bytes each, and in blocks.
use Rattle.std.proofs.Common.{◌≡◌, ℕ, Bool, ◌&&◌, zero, suc, ◌+◌, ◌*◌, ◌≤◌, ◌<◌, ◌^◌, ◌%◌, ◌-◌, get_or, List, [], ◌∷◌, ◌++◌, length, map, take, drop, refl, sym, ap, ◌∙◌, arith, append_assoc, append-nil, take-append-drop}
use Rattle.std.proofs.Math.Bool.{and_assoc, and-true}
use Rattle.std.proofs.Math.Seq.{drop-cons}
use Rattle.std.proofs.lemmas.Bool.{lt-ltb}
use Rattle.std.proofs.lemmas.List.{drop-drop, length-take-le, length-drop, length-map, map-append, drop_all}
use Rattle.std.proofs.lemmas.List.Concat.{flat_map-append}
use Rattle.std.proofs.lemmas.List.Folds.{flat_map-map}
use Rattle.std.specs.List.{AllByRecursion, flat_map}
use Rattle.std.specs.Simd.{first_chunks}
use Rattle.std.specs.Int.Bits.{bit_and, bit_or}
use Rattle.std.proofs.lemmas.Nat.{and_le_l, and_le_r, le_or_l, le_or_r}
use Rattle.core_images.specs.Check.{ascends_from}
use Rattle.core_laws.specs.declared.TheConstants.{MAX_THETA}
use Rattle.core_images.specs.Entry.{SpellsEach, Holds}

module _ {X : Type 0} where
  drop_chunks : (n k : ℕ) (xs : List X) → drop (suc k * n) xs ≡ drop (k * n) (drop n xs)
  drop_chunks n k xs =
      let sum : suc k * n ≡ n + k * n = omega arith in
      ap (λ i. drop i xs) sum ∙ sym (drop-drop (k * n) n xs)

  drop_none : (n : ℕ) (xs : List X) → drop (zero * n) xs ≡ xs
  drop_none n xs = let none : zero * n ≡ 0 = omega arith in ap (λ i. drop i xs) none

  -- fewer chunks are the first of more
  pub fewer_chunks : (n k m : ℕ) (xs : List X) → k ≤ m → take k (first_chunks n m xs) ≡ first_chunks n k xs
  fewer_chunks n zero m xs le = refl
  fewer_chunks n (suc k) zero xs le = absurd (omega arith)
  fewer_chunks n (suc k) (suc m) xs le = ap (λ l. take n xs ∷ l) (fewer_chunks n k m (drop n xs) (omega arith))

  -- the texts of a block are appended
  pub one_block : (f : X → List ℕ) (n : ℕ) (bytes new : List ℕ) (texts : List (List ℕ)) (rest : List X) → new ≡ bytes ++ flat_map (λ w. w) texts → texts ≡ map f (take n rest)
      → new ++ flat_map f (drop n rest) ≡ bytes ++ flat_map f rest
  one_block f n bytes new texts rest e spelled =
      let block = take n rest in
      let others = flat_map f (drop n rest) in
      ap (λ l. l ++ others) (e ∙ ap (λ t. bytes ++ flat_map (λ w. w) t) spelled ∙ ap (λ t. bytes ++ t) (flat_map-map (λ w. w) f block))
      ∙ append_assoc bytes (flat_map f block) others
      ∙ ap (λ l. bytes ++ l) (sym (flat_map-append f block (drop n rest)) ∙ ap (flat_map f) (take-append-drop n rest))

  -- what a block maps to is appended
  pub block_mapped : {Y : Type 0} (f : X → Y) (n : ℕ) (ys new : List Y) (rest : List X) → new ≡ ys ++ map f (take n rest) → new ++ map f (drop n rest) ≡ ys ++ map f rest
  block_mapped f n ys new rest e =
      let block = map f (take n rest) in
      let others = map f (drop n rest) in
      ap (λ l. l ++ others) e ∙ append_assoc ys block others ∙ ap (λ l. ys ++ l) (sym (map-append f (take n rest) (drop n rest)) ∙ ap (map f) (take-append-drop n rest))

  -- a block ascends, whatever is behind it, and so do all before it
  pub block_compared : (key : X → ℕ) (n : ℕ) (ascends above : Bool) (last end : ℕ) (rest : List X)
      → ((others : List ℕ) → (above && ascends_from end others) ≡ ascends_from last (map key (take n rest) ++ others))
      → ((ascends && above) && ascends_from end (map key (drop n rest))) ≡ (ascends && ascends_from last (map key rest))
  block_compared key n ascends above last end rest block =
      let others = map key (drop n rest) in
      let whole = sym (map-append key (take n rest) (drop n rest)) ∙ ap (map key) (take-append-drop n rest) in
      and_assoc ascends above (ascends_from end others) ∙ ap (λ b. ascends && b) (block others ∙ ap (ascends_from last) whole)

  -- the next text is above the last one
  pub next_above : (key : X → ℕ) (texts : List X) (i : ℕ) (text : X) (last : ℕ) (whole : List ℕ → Bool) → i < length texts → text ≡ get_or texts i text → last < key text
      → ((others : List ℕ) → ascends_from last (map key (drop i texts) ++ others) ≡ whole others)
      → (others : List ℕ) → ascends_from (key text) (map key (drop (i + 1) texts) ++ others) ≡ whole others
  next_above key texts i text last whole within is above all others =
      let next : suc i ≡ i + 1 = omega arith in
      let shape = drop-cons texts i text within ∙ ap (λ x. x ∷ drop (suc i) texts) (sym is) ∙ ap (λ n. text ∷ drop n texts) next in
      let behind = ascends_from (key text) (map key (drop (i + 1) texts) ++ others) in
      let first : ascends_from last (map key (text ∷ drop (i + 1) texts) ++ others) ≡ behind = ap (λ b. b && behind) (lt-ltb last (key text) above) in
      sym first ∙ ap (λ l. ascends_from last (map key l ++ others)) (sym shape) ∙ all others

  -- no text is left
  pub none_above : (key : X → ℕ) (texts : List X) (i last : ℕ) (whole : List ℕ → Bool) → length texts ≤ i
      → ((others : List ℕ) → ascends_from last (map key (drop i texts) ++ others) ≡ whole others)
      → (others : List ℕ) → ascends_from last others ≡ whole others
  none_above key texts i last whole past all others = ap (λ l. ascends_from last (map key l ++ others)) (sym (drop_all i texts past)) ∙ all others

  -- all ascend if no text is left
  pub all_compared : (key : X → ℕ) (ascends whole : Bool) (last : ℕ) (rest : List X) → length rest ≡ 0 → (ascends && ascends_from last (map key rest)) ≡ whole → ascends ≡ whole
  all_compared key ascends whole last [] e all = sym (and-true ascends) ∙ all
  all_compared key ascends whole last (x ∷ rest) e all = absurd (omega arith)

  -- all are mapped if no text is left
  pub all_mapped : {Y : Type 0} (f : X → Y) (ys whole : List Y) (rest : List X) → length rest ≡ 0 → ys ++ map f rest ≡ whole → ys ≡ whole
  all_mapped f ys whole [] e all = sym (append-nil ys) ∙ all
  all_mapped f ys whole (x ∷ rest) e all = absurd (omega arith)

  -- the texts of all are appended
  pub none_left : (f : X → List ℕ) (bytes whole : List ℕ) (rest : List X) → length rest ≡ 0 → bytes ++ flat_map f rest ≡ whole → bytes ≡ whole
  none_left f bytes whole [] e all = sym (append-nil bytes) ∙ all
  none_left f bytes whole (x ∷ rest) e all = absurd (omega arith)

  pub values_left : (P : X → Type 0) (rest : List X) → length rest ≡ 0 → AllByRecursion P rest
  values_left P [] e = tt
  values_left P (x ∷ rest) e = absurd (omega arith)

  -- all are values if those of a block and those after it are
  pub all_values : (P : X → Type 0) (n : ℕ) (xs : List X) → AllByRecursion P (take n xs) → AllByRecursion P (drop n xs) → AllByRecursion P xs
  all_values P zero xs front behind = behind
  all_values P (suc n) [] front behind = tt
  all_values P (suc n) (x ∷ xs) front behind = (front.0, all_values P n xs front.1 behind)

  length-chunks : (n k : ℕ) (xs : List X) → length (first_chunks n k xs) ≡ k
  length-chunks n zero xs = refl
  length-chunks n (suc k) xs = ap (λ (j : ℕ). suc j) (length-chunks n k (drop n xs))

-- of numbers below 2^63 the difference is 2^63 or more only if it is negative
pub differs_up : (differences last hash hashes : ℕ) → last ≤ hashes → last < 2 ^ 64 → hash < 2 ^ 64
    → MAX_THETA < bit_and differences ((last + (2 ^ 64 - hash)) % 2 ^ 64) → bit_or hashes hash ≤ MAX_THETA → (last < hash) × (MAX_THETA < differences) × (hashes ≤ MAX_THETA)
differs_up differences last hash hashes among small limited high low =
    let difference = (last + (2 ^ 64 - hash)) % 2 ^ 64 in
    let first = and_le_l differences difference in
    let second = and_le_r differences difference in
    let before = le_or_l hashes hash in
    let after = le_or_r hashes hash in
    (omega (arith, second, before, after, high, low, among, small, limited), omega (arith, first, high), omega (arith, before, low))

module _ (n : ℕ) where
  -- the first bytes, n by n, and the bytes after them
  there_is : (k : ℕ) (bytes : List ℕ) → bytes ≡ flat_map (λ w. w) (first_chunks n k bytes) ++ drop (k * n) bytes
  there_is zero bytes = sym (drop_none n bytes)
  there_is (suc k) bytes =
      let front = take n bytes in
      let words = flat_map (λ w. w) (first_chunks n k (drop n bytes)) in
      sym (take-append-drop n bytes)
      ∙ ap (λ l. front ++ l) (there_is k (drop n bytes))
      ∙ sym (append_assoc front words (drop (k * n) (drop n bytes)))
      ∙ ap (λ l. (front ++ words) ++ l) (sym (drop_chunks n k bytes))

  module _ {X : Type 0} (Spells : List ℕ → X → Type 0) where
    module _ (entry_of : List ℕ → X) (any : (a : List ℕ) → length a ≡ n → Spells a (entry_of a)) where
      spelled : (k : ℕ) (bytes : List ℕ) → k * n ≤ length bytes → SpellsEach Spells (flat_map (λ w. w) (first_chunks n k bytes)) (map entry_of (first_chunks n k bytes))
      spelled zero bytes le = refl
      spelled (suc k) bytes le =
          let front = take n bytes in
          let sum : suc k * n ≡ n + k * n = omega arith in
          let fewer = length-drop n bytes in
          let exact : length front ≡ n = length-take-le n bytes (omega arith) in
          (front, flat_map (λ w. w) (first_chunks n k (drop n bytes)), refl, any front exact, spelled k (drop n bytes) (omega arith))

      -- the entries of the first chunks are those that the bytes spell
      pub chunks_held : (count m : ℕ) (bytes : List ℕ) → count ≤ m → count * n ≤ length bytes → Holds Spells bytes count (map entry_of (take count (first_chunks n m bytes)))
      chunks_held count m bytes limited room =
          let same = fewer_chunks n count m bytes limited in
          rw same (record {
            text = flat_map (λ w. w) (first_chunks n count bytes);
            after = drop (count * n) bytes;
            there = there_is count bytes;
            spelled = spelled count bytes room;
            counted = length-map (first_chunks n count bytes) entry_of ∙ length-chunks n count bytes;
          })
