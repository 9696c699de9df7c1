-- Searching for a byte in lanes.
use Rattle.std.proofs.Common.{◌≡◌, ℕ, zero, suc, ◌+◌, ◌-◌, ◌*◌, ◌/◌, ◌^◌, ◌<◌, ◌≤◌, eqb, cond, Bool, true, false, List, [], ◌++◌, ◌∷◌, length, map, get_or, take, drop, get_or-take, length-take-le, inl, inr, refl, ap, sym, ◌∙◌, arith}
use Rattle.std.specs.Int.{w64, trailing_zeros}
use Rattle.std.specs.Prelude.{not, ◌==◌}
use Rattle.std.specs.List.{prefix_len}
use Rattle.std.specs.Simd.Lanes.{chunk, mask_l}
use Rattle.keys_lines.specs.Lines.{Lacks}
use Rattle.keys_lines.specs.Keys.{line_hash}
use Rattle.keys_lines.specs.Hashed.{BeginsWithLine}
use Rattle.keys_lines.specs.declared.key.Hashing.{Hashing}
use Rattle.std.proofs.lemmas.Bool.{cases_lt, eqb-false, eqb-true, ne_eqb}
use Rattle.std.proofs.lemmas.Grind.{common_steps}
use Rattle.std.proofs.lemmas.List.{drop-map, drop-take, take_rest, length-take}
use Rattle.std.proofs.lemmas.Nat.{shr-shr, shr_le}
use Rattle.std.proofs.lemmas.Simd.{first_set_mask_l, run_in_chunk_fails, run_in_chunk_stops, trailing_mask_l}

module _ (byte : ℕ) (text : List ℕ) (from lanes count : ℕ) (room : from + lanes ≤ length text) (counted : count ≡ prefix_len (λ x. not (x == byte)) (chunk from lanes text)) where
  pub none_more : ((k : ℕ) → k < from → get_or text k 0 ≡ byte → ⊥) → (k : ℕ) → k < from + count → get_or text k 0 ≡ byte → ⊥
  none_more none k lt e = elim (cases_lt k from) [ inl l ↦ none k l e | inr ge ↦ eqb-false (get_or text k 0) byte (run_in_chunk_fails (λ (x : ℕ). eqb x byte) text from lanes count 0 room counted k ge lt) e ]

  pub present : count < lanes → get_or text (from + count) 0 ≡ byte
  present limited = eqb-true (get_or text (from + count) 0) byte (run_in_chunk_stops (λ (x : ℕ). eqb x byte) text from lanes count 0 room counted limited)

-- the first byte of a kind in lanes, by their mask
module _ (byte marks lanes : ℕ) (xs : List ℕ) (long : length xs ≡ lanes) (few : lanes ≤ 64) (marked : marks ≡ mask_l (map (λ x. x == byte) xs)) where
  first_set : cond (eqb marks 0) lanes (trailing_zeros w64 marks) ≡ prefix_len (λ x. not (x == byte)) xs
  first_set = ap (λ m. cond (eqb m 0) lanes (trailing_zeros w64 m)) marked ∙ first_set_mask_l (λ (x : ℕ). eqb x byte) xs lanes long few

  pub none_marked : marks ≡ 0 → lanes ≡ prefix_len (λ x. not (x == byte)) xs
  none_marked none = ap (λ m. cond (eqb m 0) lanes (trailing_zeros w64 m)) (sym none) ∙ first_set

  pub first_marked_is : (marks ≡ 0 → ⊥) → trailing_zeros w64 marks ≡ prefix_len (λ x. not (x == byte)) xs
  first_marked_is some = ap (λ b. cond b lanes (trailing_zeros w64 marks)) (sym (ne_eqb marks 0 some)) ∙ first_set

pub parts_at : (byte : ℕ) (text : List ℕ) (n : ℕ) → n < length text → get_or text n 0 ≡ byte → text ≡ take n text ++ byte ∷ take (length text - (n + 1)) (drop (n + 1) text)
parts_at byte text n lt is = grind (arith, common_steps)

pub lacks_front : (byte : ℕ) (text : List ℕ) (n : ℕ) → n ≤ length text → ((k : ℕ) → k < n → get_or text k 0 ≡ byte → ⊥) → Lacks byte (take n text)
lacks_front byte text n le none i lt e =
    let below : i < n = omega (arith, length-take-le n text le) in none i below (sym (get_or-take n text i 0 below) ∙ e)

-- the first byte of a kind in the lanes at the front ends the first line
pub line_found : (hashing : Hashing) (text : List ℕ) (lanes count hash : ℕ) → lanes ≤ length text → count ≡ prefix_len (λ x. not (x == 10)) (chunk 0 lanes text) → count < lanes → hash ≡ line_hash hashing (take count text) →
    BeginsWithLine hashing text hash (take (length text - (count + 1)) (drop (count + 1) text))
line_found hashing text lanes count hash enough counted few hashed =
    let room : 0 + lanes ≤ length text = omega (arith, enough) in
    let at : 0 + count ≡ count = omega arith in
    let nothing : (k : ℕ) → k < 0 → get_or text k 0 ≡ 10 → ⊥ = λ k lt e. omega (arith, lt) in (
      take count text,
      lacks_front 10 text count (omega (arith, enough, few)) (λ k lt e. none_more 10 text 0 lanes count room counted nothing k (omega (arith, lt)) e),
      parts_at 10 text count (omega (arith, enough, few)) (ap (λ k. get_or text k 0) (sym at) ∙ present 10 text 0 lanes count room counted few),
      hashed,
    )

-- the mask of the lanes from the k-th on
pub mask-drop : (k : ℕ) (bs : List Bool) → mask_l bs / 2 ^ k ≡ mask_l (drop k bs)
mask-drop zero bs = omega arith
mask-drop (suc k) [] = let e : 0 / 2 ^ suc k ≤ 0 = shr_le 0 (suc k) in omega (arith, e)
mask-drop (suc k) (b ∷ bs) =
    let all = cond b 1 0 + 2 * mask_l bs in
    let e : 1 + k ≡ suc k = omega arith in
    let half : all / 2 ^ 1 ≡ mask_l bs = elim b as (λ t. (cond t 1 0 + 2 * mask_l bs) / 2 ^ 1 ≡ mask_l bs) [ true ↦ omega arith | false ↦ omega arith ] in
    ap (λ j. all / 2 ^ j) (sym e) ∙ sym (shr-shr all 1 k) ∙ ap (λ m. m / 2 ^ k) half ∙ mask-drop k bs

pub no_mark : trailing_zeros w64 0 ≡ 64
unfolding lib.Count.count_trailing_zeros
no_mark = refl

pub first_marked : (marks byte : ℕ) (xs : List ℕ) → length xs ≤ 64 → marks ≡ mask_l (map (λ x. x == byte) xs) → trailing_zeros w64 marks < 32 → trailing_zeros w64 marks ≡ prefix_len (λ x. not (x == byte)) xs
first_marked zero byte xs limited is few = absurd (omega (arith, no_mark, few))
first_marked (suc marks) byte xs limited is few = ap (trailing_zeros w64) is ∙ trailing_mask_l (λ (x : ℕ). eqb x byte) 64 xs limited (omega (arith, is))

-- the mask behind the first line is the mask of the text behind it
pub second_marked : (text : List ℕ) (marks first : ℕ) → 64 ≤ length text → first < 32 → marks ≡ mask_l (map (λ x. x == 10) (chunk 0 64 text)) → trailing_zeros w64 (marks / 2 ^ (first + 1)) < 32 →
    trailing_zeros w64 (marks / 2 ^ (first + 1)) ≡ prefix_len (λ x. not (x == 10)) (chunk 0 (63 - first) (take (length text - (first + 1)) (drop (first + 1) text)))
second_marked text marks first enough short is few =
    let behind = take (length text - (first + 1)) (drop (first + 1) text) in
    let is_lf : ℕ → Bool = λ x. eqb x 10 in
    let all : (first + 1) + (63 - first) ≡ 64 = omega (arith, short) in
    let piece : drop (first + 1) (chunk 0 64 text) ≡ chunk 0 (63 - first) behind = ap (λ m. drop (first + 1) (take m text)) (sym all) ∙ drop-take (first + 1) (63 - first) text ∙ ap (take (63 - first)) (sym (take_rest text (first + 1))) in
    let marked = ap (λ m. m / 2 ^ (first + 1)) is ∙ mask-drop (first + 1) (map is_lf (chunk 0 64 text)) ∙ ap mask_l (drop-map is_lf (first + 1) (chunk 0 64 text)) ∙ ap (λ l. mask_l (map is_lf l)) piece in
    first_marked (marks / 2 ^ (first + 1)) 10 (chunk 0 (63 - first) behind) (omega (arith, length-take (63 - first) behind)) marked few
