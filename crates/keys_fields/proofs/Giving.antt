-- Bytes that are given, and bytes that are shown.
use Rattle.std.proofs.Common.{◌≡◌, ℕ, ◌+◌, ◌-◌, ◌≤◌, List, [], ◌++◌, Option, Some, None, length, length-append, length-drop, length-take, length-take-le, take, take_all, drop, take-append-drop, drop-drop, take_at, inl, inr, sym, ap, ◌∙◌, arith, append_assoc}
use Rattle.std.specs.Prelude.{min}
use Rattle.std.specs.Io.KnownBytes.{Keeps, Consumes, IsAtEnd, prepend_known}
use Rattle.std.proofs.lemmas.Bool.{cases_lt}
use Rattle.std.proofs.lemmas.List.{drop_all}

-- as many as there are at most
pub drop_most : {X : Type 0} (n : ℕ) (xs : List X) → drop (min n (length xs)) xs ≡ drop n xs
drop_most n xs = elim (cases_lt n (length xs)) [
  | inl lt ↦ ap (λ (m : ℕ). drop m xs) (omega (arith, lt))
  | inr le ↦ ap (λ (m : ℕ). drop m xs) (omega (arith, le)) ∙ drop_all (length xs) xs (omega arith) ∙ sym (drop_all n xs le)
]

pub take_most : {X : Type 0} (n : ℕ) (xs : List X) → take (min n (length xs)) xs ≡ take n xs
take_most n xs = elim (cases_lt n (length xs)) [
  | inl lt ↦ ap (λ (m : ℕ). take m xs) (omega (arith, lt))
  | inr le ↦ ap (λ (m : ℕ). take m xs) (omega (arith, le)) ∙ take_all (length xs) xs (omega arith) ∙ sym (take_all n xs le)
]

-- bytes are given from the front of those that wait
module _ (waiting : List ℕ) (given start count : ℕ) (from : start ≡ min given (length waiting)) where
  at_start : drop given waiting ≡ drop start waiting
  at_start = sym (drop_most given waiting) ∙ ap (λ (n : ℕ). drop n waiting) (sym from)

  pub given_more : drop given waiting ≡ take count (drop start waiting) ++ drop (start + count) waiting
  given_more = at_start ∙ sym (take-append-drop count (drop start waiting)) ∙ ap (λ bytes. take count (drop start waiting) ++ bytes) (drop-drop count start waiting)

-- and copied to the front of a buffer
pub copied : (waiting : List ℕ) (start count : ℕ) (new others : List ℕ) → count ≤ length (take (length waiting - start) (drop start waiting)) → new ≡ take count (take (length waiting - start) (drop start waiting))
    → take count (drop start waiting) ≡ take count (new ++ others)
copied waiting start count new others within is =
    let all : take (length waiting - start) (drop start waiting) ≡ drop start waiting = take_all (length waiting - start) (drop start waiting) (omega (arith, length-drop start waiting)) in
    let same : new ≡ take count (drop start waiting) = is ∙ ap (take count) all in
    let counted : length new ≡ count = ap length is ∙ length-take-le count (take (length waiting - start) (drop start waiting)) within in
    sym same ∙ sym (take_at new others count counted)

-- the bytes of a block that are shown
pub shown_is : (items shown : List ℕ) (start end most first last : ℕ) → shown ≡ items → most ≡ length items → first ≡ min end most → last ≡ min start (length (take first shown))
    → take (length (take first shown) - last) (drop last (take first shown)) ≡ drop start (take end items)
shown_is items shown start end most first last same all from to =
    take_all (length (take first shown) - last) (drop last (take first shown)) (omega (arith, length-drop last (take first shown)))
    ∙ ap (λ (n : ℕ). drop n (take first shown)) to ∙ drop_most start (take first shown)
    ∙ ap (λ bytes. drop start (take first bytes)) same
    ∙ ap (λ (n : ℕ). drop start (take n items)) (from ∙ ap (min end) all)
    ∙ ap (drop start) (take_most end items)

-- bytes that are read past
pub past : (read : List ℕ) (start count next most : ℕ) → next ≡ min (start + count) most → length read ≤ most → drop next read ≡ drop count (drop start read)
past read start count next most is fits =
    ap (λ (n : ℕ). drop n read) is
    ∙ (elim (cases_lt (start + count) most) [
      | inl lt ↦ ap (λ (n : ℕ). drop n read) {x = min (start + count) most} {y = start + count} (omega (arith, lt))
      | inr le ↦ drop_all (min (start + count) most) read (omega (arith, le, fits)) ∙ sym (drop_all (start + count) read (omega (arith, le, fits)))
    ])
    ∙ sym (drop-drop count start read)

-- what was shown is consumed
pub shown_past : (shown : List ℕ) (next : List ℕ) (text : Option (List ℕ)) (count : ℕ) → next ≡ drop count shown → Consumes (prepend_known shown text) (prepend_known next text) (take count shown)
shown_past shown next None count e = tt
shown_past shown next (Some text) count e =
    ap (λ bytes. bytes ++ text) (sym (take-append-drop count shown) ∙ ap (λ bytes. take count shown ++ bytes) (sym e)) ∙ append_assoc (take count shown) next text

-- a block was read, where nothing was shown
pub block_read : (a b : Option (List ℕ)) (shown block : List ℕ) → shown ≡ [] → Consumes a b block → Keeps (prepend_known shown a) (prepend_known block b)
block_read None b shown block none read = tt
block_read (Some xs) None shown block none read = absurd read
block_read (Some xs) (Some ys) shown block none read = sym read ∙ ap (λ bytes. bytes ++ xs) (sym none)

-- no block was read
pub none_read : (a b : Option (List ℕ)) (shown : List ℕ) → shown ≡ [] → Keeps a b → Keeps (prepend_known shown a) (prepend_known [] b)
none_read None b shown none keeps = tt
none_read (Some xs) None shown none keeps = absurd keeps
none_read (Some xs) (Some ys) shown none keeps = keeps ∙ ap (λ bytes. bytes ++ xs) (sym none)

pub none_at_end : (b : Option (List ℕ)) (block : List ℕ) → block ≡ [] → IsAtEnd b → IsAtEnd (prepend_known block b)
none_at_end None block none end = tt
none_at_end (Some ys) block none end = ap (λ bytes. bytes ++ ys) none ∙ end

-- none was read
pub none_taken : (n most : ℕ) (buf items : List ℕ) → n ≤ length buf → length buf ≡ most → take n (take most (buf ++ drop (length buf) items)) ≡ [] → n ≡ 0
none_taken n most buf items within same none =
    omega (arith, within, same, ap length none, length-take n (take most (buf ++ drop (length buf) items)), length-take most (buf ++ drop (length buf) items), length-append buf (drop (length buf) items))
