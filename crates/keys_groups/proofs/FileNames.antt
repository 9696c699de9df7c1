-- Names of files are those of one group.
use Rattle.std.proofs.Common.{ℕ, ◌≡◌, ◌<◌, ◌/◌, ◌%◌, true, false, cond, List, [], ◌∷◌, ◌++◌, codes, refl, sym, ap, ◌∙◌, arith}
use Rattle.std.specs.Prelude.{flat_map, unwrap_or}
use Rattle.std.proofs.lemmas.List.{append_cancel_right}
use Rattle.std.specs.List.{AllByRecursion}
use Rattle.std.proofs.lemmas.Bool.Decides.{nat_tests}
use Rattle.std.specs.Char.{digit_char}
use Rattle.keys_sketches.specs.Hex.{digit_of, hex_of}
use Rattle.keys_groups.specs.Files.{is_plain, spelled, file_name}
use Rattle.keys_groups.proofs.WrittenImages.{digit_read}

-- the first bytes of two texts that are equal, and the others
heads : (x y : ℕ) (xs ys : List ℕ) → x ∷ xs ≡ y ∷ ys → x ≡ y
heads x y xs ys same = cc

tails : (x y : ℕ) (xs ys : List ℕ) → x ∷ xs ≡ y ∷ ys → xs ≡ ys
tails x y xs ys same = cc

plain_other : (byte : ℕ) → is_plain byte ≡ true → byte ≡ 37 → ⊥
plain_other byte plain is = grind (arith, nat_tests)

-- a digit is known by its letter
digits_one : (m n : ℕ) → m < 16 → n < 16 → digit_char m ≡ digit_char n → m ≡ n
digits_one m n m_small n_small same = ap (λ o. unwrap_or o 0) (sym (digit_read m m_small) ∙ ap digit_of same ∙ digit_read n n_small)

-- a byte is known by its spelling, whatever follows
byte_one : (x y : ℕ) (xs ys : List ℕ) → x < 256 → y < 256 → spelled x ++ xs ≡ spelled y ++ ys → (x ≡ y) × (xs ≡ ys)
byte_one x y xs ys x_small y_small same =
    (elim (is_plain x) as (λ b. is_plain x ≡ b → cond b (x ∷ []) (37 ∷ hex_of (x ∷ [])) ++ xs ≡ spelled y ++ ys → (x ≡ y) × (xs ≡ ys)) [
      | true ↦ λ plain s. (elim (is_plain y) as (λ b. is_plain y ≡ b → x ∷ xs ≡ cond b (y ∷ []) (37 ∷ hex_of (y ∷ [])) ++ ys → (x ≡ y) × (xs ≡ ys)) [
        | true ↦ λ _ t. (heads x y xs ys t, tails x y xs ys t)
        | false ↦ λ _ t. absurd (plain_other x plain (heads x 37 xs _ t))
      ]) refl s
      | false ↦ λ coded s. (elim (is_plain y) as (λ b. is_plain y ≡ b → 37 ∷ (hex_of (x ∷ []) ++ xs) ≡ cond b (y ∷ []) (37 ∷ hex_of (y ∷ [])) ++ ys → (x ≡ y) × (xs ≡ ys)) [
        | true ↦ λ plain t. absurd (plain_other y plain (sym (heads 37 y _ ys t)))
        | false ↦ λ _ t.
            let two : hex_of (x ∷ []) ++ xs ≡ hex_of (y ∷ []) ++ ys = tails 37 37 _ _ t in
            let one : digit_char (x % 16) ∷ xs ≡ digit_char (y % 16) ∷ ys = tails (digit_char (x / 16)) (digit_char (y / 16)) _ _ two in
            let high = digits_one (x / 16) (y / 16) (omega (arith, x_small)) (omega (arith, y_small)) (heads _ _ _ _ two) in
            let low = digits_one (x % 16) (y % 16) (omega arith) (omega arith) (heads _ _ _ _ one) in
            (omega (arith, high, low), tails _ _ xs ys one)
      ]) refl s
    ]) refl same

-- a spelling has at least one byte, and is not % alone
some_byte : (byte : ℕ) (rest : List ℕ) → (b : ℕ) × (bs : List ℕ) × (spelled byte ++ rest ≡ b ∷ bs)
some_byte byte rest = elim (is_plain byte) as (λ t. (b : ℕ) × (bs : List ℕ) × (cond t (byte ∷ []) (37 ∷ hex_of (byte ∷ [])) ++ rest ≡ b ∷ bs)) [
  | true ↦ (byte, rest, refl)
  | false ↦ (37, hex_of (byte ∷ []) ++ rest, refl)
]

none_spelled : (byte : ℕ) (rest : List ℕ) → spelled byte ++ rest ≡ [] → ⊥
none_spelled byte rest none = let some = some_byte byte rest in let e : some.0 ∷ some.1 ≡ [] = sym some.2 ∙ none in cc

not_percent : (byte : ℕ) (rest : List ℕ) → spelled byte ++ rest ≡ 37 ∷ [] → ⊥
not_percent byte rest is =
    (elim (is_plain byte) as (λ b. is_plain byte ≡ b → cond b (byte ∷ []) (37 ∷ hex_of (byte ∷ [])) ++ rest ≡ 37 ∷ [] → ⊥) [
      | true ↦ λ plain s. plain_other byte plain (heads byte 37 rest [] s)
      | false ↦ λ coded s. let e : digit_char (byte / 16) ∷ digit_char (byte % 16) ∷ rest ≡ [] = tails 37 37 _ [] s in cc
    ]) refl is

spelled_one : (name other : List ℕ) → AllByRecursion (λ byte. byte < 256) name → AllByRecursion (λ byte. byte < 256) other → flat_map spelled name ≡ flat_map spelled other → name ≡ other
spelled_one [] [] all others same = refl
spelled_one [] (y ∷ ys) all others same = absurd (none_spelled y (flat_map spelled ys) (sym same))
spelled_one (x ∷ xs) [] all others same = absurd (none_spelled x (flat_map spelled xs) same)
spelled_one (x ∷ xs) (y ∷ ys) all others same =
    let one = byte_one x y (flat_map spelled xs) (flat_map spelled ys) all.0 others.0 same in
    ap (λ b. b ∷ xs) one.0 ∙ ap (λ bs. y ∷ bs) (spelled_one xs ys all.1 others.1 one.1)

pub apart : (name other : List ℕ) → AllByRecursion (λ byte. byte < 256) name → AllByRecursion (λ byte. byte < 256) other → file_name name ≡ file_name other → name ≡ other
apart [] [] all others same = refl
apart [] (y ∷ ys) all others same = absurd (not_percent y (flat_map spelled ys) (sym (append_cancel_right _ _ (codes ".theta") same)))
apart (x ∷ xs) [] all others same = absurd (not_percent x (flat_map spelled xs) (append_cancel_right _ _ (codes ".theta") same))
apart (x ∷ xs) (y ∷ ys) all others same = spelled_one (x ∷ xs) (y ∷ ys) all others (append_cancel_right _ _ (codes ".theta") same)
