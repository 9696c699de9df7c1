-- A hash has one spelling, the bytes that are written of it; and lemmas on spellings of fixed length.
use Rattle.std.proofs.Common.{◌≡◌, ℕ, ◌^◌, ◌<◌, ◌≤◌, List, [], ◌∷◌, ◌++◌, length, take, refl, sym, ap, ◌∙◌, arith}
use Rattle.std.proofs.Common.{take_all}
use Rattle.std.proofs.lemmas.List.{take-append-le}
use Rattle.std.proofs.lemmas.Nat.{from_le_bytes-to_le_bytes_4, from_le_bytes-to_le_bytes_8}
use Rattle.std.specs.Int.{w32, w64, to_le_bytes, from_le_bytes}
use Rattle.sketch_base.specs.Bytes.{number}
use Rattle.core_images.specs.Entry.{SpellsHash}

pub number-four : (x : ℕ) → x < 2 ^ 32 → number (to_le_bytes w32 x) ≡ x
number-four x h = let e = from_le_bytes-to_le_bytes_4 x h in omega arith

pub number-eight : (x : ℕ) → x < 2 ^ 64 → number (to_le_bytes w64 x) ≡ x
number-eight x h = let e = from_le_bytes-to_le_bytes_8 x h in omega arith

front : (n : ℕ) (a u : List ℕ) → length a ≡ n → take n (a ++ u) ≡ a
front n a u e =
    let enough : n ≤ length a = omega arith in
    let all : length a ≤ n = omega arith in
    take-append-le n a u enough ∙ take_all n a all

-- prefixes of one list are equal if they have the same length
pub same_front : (n : ℕ) (a b u v : List ℕ) → length a ≡ n → length b ≡ n → a ++ u ≡ b ++ v → a ≡ b
same_front n a b u v p q same = sym (front n a u p) ∙ ap (take n) same ∙ front n b v q

-- no spelling is a prefix of another, and each spells one hash
pub one_hash : (a b u v : List ℕ) (x y : ℕ) → SpellsHash a x → SpellsHash b y → a ++ u ≡ b ++ v → (a ≡ b) × (x ≡ y)
one_hash a b u v x y p q same =
    let e = same_front 8 a b u v p.0 q.0 same in
    (e, p.1 ∙ ap number e ∙ sym q.1)

pub hash_written : (x : ℕ) → x < 2 ^ 64 → SpellsHash (to_le_bytes w64 x) x
hash_written x h = (refl, sym (number-eight x h))

pub hash_long : (a : List ℕ) (x : ℕ) → SpellsHash a x → 8 ≤ length a
hash_long a x s = let eight = s.0 in omega arith

-- eight bytes as a number
pub word_number : (w : List ℕ) → length w ≡ 8 → from_le_bytes w64 w ≡ number w
word_number [] e = absurd (omega arith)
word_number (a ∷ []) e = absurd (omega arith)
word_number (a ∷ b ∷ []) e = absurd (omega arith)
word_number (a ∷ b ∷ c ∷ []) e = absurd (omega arith)
word_number (a ∷ b ∷ c ∷ d ∷ []) e = absurd (omega arith)
word_number (a ∷ b ∷ c ∷ d ∷ f ∷ []) e = absurd (omega arith)
word_number (a ∷ b ∷ c ∷ d ∷ f ∷ g ∷ []) e = absurd (omega arith)
word_number (a ∷ b ∷ c ∷ d ∷ f ∷ g ∷ h ∷ []) e = absurd (omega arith)
word_number (a ∷ b ∷ c ∷ d ∷ f ∷ g ∷ h ∷ i ∷ []) e = omega arith
word_number (a ∷ b ∷ c ∷ d ∷ f ∷ g ∷ h ∷ i ∷ j ∷ w) e = absurd (omega arith)

-- any eight bytes spell the hash that is read of them
pub hash_spelled : (a : List ℕ) → length a ≡ 8 → SpellsHash a (from_le_bytes w64 a)
hash_spelled a e = (e, word_number a e)
