-- A tuple has one spelling, the bytes that are written of it; and so has a whole number.
use Rattle.std.proofs.Common.{◌≡◌, ℕ, ℤ, ◌+◌, ◌^◌, ◌<◌, ◌≤◌, List, [], ◌∷◌, ◌++◌, length, take, drop, refl, sym, ap}
use Rattle.std.proofs.Common.{◌∙◌, arith, append_assoc, length-append, take-append-drop, to_z-of_z}
use Rattle.std.proofs.lemmas.List.{append_cancel_left, length-take-le, length-drop}
use mir.ValLaws.{of_z_fits}
use Rattle.std.specs.Prelude.{FitsSigned}
use Rattle.std.specs.Int.{Width, w32, w64, to_le_bytes, from_le_bytes, cast_signed, cast_unsigned}
use Rattle.sketch_base.specs.Bytes.{number}
use Rattle.core_slots.specs.declared.entry.TupleEntry.{TupleEntry}
use Rattle.core_images.specs.HashSpelling.{one_hash, hash_written, hash_spelled, word_number, number-four}
use Rattle.core_images.specs.HashSpelling.{number-eight, same_front}
use Rattle.core_images.specs.Summary.{SpellsTuple, SpellsNumber, SpellsSigned, tuple_text, tuple_in}

-- no spelling is a prefix of another, and each spells one number
pub one_number : (n : ℕ) (a b u v : List ℕ) (x y : ℕ) → SpellsNumber n a x → SpellsNumber n b y → a ++ u ≡ b ++ v → (a ≡ b) × (x ≡ y)
one_number n a b u v x y p q same =
    let e = same_front n a b u v p.0 q.0 same in
    (e, p.1 ∙ ap number e ∙ sym q.1)

pub one_signed : (w : Width) (n : ℕ) (a b u v : List ℕ) (x y : ℤ) → SpellsSigned w n a x → SpellsSigned w n b y → a ++ u ≡ b ++ v → (a ≡ b) × (x ≡ y)
one_signed w n a b u v x y p q same =
    let e = same_front n a b u v p.0 q.0 same in
    (e, p.1 ∙ ap (λ l. cast_signed w (number l)) e ∙ sym q.1)

-- the bytes written of a number spell it
pub four_written : (x : ℕ) → x < 2 ^ 32 → SpellsNumber 4 (to_le_bytes w32 x) x
four_written x h = (refl, sym (number-four x h))

pub eight_written : (x : ℕ) → x < 2 ^ 64 → SpellsNumber 8 (to_le_bytes w64 x) x
eight_written x h = hash_written x h

-- four bytes as a number
half_number : (w : List ℕ) → length w ≡ 4 → from_le_bytes w32 w ≡ number w
half_number [] e = absurd (omega arith)
half_number (a ∷ []) e = absurd (omega arith)
half_number (a ∷ b ∷ []) e = absurd (omega arith)
half_number (a ∷ b ∷ c ∷ []) e = absurd (omega arith)
half_number (a ∷ b ∷ c ∷ d ∷ []) e = omega arith
half_number (a ∷ b ∷ c ∷ d ∷ f ∷ w) e = absurd (omega arith)

-- any bytes of a number's size spell the number that is read of them
pub four_read : (a : List ℕ) → length a ≡ 4 → SpellsNumber 4 a (from_le_bytes w32 a)
four_read a e = (e, half_number a e)

pub eight_read : (a : List ℕ) → length a ≡ 8 → SpellsNumber 8 a (from_le_bytes w64 a)
eight_read a e = (e, word_number a e)

pub signed_four_read : (a : List ℕ) → length a ≡ 4 → SpellsSigned w32 4 a (cast_signed w32 (from_le_bytes w32 a))
signed_four_read a e = (e, ap (cast_signed w32) (half_number a e))

pub signed_eight_read : (a : List ℕ) → length a ≡ 8 → SpellsSigned w64 8 a (cast_signed w64 (from_le_bytes w64 a))
signed_eight_read a e = (e, ap (cast_signed w64) (word_number a e))

pub signed_four_written : (x : ℤ) → FitsSigned w32 x → SpellsSigned w32 4 (to_le_bytes w32 (cast_unsigned w32 x)) x
signed_four_written x h =
    let small : cast_unsigned w32 x < 2 ^ 32 = (of_z_fits w32 x h).fits in
    (refl, sym (ap (cast_signed w32) (number-four (cast_unsigned w32 x) small) ∙ to_z-of_z h))

pub signed_eight_written : (x : ℤ) → FitsSigned w64 x → SpellsSigned w64 8 (to_le_bytes w64 (cast_unsigned w64 x)) x
signed_eight_written x h =
    let small : cast_unsigned w64 x < 2 ^ 64 = (of_z_fits w64 x h).fits in
    (refl, sym (ap (cast_signed w64) (number-eight (cast_unsigned w64 x) small) ∙ to_z-of_z h))

module _ {S : Type 0} (Spells : List ℕ → S → Type 0) where
  -- no spelling is a prefix of another, and each spells one entry
  pub one_tuple : (one : (a b u v : List ℕ) (x y : S) → Spells a x → Spells b y → a ++ u ≡ b ++ v → (a ≡ b) × (x ≡ y))
      → (a b u v : List ℕ) (x y : TupleEntry S) → SpellsTuple Spells a x → SpellsTuple Spells b y → a ++ u ≡ b ++ v → (a ≡ b) × (x ≡ y)
  one_tuple one a b u v x y p q same =
      let whole : p.0 ++ (p.1 ++ u) ≡ q.0 ++ (q.1 ++ v) =
      sym (append_assoc p.0 p.1 u) ∙ ap (λ l. l ++ u) (sym p.2) ∙ same ∙ ap (λ l. l ++ v) q.2 ∙ append_assoc q.0 q.1 v in
      let hashes = one_hash p.0 q.0 (p.1 ++ u) (q.1 ++ v) x.hash y.hash p.3 q.3 whole in
      let others : p.1 ++ u ≡ q.1 ++ v = append_cancel_left q.0 (p.1 ++ u) (q.1 ++ v) (ap (λ l. l ++ (p.1 ++ u)) (sym hashes.0) ∙ whole) in
      let summaries = one p.1 q.1 u v x.summary y.summary p.4 q.4 others in
      (p.2 ∙ (λ i. hashes.0 i ++ summaries.0 i) ∙ sym q.2, λ i. record { hash = hashes.1 i; summary = summaries.1 i })

  -- the bytes written of an entry spell it
  pub tuple_written : (text : S → List ℕ) (x : TupleEntry S)
      → x.hash < 2 ^ 64
      → Spells (text x.summary) x.summary
      → SpellsTuple Spells (tuple_text text x) x
  tuple_written text x small s = (to_le_bytes w64 x.hash, text x.summary, refl, hash_written x.hash small, s)

  -- a spelling has at least eight bytes
  pub tuple_long : (a : List ℕ) (x : TupleEntry S) → SpellsTuple Spells a x → 8 ≤ length a
  tuple_long a x p = let e = ap length p.2 ∙ length-append p.0 p.1 in let eight = p.3.0 in omega arith

  module _ (n : ℕ) where
    -- any bytes of this size spell the entry that is read of them, if those after the hash spell its summary
    pub tuple_spelled : (summary_of : List ℕ → S)
        → ((a : List ℕ) → length a ≡ n → Spells a (summary_of a))
        → (a : List ℕ)
        → length a ≡ 8 + n
        → SpellsTuple Spells a (tuple_in summary_of a)
    tuple_spelled summary_of any a e =
        let front : length (take 8 a) ≡ 8 = length-take-le 8 a (omega arith) in
        let behind : length (drop 8 a) ≡ n = let left = length-drop 8 a in omega arith in
        (take 8 a, drop 8 a, sym (take-append-drop 8 a), hash_spelled (take 8 a) front, any (drop 8 a) behind)

    -- a spelling has this size
    pub tuple_size : ((a : List ℕ) (x : S) → Spells a x → length a ≡ n) → (a : List ℕ) (x : TupleEntry S) → SpellsTuple Spells a x → 8 + n ≤ length a
    tuple_size size a x p =
        let e = ap length p.2 ∙ length-append p.0 p.1 in
        let front = p.3.0 in
        let behind = size p.1 x.summary p.4 in
        omega arith
