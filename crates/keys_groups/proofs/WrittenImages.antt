-- The bytes of images, as hexadecimal digits and back.
use Rattle.std.proofs.Common.{ℕ, zero, suc, ◌≡◌, ◌<◌, ◌/◌, ◌%◌, Bool, true, false, cond, eqb, List, [], ◌∷◌, ◌++◌, Some, refl, ap, ◌∙◌, arith}
use Rattle.std.specs.Prelude.{◌||◌, flat_map, nat_lt, length}
use Rattle.std.specs.List.{AllByRecursion}
use Rattle.std.specs.Int.{Width, w16, w32, w64, byte_at, byte_len, bytes_low_first, to_le_bytes}
use Rattle.std.proofs.lemmas.Bool.Decides.{nat_tests}
use Rattle.core_laws.specs.declared.TheConstants.{MAX_THETA}
use Rattle.core_compact.specs.CompactState.{Compact}
use Rattle.core_images.specs.Write.{longs_of, counted}
use Rattle.theta_sketches.specs.Image.{written}
use Rattle.std.specs.Char.{digit_char}
use Rattle.keys_sketches.specs.Hex.{digit_of, hex_of, pair_of, before, bytes_of_hex}
use Rattle.keys_groups.specs.Tabs.{has_tab}

-- ---- lists of bytes

abbrev pub AreBytes : List ℕ → Type 0
AreBytes bytes = AllByRecursion (λ byte. byte < 256) bytes

module _ {X : Type 0} (P : X → Type 0) where
  pub all_joined : (xs ys : List X) → AllByRecursion P xs → AllByRecursion P ys → AllByRecursion P (xs ++ ys)
  all_joined [] ys first second = second
  all_joined (x ∷ xs) ys first second = (first.0, all_joined xs ys first.1 second)

byte_small : (i n : ℕ) → byte_at i n < 256
byte_small zero n = omega arith
byte_small (suc i) n = omega arith

low_bytes : (i k n : ℕ) → AreBytes (bytes_low_first i k n)
low_bytes i zero n = tt
low_bytes i (suc k) n = (byte_small i n, low_bytes (suc i) k n)

number_bytes : (w : Width) (n : ℕ) → AreBytes (to_le_bytes w n)
number_bytes w n = low_bytes 0 (byte_len w) n

hash_bytes : (hashes : List ℕ) → AreBytes (flat_map (λ hash. to_le_bytes w64 hash) hashes)
hash_bytes [] = tt
hash_bytes (hash ∷ hashes) = all_joined (λ byte. byte < 256) (to_le_bytes w64 hash) (flat_map (λ h. to_le_bytes w64 h) hashes) (number_bytes w64 hash) (hash_bytes hashes)

longs_small : (estimates one : Bool) → cond estimates 3 (cond one 1 2) < 256
longs_small true one = omega arith
longs_small false true = omega arith
longs_small false false = omega arith

flags_small : (ordered : Bool) → cond ordered 0x1a 0x0a < 256
flags_small true = omega arith
flags_small false = omega arith

counted_bytes_are : (s : Compact ℕ) → AreBytes (counted s)
counted_bytes_are s = all_joined (λ byte. byte < 256) (to_le_bytes w32 (length s.entries)) (0 ∷ 0 ∷ 0 ∷ 0 ∷ []) (number_bytes w32 (length s.entries)) (omega arith, (omega arith, (omega arith, (omega arith, tt))))

numbers_are : (s : Compact ℕ) (estimates one : Bool) → AreBytes (cond estimates (counted s ++ to_le_bytes w64 s.theta) (cond one [] (counted s)))
numbers_are s true one = all_joined (λ byte. byte < 256) (counted s) (to_le_bytes w64 s.theta) (counted_bytes_are s) (number_bytes w64 s.theta)
numbers_are s false true = tt
numbers_are s false false = counted_bytes_are s

-- an image is bytes
pub written_bytes : (s : Compact ℕ) → AreBytes (written s)
written_bytes s =
    let numbers : List ℕ = cond (nat_lt s.theta MAX_THETA) (counted s ++ to_le_bytes w64 s.theta) (cond (eqb (length s.entries) 1) [] (counted s)) in
    let hashes : List ℕ = flat_map (λ hash. to_le_bytes w64 hash) s.entries in
    let seed : List ℕ = to_le_bytes w16 s.seed_hash in
    (elim s.empty as (λ b. AreBytes (cond b (1 ∷ 3 ∷ 3 ∷ 0 ∷ 0 ∷ 0x1e ∷ to_le_bytes w16 0) (((longs_of s ∷ 3 ∷ 3 ∷ 0 ∷ 0 ∷ cond s.ordered 0x1a 0x0a ∷ seed) ++ numbers) ++ hashes))) [
      | true ↦ (omega arith, (omega arith, (omega arith, (omega arith, (omega arith, (omega arith, number_bytes w16 0))))))
      | false ↦ (
        longs_small (nat_lt s.theta MAX_THETA) (eqb (length s.entries) 1),
        (
          omega arith,
          (
            omega arith,
            (
              omega arith,
              (
                omega arith,
                (
                  flags_small s.ordered,
                  all_joined (λ byte. byte < 256) (seed ++ numbers) hashes
                      (all_joined (λ byte. byte < 256) seed numbers (number_bytes w16 s.seed_hash) (numbers_are s (nat_lt s.theta MAX_THETA) (eqb (length s.entries) 1)))
                      (hash_bytes s.entries),
                ),
              ),
            ),
          ),
        ),
      )
    ])

-- ---- digits

pub digit_read : (n : ℕ) → n < 16 → digit_of (digit_char n) ≡ Some n
digit_read n small = grind (arith, nat_tests)

-- the digits of bytes spell them
pub hex_read : (bytes : List ℕ) → AreBytes bytes → bytes_of_hex (hex_of bytes) ≡ Some bytes
hex_read [] small = refl
hex_read (byte ∷ bytes) small =
    ap (λ o. before (pair_of o (digit_of (digit_char (byte % 16)))) (bytes_of_hex (hex_of bytes))) (digit_read (byte / 16) (omega (arith, small.0)))
    ∙ ap (λ o. before (pair_of (Some (byte / 16)) o) (bytes_of_hex (hex_of bytes))) (digit_read (byte % 16) (omega arith))
    ∙ ap (λ b. before (Some b) (bytes_of_hex (hex_of bytes))) (omega arith)
    ∙ ap (before (Some byte)) (hex_read bytes small.1)

letter_high : (n : ℕ) → 47 < digit_char n
letter_high n = grind (arith, nat_tests)

-- digits are neither tabs nor LFs
pub hex_high : (bytes : List ℕ) → AllByRecursion (λ letter. 47 < letter) (hex_of bytes)
hex_high [] = tt
hex_high (byte ∷ bytes) = (letter_high (byte / 16), (letter_high (byte % 16), hex_high bytes))

pub high_lacks_tab : (text : List ℕ) → AllByRecursion (λ letter. 47 < letter) text → has_tab text ≡ false
high_lacks_tab [] high = refl
high_lacks_tab (letter ∷ text) high =
    let first : eqb letter 9 ≡ false = (let low : 47 < letter = high.0 in grind (arith, nat_tests)) in
    ap (λ b. b || has_tab text) first ∙ high_lacks_tab text high.1
