-- Seeds that the bytes of files spell.
use Rattle.std.proofs.Common.{◌≡◌, ℕ, true, false, cond, eqb, leb, not, List, [], ◌∷◌, length, drop, Some, None, refl, ap, arith}
use Rattle.std.specs.Prelude.{◌<◌, ◌&&◌, IsUtf8}
use Rattle.std.specs.Char.{is_ascii_whitespace}
use Rattle.std.specs.List.{prefix_len, AllByRecursion}
use Rattle.std.specs.Option.{option_map_or}
use Rattle.std.specs.Str.{IsTrimAscii}
use Rattle.std.specs.Str.{all_ascii_digits}
use Rattle.std.specs.Str.Parse.{digits_value}
use Rattle.std.proofs.lemmas.List.Elements.{All-from_recursion}
use Rattle.std.proofs.lemmas.Str.{IsUtf8-from_ascii}
use Rattle.std.proofs.lemmas.Str.Ascii.{IsAscii-from_all, trim_ascii_is}
use Rattle.std.proofs.lemmas.Str.Parse.{tells_all_ascii_digits}
use Rattle.sketch_base.specs.Seed.{seed_hash}
use Rattle.distinct_arguments.specs.Words.{number_of, seed_of}
use Rattle.distinct_inputs.specs.Images.{trimmed}

-- digits are bytes of ASCII
digits_low : (word : List ℕ) → all_ascii_digits word ≡ true → AllByRecursion (λ byte. byte < 128) word
digits_low [] digits = tt
digits_low (byte ∷ word) digits = let parts = tells_all_ascii_digits.parts byte word digits in (omega (arith, parts.0.1), digits_low word parts.1)

-- bytes that are not all digits spell no number
no_number : (least greatest : ℕ) (word : List ℕ) → all_ascii_digits word ≡ false → number_of least greatest word ≡ None
no_number least greatest word other =
    let n = digits_value 10 word in
    elim (not (eqb (length word) 0)) as (λ some. cond (some && all_ascii_digits word && leb least n && leb n greatest) (Some n) None ≡ None) [
      | true ↦ ap (λ digits. cond (true && digits && leb least n && leb n greatest) (Some n) None) other
      | false ↦ refl
    ]

-- .. so bytes that are not UTF-8 spell no seed
pub no_seed : (word : List ℕ) → (IsUtf8 word → ⊥) → seed_of word ≡ None
no_seed word other =
    (elim (all_ascii_digits word) as (λ digits. all_ascii_digits word ≡ digits → seed_of word ≡ None) [
      | true ↦ λ digits. absurd (other (IsUtf8-from_ascii word (IsAscii-from_all word (All-from_recursion (λ byte. byte < 128) word (digits_low word digits)))))
      | false ↦ λ digits. ap (λ number. option_map_or (λ seed. cond (eqb (seed_hash seed) 0) None (Some seed)) number None) (no_number 0 18446744073709551615 word digits)
    ]) refl

-- the text without the blanks at both ends
pub is_trimmed : (text rest : List ℕ) → IsTrimAscii text rest → rest ≡ trimmed text
is_trimmed text rest is = trim_ascii_is text rest (drop (prefix_len is_ascii_whitespace text) text) refl is
