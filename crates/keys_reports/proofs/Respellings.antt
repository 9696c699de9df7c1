-- Texts of which each character is spelled by characters, from the front.
use Rattle.std.proofs.Common.{ℕ, ◌≡◌, ◌++◌, List, [], length, IsUtf8, chars, encode_utf8_all, ap}
use Rattle.std.proofs.StrCases.{chars_of_empty}
use Rattle.std.proofs.lemmas.Str.{chars_past_char, encodes-append}
use Rattle.std.specs.List.{flat_map}
use lib.Utf8.{encode}
use Rattle.keys_reports.specs.Names.{respelled}

-- of no text
pub respelled_empty : (spelling : ℕ → List ℕ) (text : List ℕ) → length text ≡ 0 → respelled spelling text ≡ []
unfolding respelled
respelled_empty spelling text none = ap (λ cs. encode_utf8_all (flat_map spelling cs)) (chars_of_empty text none)

-- of a character and the rest
pub respelled_step : (spelling : ℕ → List ℕ) (text rest : List ℕ) (c : ℕ) → IsUtf8 text → text ≡ encode c ++ rest
    → respelled spelling text ≡ encode_utf8_all (spelling c) ++ respelled spelling rest
unfolding respelled
respelled_step spelling text rest c utf8 parts =
    rw (chars_past_char text rest c utf8 parts) (encodes-append (spelling c) (flat_map spelling (chars rest)))
