-- Names of any bytes.
use Rattle.std.proofs.Common.{ℕ, ◌≡◌, ◌++◌, ◌∷◌, Bool, true, false, cond, List, [], IsUtf8, string_bytes, encode_utf8_all, ap, sym, ◌∙◌, refl, append_assoc}
use Rattle.std.proofs.lemmas.Str.{IsUtf8-from_is_utf8, is_utf8-from_IsUtf8, encodes-append}
use Rattle.std.specs.List.{flat_map}
use Rattle.std.specs.Str.{is_utf8}
use Rattle.keys_reports.specs.Names.{byte_chars, escaped_bytes, escaped_name}

-- a name that is UTF-8
pub escaped_text : (name : List ℕ) → IsUtf8 name → escaped_bytes name ≡ escaped_name name
unfolding escaped_bytes
escaped_text name utf8 =
    ap (λ (b : Bool). cond b (escaped_name name) (encode_utf8_all (flat_map byte_chars name))) (is_utf8-from_IsUtf8 name utf8)

-- .. and one that isn't
pub escaped_others : (name : List ℕ) → (IsUtf8 name → ⊥) → escaped_bytes name ≡ encode_utf8_all (flat_map byte_chars name)
unfolding escaped_bytes
escaped_others name other =
    (elim (is_utf8 name) as (λ b. is_utf8 name ≡ b → cond b (escaped_name name) (encode_utf8_all (flat_map byte_chars name)) ≡ encode_utf8_all (flat_map byte_chars name)) [
      | true ↦ λ e. absurd (other (IsUtf8-from_is_utf8 name e))
      | false ↦ λ e. refl
    ]) refl

-- a byte and the others
pub spelled_step : (b : ℕ) (others : List ℕ) → encode_utf8_all (flat_map byte_chars (b ∷ others)) ≡ encode_utf8_all (byte_chars b) ++ encode_utf8_all (flat_map byte_chars others)
spelled_step b others = encodes-append (byte_chars b) (flat_map byte_chars others)
