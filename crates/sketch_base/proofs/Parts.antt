-- Words of fewer than eight bytes, put together from loads that overlap.
use Rattle.std.proofs.Common.{◌≡◌, ℕ, ◌+◌, ◌-◌, ◌*◌, ◌/◌, ◌%◌, ◌^◌, ◌<◌, ◌≤◌, List, [], ◌∷◌, length, take, drop, get_or, bit_or, ap, ◌∙◌, arith}
use Rattle.std.proofs.lemmas.Nat.{or_block, pow_pos}
use Rattle.std.specs.Int.Bits.{or_self, or_zero_r}
use Rattle.sketch_base.specs.Bytes.{number}

-- two numbers that overlap: the low bits of the second, at place k, are the high bits m of the first
overlapped : (k j r m t low high : ℕ) → r < 2 ^ k → m < 2 ^ j → low ≡ m * 2 ^ k + r → high ≡ (t * 2 ^ j + m) * 2 ^ k → bit_or low high ≡ (t * 2 ^ j + m) * 2 ^ k + r
overlapped k j r m t low high hr hm is_low is_high =
    let begun : m ≡ 0 * 2 ^ j + m = omega arith in
    let above : bit_or m (t * 2 ^ j + m) ≡ t * 2 ^ j + m =
    ap (λ x. bit_or x (t * 2 ^ j + m)) begun ∙ or_block j 0 t m m hm hm ∙ ap (λ x. t * 2 ^ j + x) (or_self m) in
    let padded : high ≡ (t * 2 ^ j + m) * 2 ^ k + 0 = omega arith in
    (λ i. bit_or (is_low i) (padded i))
    ∙ or_block k m (t * 2 ^ j + m) r 0 hr (pow_pos k)
    ∙ (λ i. above i * 2 ^ k + or_zero_r r i)

pub limited : (bs : List ℕ) → 0 < length bs → length bs < 4 → ((i : ℕ) → get_or bs i 0 < 2 ^ 8) → bit_or (bit_or (get_or bs 0 0) ((get_or bs (length bs / 2) 0 * 2 ^ (8 * (length bs / 2))) % 2 ^ 64)) ((get_or bs (length bs - 1) 0 * 2 ^ (8 * (length bs - 1))) % 2 ^ 64) ≡ number bs % 2 ^ 64
limited [] some short small = absurd (omega arith)
limited (a ∷ []) some short small =
    let ha : a < 2 ^ 8 = small 0 in
    let once : (a * 2 ^ 0) % 2 ^ 64 ≡ a = omega arith in
    let sum : a ≡ (a + 256 * 0) % 2 ^ 64 = omega arith in
    (λ i. bit_or (bit_or a (once i)) (once i)) ∙ ap (λ x. bit_or x a) (or_self a) ∙ or_self a ∙ sum
limited (a ∷ b ∷ []) some short small =
    let ha : a < 2 ^ 8 = small 0 in
    let hb : b < 2 ^ 8 = small 1 in
    let one = overlapped 8 0 a 0 b a ((b * 2 ^ 8) % 2 ^ 64) ha (omega arith) (omega arith) (omega arith) in
    let two = overlapped 8 8 a b 0 ((b * 2 ^ 0 + 0) * 2 ^ 8 + a) ((b * 2 ^ 8) % 2 ^ 64) ha hb (omega arith) (omega arith) in
    let sum : (0 * 2 ^ 8 + b) * 2 ^ 8 + a ≡ (a + 256 * (b + 256 * 0)) % 2 ^ 64 = omega arith in
    ap (λ x. bit_or x ((b * 2 ^ 8) % 2 ^ 64)) one ∙ two ∙ sum
limited (a ∷ b ∷ c ∷ []) some short small =
    let ha : a < 2 ^ 8 = small 0 in
    let hb : b < 2 ^ 8 = small 1 in
    let hc : c < 2 ^ 8 = small 2 in
    let one = overlapped 8 0 a 0 b a ((b * 2 ^ 8) % 2 ^ 64) ha (omega arith) (omega arith) (omega arith) in
    let two = overlapped 16 0 (b * 2 ^ 8 + a) 0 c ((b * 2 ^ 0 + 0) * 2 ^ 8 + a) ((c * 2 ^ 16) % 2 ^ 64) (omega arith) (omega arith) (omega arith) (omega arith) in
    let sum : (c * 2 ^ 0 + 0) * 2 ^ 16 + (b * 2 ^ 8 + a) ≡ (a + 256 * (b + 256 * (c + 256 * 0))) % 2 ^ 64 = omega arith in
    ap (λ x. bit_or x ((c * 2 ^ 16) % 2 ^ 64)) one ∙ two ∙ sum
limited (a ∷ b ∷ c ∷ d ∷ bs) some short small = absurd (omega arith)

-- four and more bytes from their first four and their last four
pub halves : (bs : List ℕ) → 4 ≤ length bs → length bs < 8 → ((i : ℕ) → get_or bs i 0 < 2 ^ 8) → bit_or (number (take 4 bs)) ((number (drop (length bs - 4) bs) * 2 ^ (8 * (length bs - 4))) % 2 ^ 64) ≡ number bs % 2 ^ 64
halves (a ∷ b ∷ c ∷ d ∷ []) some short small =
    let ha : a < 2 ^ 8 = small 0 in
    let hb : b < 2 ^ 8 = small 1 in
    let hc : c < 2 ^ 8 = small 2 in
    let hd : d < 2 ^ 8 = small 3 in
    let n = number (a ∷ b ∷ c ∷ d ∷ []) in
    let once : (n * 2 ^ 0) % 2 ^ 64 ≡ n = omega arith in
    let fits : n ≡ n % 2 ^ 64 = omega arith in
    ap (bit_or n) once ∙ or_self n ∙ fits
halves (a ∷ b ∷ c ∷ d ∷ e ∷ []) some short small =
    let ha : a < 2 ^ 8 = small 0 in
    let hb : b < 2 ^ 8 = small 1 in
    let hc : c < 2 ^ 8 = small 2 in
    let hd : d < 2 ^ 8 = small 3 in
    let he : e < 2 ^ 8 = small 4 in
    let m = number (b ∷ c ∷ d ∷ []) in
    let joined = overlapped 8 24 a m e (number (a ∷ b ∷ c ∷ d ∷ [])) ((number (b ∷ c ∷ d ∷ e ∷ []) * 2 ^ 8) % 2 ^ 64) ha (omega arith) (omega arith) (omega arith) in
    let sum : (e * 2 ^ 24 + m) * 2 ^ 8 + a ≡ number (a ∷ b ∷ c ∷ d ∷ e ∷ []) % 2 ^ 64 = omega arith in
    joined ∙ sum
halves (a ∷ b ∷ c ∷ d ∷ e ∷ f ∷ []) some short small =
    let ha : a < 2 ^ 8 = small 0 in
    let hb : b < 2 ^ 8 = small 1 in
    let hc : c < 2 ^ 8 = small 2 in
    let hd : d < 2 ^ 8 = small 3 in
    let he : e < 2 ^ 8 = small 4 in
    let hf : f < 2 ^ 8 = small 5 in
    let r = number (a ∷ b ∷ []) in
    let m = number (c ∷ d ∷ []) in
    let t = number (e ∷ f ∷ []) in
    let joined = overlapped 16 16 r m t (number (a ∷ b ∷ c ∷ d ∷ [])) ((number (c ∷ d ∷ e ∷ f ∷ []) * 2 ^ 16) % 2 ^ 64) (omega arith) (omega arith) (omega arith) (omega arith) in
    let sum : (t * 2 ^ 16 + m) * 2 ^ 16 + r ≡ number (a ∷ b ∷ c ∷ d ∷ e ∷ f ∷ []) % 2 ^ 64 = omega arith in
    joined ∙ sum
halves (a ∷ b ∷ c ∷ d ∷ e ∷ f ∷ g ∷ []) some short small =
    let ha : a < 2 ^ 8 = small 0 in
    let hb : b < 2 ^ 8 = small 1 in
    let hc : c < 2 ^ 8 = small 2 in
    let hd : d < 2 ^ 8 = small 3 in
    let he : e < 2 ^ 8 = small 4 in
    let hf : f < 2 ^ 8 = small 5 in
    let hg : g < 2 ^ 8 = small 6 in
    let r = number (a ∷ b ∷ c ∷ []) in
    let t = number (e ∷ f ∷ g ∷ []) in
    let joined = overlapped 24 8 r d t (number (a ∷ b ∷ c ∷ d ∷ [])) ((number (d ∷ e ∷ f ∷ g ∷ []) * 2 ^ 24) % 2 ^ 64) (omega arith) hd (omega arith) (omega arith) in
    let sum : (t * 2 ^ 8 + d) * 2 ^ 24 + r ≡ number (a ∷ b ∷ c ∷ d ∷ e ∷ f ∷ g ∷ []) % 2 ^ 64 = omega arith in
    joined ∙ sum
halves [] some short small = absurd (omega arith)
halves (a ∷ []) some short small = absurd (omega arith)
halves (a ∷ b ∷ []) some short small = absurd (omega arith)
halves (a ∷ b ∷ c ∷ []) some short small = absurd (omega arith)
halves (a ∷ b ∷ c ∷ d ∷ e ∷ f ∷ g ∷ h ∷ bs) some short small = absurd (omega arith)
