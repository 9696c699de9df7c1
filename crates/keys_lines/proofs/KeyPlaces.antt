-- Where the key of a line is, by the places of its separators.
use Rattle.std.proofs.Common.{◌≡◌, ℕ, zero, suc, ◌+◌, ◌-◌, ◌/◌, ◌^◌, ◌<◌, ◌≤◌, eqb, cond, Bool, List, [], ◌∷◌, ◌++◌, length, map, get_or, take, drop, get_or-take, length-take-le, inl, inr, refl, ap, sym, ◌∙◌, arith}
use Rattle.std.specs.Int.{w64, trailing_zeros}
use Rattle.std.specs.Prelude.{not, min, ◌==◌}
use Rattle.std.specs.List.{prefix_len}
use Rattle.std.specs.Simd.Lanes.{chunk, mask_l}
use Rattle.std.proofs.lemmas.Bool.{cases_lt, eqb-true, eqb-false, ne_eqb}
use Rattle.std.proofs.lemmas.Bool.Decides.{nat_tests}
use Rattle.std.proofs.lemmas.List.{drop-map, drop-drop, take_rest, length-drop, take-take, get_or-drop, take_all, drop-take}
use Rattle.std.proofs.lemmas.Simd.{leading_from_mask_l, trailing_mask_l, run_in_chunk_fails, run_in_chunk_stops, run_in_chunk_le}
use Rattle.keys_lines.specs.Lines.{Lacks}
use Rattle.keys_lines.specs.Keys.{fields_of, key_of}
use Rattle.keys_lines.specs.declared.key.Key.TheVariants.{Field}
use Rattle.keys_lines.proofs.Cutting.{mask-drop, no_mark, parts_at, lacks_front}
use Rattle.keys_lines.proofs.Fields.{one_field, ended_field, has_two}

-- where the first mark from a place on is
module _ (byte from : ℕ) (lanes : List ℕ) (low : from ≤ 32) (long : length lanes ≡ 32) where
  abbrev is_byte : ℕ → Bool
  is_byte x = eqb x byte

  abbrev run : ℕ
  run = prefix_len (λ x. not (is_byte x)) (drop from lanes)

  first_mark : (m : ℕ) → m ≡ mask_l (map is_byte (drop from lanes)) → min (from + trailing_zeros w64 m) 32 ≡ from + run
  first_mark zero is =
      let none : run ≡ length (drop from lanes) = leading_from_mask_l is_byte (drop from lanes) (sym is) in
      grind (arith, nat_tests, none, length-drop from lanes, long, low, no_mark)
  first_mark (suc m) is =
      let found : trailing_zeros w64 (suc m) ≡ run = ap (trailing_zeros w64) is ∙ trailing_mask_l is_byte 64 (drop from lanes) (omega (arith, length-drop from lanes, long)) (omega (arith, is)) in
      let counted : run ≡ prefix_len (λ x. not (is_byte x)) (chunk from (32 - from) lanes) = ap (prefix_len (λ x. not (is_byte x))) (sym (take_all (32 - from) (drop from lanes) (omega (arith, length-drop from lanes, long)))) in
      let le : run ≤ 32 - from = run_in_chunk_le is_byte lanes from (32 - from) run 0 (omega (arith, long, low)) counted in
      grind (arith, nat_tests, found, le, low)

  pub next_marked : (marks : ℕ) → marks ≡ mask_l (map is_byte lanes) → min (from + trailing_zeros w64 (marks / 2 ^ from)) 32 ≡ from + run
  next_marked marks is = first_mark (marks / 2 ^ from) (ap (λ m. m / 2 ^ from) is ∙ mask-drop from (map is_byte lanes) ∙ ap mask_l (drop-map is_byte from lanes))

-- the fields of a line of `count` bytes that begins a text
module _ (c : ℕ) (text : List ℕ) where
  -- no separator is from one place to before another
  abbrev pub NoneIn : (from to : ℕ) → Type 0
  NoneIn from to = (k : ℕ) → from ≤ k → k < to → get_or text k 0 ≡ c → ⊥

  -- what a mask says of the next separator
  module _ (from next : ℕ) (enough : 32 ≤ length text) (low : from ≤ 32) (at : min next 32 ≡ from + prefix_len (λ x. not (x == c)) (drop from (chunk 0 32 text))) where
    counted : min next 32 - from ≡ prefix_len (λ x. not (x == c)) (chunk from (32 - from) text)
    counted =
        let all : from + (32 - from) ≡ 32 = omega (arith, low) in
        let same : drop from (chunk 0 32 text) ≡ chunk from (32 - from) text = ap (λ n. drop from (take n text)) (sym all) ∙ drop-take from (32 - from) text in
        let long : min next 32 - from ≡ prefix_len (λ x. not (x == c)) (drop from (chunk 0 32 text)) = omega (arith, at) in
        long ∙ ap (prefix_len (λ x. not (x == c))) same

    pub none_before : NoneIn from (min next 32)
    none_before k ge lt = eqb-false (get_or text k 0) c (run_in_chunk_fails (λ (x : ℕ). eqb x c) text from (32 - from) (min next 32 - from) 0 (omega (arith, enough, low)) counted k ge (omega (arith, at, lt)))

    pub at_next : next < 32 → get_or text next 0 ≡ c
    at_next lt =
        let is : min next 32 ≡ next = grind (arith, nat_tests, lt) in
        let there : from + (min next 32 - from) ≡ next = omega (arith, at, is) in
        ap (λ k. get_or text k 0) (sym there) ∙ eqb-true (get_or text (from + (min next 32 - from)) 0) c (run_in_chunk_stops (λ (x : ℕ). eqb x c) text from (32 - from) (min next 32 - from) 0 (omega (arith, enough, low)) counted (omega (arith, at, is, lt)))

  lacks_between : (from to : ℕ) → from ≤ to → to ≤ length text → NoneIn from to → Lacks c (take (to - from) (drop from text))
  lacks_between from to le within none =
      lacks_front c (drop from text) (to - from) (omega (arith, length-drop from text, within)) (λ k lt is. none (from + k) (omega arith) (omega (arith, lt, le)) (sym (get_or-drop from text k 0) ∙ is))

  module _ (count : ℕ) (whole : count ≤ length text) where
    -- what is left of the line from a place on
    abbrev pub line_from : (start : ℕ) → List ℕ
    line_from start = take (count - start) (drop start text)

    line_at : (start n : ℕ) → start ≤ n → n < count → get_or text n 0 ≡ c → line_from start ≡ take (n - start) (drop start text) ++ c ∷ line_from (n + 1)
    line_at start n le lt is =
        let ys = drop start text in
        let m = n - start in
        let w = count - start in
        let zs = take w ys in
        let sized : length zs ≡ w = length-take-le w ys (omega (arith, length-drop start text, whole)) in
        let there : get_or zs m 0 ≡ c = get_or-take w ys m 0 (omega (arith, le, lt)) ∙ get_or-drop start text m 0 ∙ ap (λ k. get_or text k 0) (omega (arith, le)) ∙ is in
        let tail : take (length zs - (m + 1)) (drop (m + 1) zs) ≡ line_from (n + 1) =
        take_rest zs (m + 1) ∙ ap (λ k. drop (m + 1) (take k ys)) (omega (arith, le, lt)) ∙ drop-take (m + 1) (count - (n + 1)) ys
        ∙ ap (take (count - (n + 1))) (drop-drop (m + 1) start text ∙ ap (λ k. drop k text) (omega (arith, le))) in
        parts_at c zs m (omega (arith, sized, le, lt)) there ∙ ap (λ l. l ++ c ∷ take (length zs - (m + 1)) (drop (m + 1) zs)) (take-take m w ys (omega (arith, le, lt))) ∙ ap (λ l. take m ys ++ c ∷ l) tail

    next_field : (start n : ℕ) → start ≤ n → n < count → NoneIn start n → get_or text n 0 ≡ c → fields_of c (line_from start) ≡ take (n - start) (drop start text) ∷ fields_of c (line_from (n + 1))
    next_field start n le lt none is =
        ap (fields_of c) (line_at start n le lt is) ∙ ended_field c (take (n - start) (drop start text)) (line_from (n + 1)) (lacks_between start n le (omega (arith, lt, whole)) none)

    last_field : (start : ℕ) → start ≤ count → NoneIn start count → fields_of c (line_from start) ≡ line_from start ∷ []
    last_field start le none = one_field c (line_from start) (lacks_between start count le whole none)

    from_begin : line_from 0 ≡ take count text
    from_begin = ap (λ n. take n text) (omega arith)

    abbrev line : List ℕ
    line = take count text

    -- at a place begins the field that so many others are before the key
    pub record IsFieldStart (before start left : ℕ) : Type 0 where
      pub within : start ≤ count
      pub same : get_or (fields_of c line) before [] ≡ get_or (fields_of c (line_from start)) left []
      pub first : start ≡ 0 → left ≡ before
      pub more : (start ≡ 0 → ⊥) → length (fields_of c line) ≡ 1 → ⊥

    pub line_begins : (before : ℕ) → IsFieldStart before 0 before
    line_begins before = record {
      within = omega arith;
      same = ap (λ l. get_or (fields_of c l) before []) (sym from_begin);
      first = λ _. refl;
      more = λ ne. absurd (ne refl);
    }

    two_fields : (n : ℕ) → n < count → get_or text n 0 ≡ c → length (fields_of c line) ≡ 1 → ⊥
    two_fields n lt is = has_two c line n (omega (arith, length-take-le count text whole, lt)) (get_or-take count text n 0 lt ∙ is)

    module _ (before start left next : ℕ) (place : IsFieldStart before start left) where
      -- a separator ends a field that is before the key
      pub field_passed : (less : ℕ) → left ≡ suc less → start ≤ next → next < count → NoneIn start next → get_or text next 0 ≡ c → IsFieldStart before (next + 1) less
      field_passed less is_more le lt none is = record {
        within = omega (arith, lt);
        same = place.same ∙ ap (λ fs. get_or fs left []) (next_field start next le lt none is) ∙ ap (λ k. get_or (take (next - start) (drop start text) ∷ fields_of c (line_from (next + 1))) k []) is_more;
        first = λ e. absurd (omega (arith, e));
        more = λ _. two_fields next lt is;
      }

      abbrev key : List ℕ
      key = key_of (Field before c) line

      of_many : (length (fields_of c line) ≡ 1 → ⊥) → key ≡ get_or (fields_of c line) before []
      of_many many = ap (λ t. cond t line (get_or (fields_of c line) before [])) (ne_eqb (length (fields_of c line)) 1 many)

      of_one : (e : fields_of c line ≡ line ∷ []) → key ≡ line
      of_one e = ap (λ n. cond (eqb n 1) line (get_or (fields_of c line) before [])) (ap length e)

      -- the key ends at a separator
      pub key_ended : left ≡ 0 → start ≤ next → next < count → NoneIn start next → get_or text next 0 ≡ c → key ≡ take (next - start) (drop start text)
      key_ended none_left le lt none is =
          of_many (two_fields next lt is) ∙ place.same ∙ ap (λ fs. get_or fs left []) (next_field start next le lt none is)
          ∙ ap (λ k. get_or (take (next - start) (drop start text) ∷ fields_of c (line_from (next + 1))) k []) none_left

      one_line : start ≡ 0 → NoneIn start count → fields_of c line ≡ line ∷ []
      one_line first none =
          let whole_line : line_from start ≡ line = ap line_from first ∙ from_begin in
          ap (fields_of c) (sym whole_line) ∙ last_field start place.within none ∙ ap (λ l. l ∷ []) whole_line

      -- a line without the separator is its own key
      pub key_whole : start ≡ 0 → NoneIn start count → key ≡ take (count - 0) (drop 0 text)
      key_whole first none = of_one (one_line first none) ∙ sym from_begin

      -- the key is the last field
      pub key_last : left ≡ 0 → NoneIn start count → key ≡ take (count - start) (drop start text)
      key_last none_left none = elim (cases_lt 0 start) [
        | inl lt ↦ of_many (place.more (λ e. omega (arith, lt, e))) ∙ place.same ∙ ap (λ fs. get_or fs left []) (last_field start place.within none) ∙ ap (λ k. get_or (line_from start ∷ []) k []) none_left
        | inr le ↦ let first : start ≡ 0 = omega (arith, le) in of_one (one_line first none) ∙ sym from_begin ∙ ap line_from (sym first)
      ]

      -- the line has fewer fields
      pub key_missing : (less : ℕ) → left ≡ suc less → (start ≡ 0 → ⊥) → NoneIn start count → key ≡ take (count - count) (drop count text)
      key_missing less is_more later none =
          let none_left : count - count ≡ 0 = omega arith in
          of_many (place.more later) ∙ place.same ∙ ap (λ fs. get_or fs left []) (last_field start place.within none) ∙ ap (λ k. get_or (line_from start ∷ []) k []) is_more
          ∙ sym (ap (λ k. take k (drop count text)) none_left)
