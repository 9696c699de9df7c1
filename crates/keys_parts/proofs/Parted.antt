-- The parts of a text hold its lines.
use Rattle.std.proofs.Common.{◌≡◌, ℕ, zero, suc, ◌+◌, ◌-◌, ◌*◌, ◌/◌, ◌<◌, ◌≤◌, List, [], ◌∷◌, ◌++◌, length, drop, sym, subst, ap, ◌∙◌, arith, append-nil}
use Rattle.std.proofs.lemmas.Nat.{le-div}
use Rattle.std.proofs.lemmas.List.FromFn.{map-range_with_len_more}
use Rattle.std.proofs.lemmas.List.Folds.{concat-append}
use Rattle.std.specs.List.{concat}
use Rattle.keys_lines.specs.Lines.{lines_of, lines_of_all}
use Rattle.keys_parts.specs.Parts.{ended_lines, lines_within, part_of, bound, places_of, part_within, first_parts, parts_of}
use Rattle.keys_parts.specs.Stages.{passed, skipped}
use Rattle.keys_parts.proofs.Scans.{passed_is, skipped_is}
use Rattle.keys_parts.proofs.Lines.{adjacent, adjacent_lines, none_within, all_within, ended_some, ended_concat, lines_of_all-append}

-- ---- ranges

div_least : (a b n : ℕ) → 0 < n → a ≤ b → a / n ≤ b / n
div_least a b n some le = le-div (a / n) b n some (omega arith)

pub bound_0 : (size parts : ℕ) → 0 < parts → bound size parts 0 ≡ 0
bound_0 size parts some = omega arith

pub bound_all : (size parts : ℕ) → 0 < parts → bound size parts parts ≡ size
bound_all size parts some = grind arith

pub bound_more : (size parts count : ℕ) → 0 < parts → bound size parts count ≤ bound size parts (count + 1)
bound_more size parts count some = div_least (size * count) (size * (count + 1)) parts some (omega arith)

-- ---- parts

module _ (text : List ℕ) (parts : ℕ) (some : 0 < parts) where
  -- the lines that begin before the end of so many parts
  abbrev front : ℕ → List (List ℕ)
  front count = lines_within 0 (bound (length text) parts count) 0 (ended_lines text)

  -- the part after so many
  abbrev next : ℕ → List ℕ
  next count = part_within (places_of (length text) parts count) text

  one_more : (count : ℕ) → first_parts text parts (count + 1) ≡ first_parts text parts count ++ next count ∷ []
  one_more count = map-range_with_len_more next 0 count count (omega arith)

  front_0 : front 0 ≡ []
  front_0 = none_within 0 (bound (length text) parts 0) (ended_lines text) 0 (omega (arith, bound_0 (length text) parts some))

  front_all : front parts ≡ ended_lines text
  front_all = all_within (bound (length text) parts parts) (ended_lines text) 0 (ended_some text) (omega (arith, bound_all (length text) parts some, ap length (ended_concat text)))

  joined_front : (count : ℕ) → concat (first_parts text parts count) ≡ concat (front count)
  joined_front zero = ap concat (sym front_0)
  joined_front (suc count) =
      let one : suc count ≡ count + 1 = omega arith in
      let split = adjacent 0 (bound (length text) parts count) (bound (length text) parts (count + 1)) (ended_lines text) 0 (omega arith) (bound_more (length text) parts count some) in
      subst (λ (n : ℕ). concat (first_parts text parts n) ≡ concat (front n)) (sym one) (
      ap concat (one_more count)
      ∙ concat-append (first_parts text parts count) (next count ∷ [])
      ∙ ap (λ bs. concat (first_parts text parts count) ++ bs) (append-nil (next count))
      ∙ ap (λ bs. bs ++ next count) (joined_front count)
      ∙ sym (concat-append (front count) (lines_within (bound (length text) parts count) (bound (length text) parts (count + 1)) 0 (ended_lines text)))
      ∙ ap concat (sym split))

  pub parts_joined : concat (parts_of text parts) ≡ text
  parts_joined = joined_front parts ∙ ap concat front_all ∙ ended_concat text

  lines_front : (count : ℕ) → lines_of_all (first_parts text parts count) ≡ lines_of (concat (front count))
  lines_front zero = ap (λ ls. lines_of (concat ls)) (sym front_0)
  lines_front (suc count) =
      let one : suc count ≡ count + 1 = omega arith in
      subst (λ (n : ℕ). lines_of_all (first_parts text parts n) ≡ lines_of (concat (front n))) (sym one) (
      ap lines_of_all (one_more count)
      ∙ lines_of_all-append (first_parts text parts count) (next count ∷ [])
      ∙ ap (λ ls. lines_of_all (first_parts text parts count) ++ ls) (append-nil (lines_of (next count)))
      ∙ ap (λ ls. ls ++ lines_of (next count)) (lines_front count)
      ∙ sym (adjacent_lines 0 (bound (length text) parts count) (bound (length text) parts (count + 1)) text (omega arith) (bound_more (length text) parts count some)))

  pub parts_lines : lines_of_all (parts_of text parts) ≡ lines_of text
  parts_lines = lines_front parts ∙ ap (λ ls. lines_of (concat ls)) front_all ∙ ap lines_of (ended_concat text)

-- the part that a reader of the text has, which stands before the first place
pub places_rest : (from to : ℕ) (text : List ℕ) → from < to → 0 < from → skipped (to - from) (drop (from - 1) text) ≡ part_of from to text
places_rest from to text some past =
    let low : from - 1 + 1 ≡ from = omega arith in
    let high : from - 1 + 1 + (to - from) ≡ to = omega arith in
    skipped_is text (from - 1) (to - from) ∙ ap (λ (n : ℕ). concat (lines_within n (from - 1 + 1 + (to - from)) 0 (ended_lines text))) low ∙ ap (λ (n : ℕ). concat (lines_within from n 0 (ended_lines text))) high

pub front_rest : (to : ℕ) (text : List ℕ) → 0 < to → passed (to - 1) text ≡ part_of 0 to text
front_rest to text some =
    let high : to - 1 + 1 ≡ to = omega arith in
    passed_is text (to - 1) ∙ ap (λ (n : ℕ). concat (lines_within 0 n 0 (ended_lines text))) high

pub empty_rest : (from to : ℕ) (text : List ℕ) → to ≤ from → [] ≡ part_of from to text
empty_rest from to text none = sym (ap concat (none_within from to (ended_lines text) 0 none))
