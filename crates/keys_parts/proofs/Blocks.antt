-- What a block of bytes has of a part, and what a reader of a part has left after a read.
use Rattle.std.proofs.Common.{◌≡◌, ℕ, ◌+◌, ◌-◌, ◌≤◌, List, [], ◌∷◌, ◌++◌, length, take, drop, Option, None, Some, refl, sym, subst, ap, ◌∙◌, arith, append_assoc, append-nil, take_all, length-append, take-append-drop}
use Rattle.std.proofs.Math.Seq.{take-append_seam, drop-append_seam, take-length, take-append-add}
use Rattle.std.proofs.lemmas.List.{length-take-le, take-take}
use Rattle.std.specs.Io.KnownBytes.{Consumes}
use Rattle.std.specs.Option.{option_map}
use Rattle.std.specs.List.{copy_within}
use Rattle.keys_lines.specs.Lines.{Lacks}
use Rattle.keys_parts.specs.declared.stage.Stage.{Stage}
use Rattle.keys_parts.specs.declared.stage.Stage.TheVariants.{Whole, Skipping, Passing, Ended}
use Rattle.keys_parts.specs.Stages.{passed, skipped, rest_of, BeginsAfter}
use Rattle.keys_parts.proofs.Scans.{passed-front, passed-lacking, passed-line, skipped-line}

-- ---- what is passed on of a block

pub passed_block : (block more : List ℕ) (before : ℕ) → length block ≤ before → passed before (block ++ more) ≡ take (length block) block ++ passed (before - length block) more
passed_block block more before h = passed-front block more before h ∙ ap (λ bs. bs ++ passed (before - length block) more) (sym (take-length block))

passed_from : (front rest : List ℕ) → passed (length front) (front ++ rest) ≡ front ++ passed 0 rest
passed_from front rest =
    let none : length front - length front ≡ 0 = omega arith in
    passed-front front rest (length front) (omega arith) ∙ ap (λ (n : ℕ). front ++ passed n rest) none

-- the line ends in the block
passed_through : (front line rest more : List ℕ) → Lacks 10 line → passed (length front) ((front ++ (line ++ 10 ∷ rest)) ++ more) ≡ take (length front + length line + 1) (front ++ (line ++ 10 ∷ rest)) ++ []
passed_through front line rest more lacks =
    let ended = line ++ 10 ∷ [] in
    let long : length ended ≡ length line + 1 = length-append line (10 ∷ []) in
    let count : length front + length line + 1 ≡ length front + length ended = omega arith in
    let shown : take (length front + length line + 1) (front ++ (line ++ 10 ∷ rest)) ≡ front ++ ended =
    ap (λ (n : ℕ). take n (front ++ (line ++ 10 ∷ rest))) count
    ∙ take-append-add front (line ++ 10 ∷ rest) (length ended)
    ∙ ap (λ bs. front ++ take (length ended) bs) (sym (append_assoc line (10 ∷ []) rest))
    ∙ ap (λ bs. front ++ bs) (take-append_seam ended rest) in
    ap (passed (length front)) (append_assoc front (line ++ 10 ∷ rest) more)
    ∙ passed_from front ((line ++ 10 ∷ rest) ++ more)
    ∙ ap (λ bs. front ++ passed 0 bs) (append_assoc line (10 ∷ rest) more)
    ∙ ap (λ bs. front ++ bs) (passed-line line (rest ++ more) lacks)
    ∙ sym shown
    ∙ sym (append-nil (take (length front + length line + 1) (front ++ (line ++ 10 ∷ rest))))

pub passed_end : (block line rest more : List ℕ) (before : ℕ) → before ≤ length block → drop before block ≡ line ++ 10 ∷ rest → Lacks 10 line → passed before (block ++ more) ≡ take (before + length line + 1) block ++ []
passed_end block line rest more before fits parts lacks =
    let front = take before block in
    let split : front ++ (line ++ 10 ∷ rest) ≡ block = ap (λ bs. front ++ bs) (sym parts) ∙ take-append-drop before block in
    let long : length front ≡ before = length-take-le before block fits in
    let all = passed_through front line rest more lacks in
    let placed = subst (λ (n : ℕ). passed n ((front ++ (line ++ 10 ∷ rest)) ++ more) ≡ take (n + length line + 1) (front ++ (line ++ 10 ∷ rest)) ++ []) long all in
    subst (λ bs. passed before (bs ++ more) ≡ take (before + length line + 1) bs ++ []) split placed

-- the line goes on after the block
pub passed_on : (block more : List ℕ) (before : ℕ) → before ≤ length block → Lacks 10 (drop before block) → passed before (block ++ more) ≡ take (length block) block ++ passed 0 more
passed_on block more before fits lacks =
    let front = take before block in
    let behind = drop before block in
    let split : front ++ behind ≡ block = take-append-drop before block in
    let long : length front ≡ before = length-take-le before block fits in
    let all : passed (length front) ((front ++ behind) ++ more) ≡ (front ++ behind) ++ passed 0 more =
    ap (passed (length front)) (append_assoc front behind more)
    ∙ passed_from front (behind ++ more)
    ∙ ap (λ bs. front ++ bs) (passed-lacking behind more lacks)
    ∙ sym (append_assoc front behind (passed 0 more)) in
    let placed = subst (λ (n : ℕ). passed n ((front ++ behind) ++ more) ≡ (front ++ behind) ++ passed 0 more) long all in
    subst (λ bs. passed before (bs ++ more) ≡ bs ++ passed 0 more) split placed ∙ ap (λ bs. bs ++ passed 0 more) (sym (take-length block))

-- ---- what is skipped of a block

pub front_begins : (count looked : ℕ) (block line rest : List ℕ) → looked ≤ count → looked ≤ length block → take looked block ≡ line ++ 10 ∷ rest → Lacks 10 line → BeginsAfter count block (length line + 1)
front_begins count looked block line rest few fits parts lacks =
    let long : length (take looked block) ≡ length line + length (10 ∷ rest) = ap length parts ∙ length-append line (10 ∷ rest) in
    let short : length (take looked block) ≡ looked = length-take-le looked block fits in (
      line,
      rest ++ drop looked block,
      lacks,
      sym (take-append-drop looked block) ∙ ap (λ bs. bs ++ drop looked block) parts ∙ append_assoc line (10 ∷ rest) (drop looked block),
      refl,
      omega (arith, long, short, few),
    )

behind_line : (line others : List ℕ) → drop (length line + 1) (line ++ 10 ∷ others) ≡ others
behind_line line others =
    let ended = line ++ 10 ∷ [] in
    let long : length line + 1 ≡ length ended = sym (length-append line (10 ∷ [])) in
    ap (λ (n : ℕ). drop n (line ++ 10 ∷ others)) long ∙ ap (drop (length ended)) (sym (append_assoc line (10 ∷ []) others)) ∙ drop-append_seam ended others

-- the front of a list that is copied to another list's front
copied_front : (others rest : List ℕ) (count : ℕ) → count ≡ length others → take count (take count others ++ rest) ≡ others
copied_front others rest count is =
    let whole : take count others ≡ others = take_all count others (omega arith) in
    ap (λ bs. take count (bs ++ rest)) whole ∙ ap (λ (n : ℕ). take n (others ++ rest)) is ∙ take-append_seam others rest

-- the block behind the first LF is moved to the front
moved : (line others : List ℕ) → take (length (line ++ 10 ∷ others) - (length line + 1)) (copy_within (line ++ 10 ∷ others) (length line + 1) (length (line ++ 10 ∷ others)) 0) ≡ others
moved line others =
    let block = line ++ 10 ∷ others in
    let long : length block ≡ length line + length (10 ∷ others) = length-append line (10 ∷ others) in
    let count : length block - (length line + 1) ≡ length others = omega arith in
    ap (λ bs. take (length block - (length line + 1)) (take (length block - (length line + 1)) bs ++ drop (0 + (length block - (length line + 1))) block)) (behind_line line others)
    ∙ copied_front others (drop (0 + (length block - (length line + 1))) block) (length block - (length line + 1)) count

pub skip_found : (block more new rest : List ℕ) (count end shown : ℕ) → BeginsAfter count block end → new ≡ copy_within block end (length block) 0 → shown ≤ length block - end
    → passed (count - end) (take (length block - end) new ++ more) ≡ take shown (take (length block - end) new) ++ rest
    → skipped count (block ++ more) ≡ take shown new ++ rest
skip_found block more new rest count end shown begins copied within passes =
    let line = begins.0 in
    let others = begins.1 in
    let placed : take (length block - end) new ≡ others =
    ap (take (length block - end)) copied
    ∙ ap (λ bs. take (length bs - end) (copy_within bs end (length bs) 0)) begins.3
    ∙ ap (λ (n : ℕ). take (length (line ++ 10 ∷ others) - n) (copy_within (line ++ 10 ∷ others) n (length (line ++ 10 ∷ others)) 0)) begins.4
    ∙ moved line others in
    let few : length line + 1 ≤ count = omega (arith, begins.4, begins.5) in
    ap (λ bs. skipped count (bs ++ more)) begins.3
    ∙ ap (skipped count) (append_assoc line (10 ∷ others) more)
    ∙ skipped-line line (others ++ more) count few begins.2
    ∙ ap (λ (n : ℕ). passed (count - n) (others ++ more)) (sym begins.4)
    ∙ ap (λ bs. passed (count - end) (bs ++ more)) (sym placed)
    ∙ passes
    ∙ ap (λ bs. bs ++ rest) (take-take shown (length block - end) new within)

-- ---- readers

rest_of-nil : (stage : Stage) → rest_of stage [] ≡ []
rest_of-nil Whole = refl
rest_of-nil (Skipping count) = refl
rest_of-nil (Passing before) = refl
rest_of-nil Ended = refl

-- a read of the text's reader gives a part's reader so many bytes
pub part_consumes : (a b : Option (List ℕ)) (stage after : Stage) (block shown : List ℕ) → Consumes a b block → ((more : List ℕ) → rest_of stage (block ++ more) ≡ shown ++ rest_of after more) → Consumes (option_map (rest_of stage) a) (option_map (rest_of after) b) shown
part_consumes None b stage after block shown read leaves = tt
part_consumes (Some xs) None stage after block shown read leaves = absurd read
part_consumes (Some xs) (Some ys) stage after block shown read leaves = ap (rest_of stage) read ∙ leaves ys
