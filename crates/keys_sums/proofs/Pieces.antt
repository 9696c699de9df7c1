-- Pieces of a text, read one after another, and texts.
use Rattle.std.proofs.Common.{◌≡◌, ℕ, zero, suc, ◌+◌, ◌-◌, ◌^◌, List, [], ◌∷◌, ◌++◌, length, refl, sym, ap, subst, ◌∙◌, arith, append_assoc, append-nil}
use Rattle.std.specs.Prelude.{IsTrue, is_some, min, IfSome, Option, Some, None}
use Rattle.std.proofs.lemmas.Bool.Decides.{nat_tests}
use Rattle.std.proofs.lemmas.List.{length-append}
use Rattle.std.specs.Io.KnownBytes.{Consumes}
use Rattle.sketch_base.specs.declared.error.ErrorKind.{ErrorKind}
use Rattle.sketch_base.specs.declared.error.ErrorKind.TheVariants.{Policy}
use Rattle.keys_sketches.specs.Refusals.{HasFault}
use Rattle.keys_sketches.specs.Sources.{IsFirst, GivesNext, Continues}
use Rattle.keys_lines.specs.Lines.{lines_of, lines_of_all, lines_after, Lacks}
use Rattle.keys_lines.specs.declared.key.Hashing.{Hashing}
use Rattle.keys_lines.proofs.Texts.{lines_after-line, lines_after-lacking, lines_whole}
use Rattle.keys_sums.specs.Amounts.{amount_in, added_by, AreNumbers, IsOpenAddend}
use Rattle.keys_sums.specs.Sums.{summary_at, HasAdded, Summed}
use Rattle.tuple_sketches.specs.declared.numbers.SummaryMode.{SummaryMode}
use Rattle.tuple_sketches.specs.declared.numbers.SummaryMode.TheVariants.{Sum}
use Rattle.keys_sums.specs.Reading.{Ends, HasTaken}
use Rattle.keys_sums.specs.Refusals.{count_after, LacksNumber, LacksNumberIn, LacksNumberAt, LacksNumberOf, IsPast, IsByPolicy, IsPastIn}
use Rattle.keys_sums.proofs.Amounts.{summary_append}
use Rattle.keys_sums.specs.declared.summing.SumError.{SumError}
use Rattle.keys_sums.specs.declared.summing.SumError.TheVariants.{Refused, Failed, PastGreatest, NotANumber}
use Rattle.keys_sums.specs.declared.addends.Amount.{Amount}
use Rattle.keys_sums.specs.declared.addends.OpenAddend.{OpenAddend}

-- one line more
pub numbers_more : (amount : Amount) (lines : List (List ℕ)) (line : List ℕ) → AreNumbers amount lines → IsTrue (is_some (amount_in amount line)) → AreNumbers amount (lines ++ line ∷ [])
numbers_more amount [] line all some = (some, tt)
numbers_more amount (first ∷ lines) line all some = (all.0, numbers_more amount lines line all.1 some)

-- no piece ends no line
pub ends_nothing : (front : List ℕ) → Ends front [] [] front
ends_nothing front = λ more. refl

-- a piece with a line's end, behind one that left an open line
pub ends_line : (front taken left line : List ℕ) (ended : List (List ℕ)) → Ends front taken ended left → Lacks 10 line → Ends front (taken ++ (line ++ 10 ∷ [])) (ended ++ (left ++ line) ∷ []) []
ends_line front taken left line ended so_far lacks = λ more.
    ap (lines_after front) (append_assoc taken (line ++ 10 ∷ []) more)
    ∙ so_far ((line ++ 10 ∷ []) ++ more)
    ∙ ap (λ bs. ended ++ lines_after left bs) (append_assoc line (10 ∷ []) more)
    ∙ ap (λ ls. ended ++ ls) (lines_after-line left line more lacks)
    ∙ sym (append_assoc ended ((left ++ line) ∷ []) (lines_after [] more))

-- a piece without one
pub ends_none : (front taken left rest : List ℕ) (ended : List (List ℕ)) → Ends front taken ended left → Lacks 10 rest → Ends front (taken ++ rest) ended (left ++ rest)
ends_none front taken left rest ended so_far lacks = λ more.
    ap (lines_after front) (append_assoc taken rest more) ∙ so_far (rest ++ more) ∙ ap (λ ls. ended ++ ls) (lines_after-lacking left rest more lacks)

all_parted : (front : List (List ℕ)) (text : List ℕ) (back : List (List ℕ)) → lines_of_all (front ++ text ∷ back) ≡ lines_of_all front ++ (lines_of text ++ lines_of_all back)
all_parted [] text back = refl
all_parted (first ∷ front) text back = ap (λ ls. lines_of first ++ ls) (all_parted front text back) ∙ sym (append_assoc (lines_of first) (lines_of_all front) (lines_of text ++ lines_of_all back))

-- ---- counts of lines

count_both : (count first second : ℕ) → count_after (count_after count first) second ≡ count_after count (first + second)
count_both count first zero = let same : first ≡ first + 0 = omega arith in ap (count_after count) same
count_both count first (suc second) =
    let same : suc (first + second) ≡ first + suc second = omega arith in
    ap (λ n. min (n + 1) (2 ^ 64 - 1)) (count_both count first second) ∙ ap (count_after count) same

count_more : (count : ℕ) (ended more : List (List ℕ)) → count_after (count_after count (length ended)) (length more) ≡ count_after count (length (ended ++ more))
count_more count ended more = count_both count (length ended) (length more) ∙ ap (count_after count) (sym (length-append ended more))

count_from_start : (more : ℕ) → count_after 0 more ≡ min more (2 ^ 64 - 1)
count_from_start zero = refl
count_from_start (suc more) = ap (λ n. min (n + 1) (2 ^ 64 - 1)) (count_from_start more) ∙ least_again more
  where
    least_again : (n : ℕ) → min (min n (2 ^ 64 - 1) + 1) (2 ^ 64 - 1) ≡ min (suc n) (2 ^ 64 - 1)
    least_again n = grind (arith, nat_tests)

-- ---- lines of which one has no number

-- .. behind others
lacking_behind : (amount : Amount) (m n : ℕ) (front lines all : List (List ℕ)) (u : SumError) → front ++ lines ≡ all → n ≡ count_after m (length front) → LacksNumberIn amount n lines u → LacksNumberIn amount m all u
lacking_behind amount m n front lines all (NotANumber number start) whole counted lacking = record {
  before = front ++ lacking.before;
  line = lacking.line;
  others = lacking.others;
  parted = sym whole ∙ ap (λ ls. front ++ ls) lacking.parted ∙ sym (append_assoc front lacking.before (lacking.line ∷ lacking.others));
  none = lacking.none;
  numbered =
      lacking.numbered ∙ ap (λ k. min (count_after k (length lacking.before) + 1) (2 ^ 64 - 1)) counted
      ∙ ap (λ k. min (k + 1) (2 ^ 64 - 1)) (count_more m front lacking.before);
  quoted = lacking.quoted;
}
lacking_behind amount m n front lines all (Refused kind) whole counted lacking = tt
lacking_behind amount m n front lines all (Failed error) whole counted lacking = tt
lacking_behind amount m n front lines all (PastGreatest number) whole counted lacking = tt

-- .. that is the only one
pub lacking_alone : (amount : Amount) (line : List ℕ) (count : ℕ) (u : SumError) → LacksNumber amount line count u → LacksNumberIn amount count (line ∷ []) u
lacking_alone amount line count (NotANumber number start) lacking = record { before = []; line = line; others = []; parted = refl; none = lacking.0; numbered = lacking.1; quoted = lacking.2 }
lacking_alone amount line count (Refused kind) lacking = tt
lacking_alone amount line count (Failed error) lacking = tt
lacking_alone amount line count (PastGreatest number) lacking = tt

-- .. by its number in a text
lacking_at : (amount : Amount) (text : List ℕ) (u : SumError) → LacksNumberIn amount 0 (lines_of text) u → LacksNumberAt amount text u
lacking_at amount text (NotANumber number start) lacking = record {
  before = lacking.before;
  line = lacking.line;
  others = lacking.others;
  parted = lacking.parted;
  none = lacking.none;
  numbered =
      let same : suc (length lacking.before) ≡ length lacking.before + 1 = omega arith in
      lacking.numbered ∙ count_from_start (suc (length lacking.before)) ∙ ap (λ n. min n (2 ^ 64 - 1)) same;
  quoted = lacking.quoted;
}
lacking_at amount text (Refused kind) lacking = tt
lacking_at amount text (Failed error) lacking = tt
lacking_at amount text (PastGreatest number) lacking = tt

-- one of the texts has such a line
pub lacking_texts : (amount : Amount) (u : SumError) (texts : List (List ℕ)) → HasFault (λ text. LacksNumberAt amount text u) texts → LacksNumberOf amount texts u
lacking_texts amount (NotANumber number start) texts fault = fault
lacking_texts amount (Refused kind) texts fault = tt
lacking_texts amount (Failed error) texts fault = tt
lacking_texts amount (PastGreatest number) texts fault = tt

-- ---- a sum of 2^64 or more among the sums of lines

past_before : (mode : SummaryMode) (hashing : Hashing) (amount : List ℕ → ℕ) (lines back all : List (List ℕ)) → lines ++ back ≡ all → IsPast mode hashing amount lines → IsPast mode hashing amount all
past_before mode hashing amount lines back all whole past =
    let h : ℕ = past.1.0 in
    let same : summary_at Sum hashing amount (lines ++ back) h ≡ summary_at Sum hashing amount all h = ap (λ (ls : List (List ℕ)). summary_at Sum hashing amount ls h) whole in
    (past.0, (h, omega (arith, summary_append Sum hashing amount lines back h, same, past.1.1)))

past_among : (mode : SummaryMode) (hashing : Hashing) (amount : Amount) (lines back all : List (List ℕ)) (u : SumError) → lines ++ back ≡ all → IsPastIn mode hashing amount lines u → IsPastIn mode hashing amount all u
past_among mode hashing amount lines back all (PastGreatest number) whole past = past_before mode hashing (added_by amount) lines back all whole past
past_among mode hashing amount lines back all (Refused kind) whole past = tt
past_among mode hashing amount lines back all (Failed error) whole past = tt
past_among mode hashing amount lines back all (NotANumber number start) whole past = tt

-- what is reported of an addition that the policy refused
pub past_policy : (mode : SummaryMode) (hashing : Hashing) (amount : Amount) (lines : List (List ℕ)) (kind : ErrorKind) (u : SumError) → IsByPolicy kind u → (kind ≡ Policy → IsPast mode hashing (added_by amount) lines) → IsPastIn mode hashing amount lines u
past_policy mode hashing amount lines kind (PastGreatest number) policy past = past policy
past_policy mode hashing amount lines kind (Refused other) policy past = tt
past_policy mode hashing amount lines kind (Failed error) policy past = tt
past_policy mode hashing amount lines kind (NotANumber number start) policy past = tt

module _ (hashing : Hashing) (amount : Amount) where
  -- nothing was read yet
  pub taken_nothing : (front : List ℕ) (s : Summed) (last : OpenAddend) (count : ℕ) → IsOpenAddend hashing amount front last → HasTaken hashing amount front [] s s last count count
  taken_nothing front s last count is = record {
    ended = [];
    left = front;
    ends = ends_nothing front;
    counts = refl;
    is_open = is;
    added = λ mode lg_k lines has. subst (λ (ls : List (List ℕ)). HasAdded mode hashing amount lg_k ls s) (sym (append-nil lines)) has;
  }

  -- one line more ended
  pub taken_line : (front taken line : List ℕ) (r s t : Summed) (last next : OpenAddend) (count counted more : ℕ) (was : HasTaken hashing amount front taken r s last count counted) → Lacks 10 line →
      IsOpenAddend hashing amount [] next → more ≡ min (counted + 1) (2 ^ 64 - 1) →
      ((mode : SummaryMode) (lg_k : ℕ) (lines : List (List ℕ)) → HasAdded mode hashing amount lg_k lines s → HasAdded mode hashing amount lg_k (lines ++ (was.left ++ line) ∷ []) t) → HasTaken hashing amount front (taken ++ (line ++ 10 ∷ [])) r t next count more
  taken_line front taken line r s t last next count counted more was lacks is one step = record {
    ended = was.ended ++ (was.left ++ line) ∷ [];
    left = [];
    ends = ends_line front taken was.left line was.ended was.ends lacks;
    counts = one ∙ ap (λ n. min (n + 1) (2 ^ 64 - 1)) was.counts ∙ count_more count was.ended ((was.left ++ line) ∷ []);
    is_open = is;
    added = λ mode lg_k lines has.
        subst (λ (ls : List (List ℕ)). HasAdded mode hashing amount lg_k ls t) (append_assoc lines was.ended ((was.left ++ line) ∷ [])) (step mode lg_k (lines ++ was.ended) (was.added mode lg_k lines has));
  }

  -- the rest of a block, in which no line ends
  pub taken_rest : (front taken rest : List ℕ) (r s : Summed) (last next : OpenAddend) (count counted : ℕ) (was : HasTaken hashing amount front taken r s last count counted) → Lacks 10 rest →
      IsOpenAddend hashing amount (was.left ++ rest) next → HasTaken hashing amount front (taken ++ rest) r s next count counted
  taken_rest front taken rest r s last next count counted was lacks is = record {
    ended = was.ended;
    left = was.left ++ rest;
    ends = ends_none front taken was.left rest was.ended was.ends lacks;
    counts = was.counts;
    is_open = is;
    added = was.added;
  }

  -- one block more was read
  pub taken_both : (front piece block : List ℕ) (r s t : Summed) (last next : OpenAddend) (count counted more : ℕ) (first : HasTaken hashing amount front piece r s last count counted) →
      HasTaken hashing amount first.left block s t next counted more → HasTaken hashing amount front (piece ++ block) r t next count more
  taken_both front piece block r s t last next count counted more first second = record {
    ended = first.ended ++ second.ended;
    left = second.left;
    ends = λ more.
        ap (lines_after front) (append_assoc piece block more) ∙ first.ends (block ++ more) ∙ ap (λ ls. first.ended ++ ls) (second.ends more) ∙ sym (append_assoc first.ended second.ended (lines_after second.left more));
    counts = second.counts ∙ ap (λ n. count_after n (length second.ended)) first.counts ∙ count_more count first.ended second.ended;
    is_open = second.is_open;
    added = λ mode lg_k lines has.
        subst (λ (ls : List (List ℕ)). HasAdded mode hashing amount lg_k ls t) (append_assoc lines first.ended second.ended) (second.added mode lg_k (lines ++ first.ended) (first.added mode lg_k lines has));
  }

  whole_text : (text : List ℕ) (r s : Summed) (last : OpenAddend) (count counted : ℕ) (all : HasTaken hashing amount [] text r s last count counted) → all.ended ++ lines_after all.left [] ≡ lines_of text
  whole_text text r s last count counted all = sym (all.ends []) ∙ ap (lines_after []) (append-nil text) ∙ lines_whole text

  -- at the end of a text
  pub taken_all : (mode : SummaryMode) (lg_k : ℕ) (lines : List (List ℕ)) (text : List ℕ) (r s t : Summed) (last : OpenAddend) (count counted : ℕ) (all : HasTaken hashing amount [] text r s last count counted) →
      HasAdded mode hashing amount lg_k ((lines ++ all.ended) ++ lines_after all.left []) t → HasAdded mode hashing amount lg_k (lines ++ lines_of text) t
  taken_all mode lg_k lines text r s t last count counted all has =
      subst (λ (ls : List (List ℕ)). HasAdded mode hashing amount lg_k ls t) (append_assoc lines all.ended (lines_after all.left []) ∙ ap (λ ls. lines ++ ls) (whole_text text r s last count counted all)) has

  -- ---- a line that has no number

  -- .. is the last of a text
  pub lacking_end : (text : List ℕ) (u : SumError) (r s : Summed) (last : OpenAddend) (counted : ℕ) (all : HasTaken hashing amount [] text r s last 0 counted) → LacksNumberIn amount counted (lines_after all.left []) u → LacksNumberAt amount text u
  lacking_end text u r s last counted all lacking =
      lacking_at amount text u (lacking_behind amount 0 counted all.ended (lines_after all.left []) (lines_of text) u (whole_text text r s last 0 counted all) all.counts lacking)

  -- the lines around one that a block ends
  line_parted : (front taken line others more block : List ℕ) (r s : Summed) (last : OpenAddend) (count counted : ℕ) (was : HasTaken hashing amount front taken r s last count counted) → Lacks 10 line → block ≡ taken ++ (line ++ 10 ∷ others) →
      lines_after front (block ++ more) ≡ was.ended ++ (was.left ++ line) ∷ lines_after [] (others ++ more)
  line_parted front taken line others more block r s last count counted was lacks parted =
      ap (λ (bs : List ℕ). lines_after front (bs ++ more)) parted
      ∙ ap (lines_after front) (
      append_assoc taken (line ++ 10 ∷ others) more ∙ ap (λ bs. taken ++ bs) (append_assoc line (10 ∷ others) more ∙ sym (append_assoc line (10 ∷ []) (others ++ more))) ∙ sym (append_assoc taken (line ++ 10 ∷ []) (others ++ more))
      )
      ∙ ends_line front taken was.left line was.ended was.ends lacks (others ++ more)
      ∙ append_assoc was.ended ((was.left ++ line) ∷ []) (lines_after [] (others ++ more))

  -- .. is one of the lines that a block ends
  pub lacking_line : (front taken line others more block : List ℕ) (count counted : ℕ) (u : SumError) (r s : Summed) (last : OpenAddend) (was : HasTaken hashing amount front taken r s last count counted) → Lacks 10 line →
      block ≡ taken ++ (line ++ 10 ∷ others) → LacksNumber amount (was.left ++ line) counted u → LacksNumberIn amount count (lines_after front (block ++ more)) u
  lacking_line front taken line others more block count counted (NotANumber number start) r s last was lacks parted lacking = record {
    before = was.ended;
    line = was.left ++ line;
    others = lines_after [] (others ++ more);
    parted = line_parted front taken line others more block r s last count counted was lacks parted;
    none = lacking.0;
    numbered = lacking.1 ∙ ap (λ n. min (n + 1) (2 ^ 64 - 1)) was.counts;
    quoted = lacking.2;
  }
  lacking_line front taken line others more block count counted (Refused kind) r s last was lacks parted lacking = tt
  lacking_line front taken line others more block count counted (Failed error) r s last was lacks parted lacking = tt
  lacking_line front taken line others more block count counted (PastGreatest number) r s last was lacks parted lacking = tt

  -- the lines of a text, by those of its first bytes
  text_parted : (text more read block : List ℕ) (r s : Summed) (last : OpenAddend) (count counted : ℕ) (was : HasTaken hashing amount [] read r s last count counted) → text ≡ (read ++ block) ++ more →
      was.ended ++ lines_after was.left (block ++ more) ≡ lines_of text
  text_parted text more read block r s last count counted was parted =
      sym (was.ends (block ++ more)) ∙ ap (lines_after []) (sym (append_assoc read block more) ∙ sym parted) ∙ lines_whole text

  -- .. is one of the lines of a text whose first bytes are read
  pub lacking_text : (o new : Option (List ℕ)) (read block : List ℕ) (u : SumError) (r s : Summed) (last : OpenAddend) (counted : ℕ) (was : HasTaken hashing amount [] read r s last 0 counted) → Consumes o new (read ++ block) →
      ((more : List ℕ) → LacksNumberIn amount counted (lines_after was.left (block ++ more)) u) → IfSome o (λ text. LacksNumberAt amount text u)
  lacking_text None new read block u r s last counted was consumes lacking = tt
  lacking_text (Some text) None read block u r s last counted was consumes lacking = absurd consumes
  lacking_text (Some text) (Some more) read block u r s last counted was consumes lacking =
      lacking_at amount text u
      (lacking_behind amount 0 counted was.ended (lines_after was.left (block ++ more)) (lines_of text) u (text_parted text more read block r s last 0 counted was consumes) was.counts (lacking more))

  -- ---- a sum of 2^64 or more

  -- .. with a line that a block ends
  pub past_block : (mode : SummaryMode) (lines : List (List ℕ)) (front taken line others more block : List ℕ) (u : SumError) (r s : Summed) (last : OpenAddend) (count counted : ℕ) (was : HasTaken hashing amount front taken r s last count counted) → Lacks 10 line →
      block ≡ taken ++ (line ++ 10 ∷ others) → IsPastIn mode hashing amount ((lines ++ was.ended) ++ (was.left ++ line) ∷ []) u → IsPastIn mode hashing amount (lines ++ lines_after front (block ++ more)) u
  past_block mode lines front taken line others more block u r s last count counted was lacks parted past =
      let back : List (List ℕ) = lines_after [] (others ++ more) in
      past_among mode hashing amount ((lines ++ was.ended) ++ (was.left ++ line) ∷ []) back (lines ++ lines_after front (block ++ more)) u
      (append_assoc (lines ++ was.ended) ((was.left ++ line) ∷ []) back ∙ append_assoc lines was.ended ((was.left ++ line) ∷ back) ∙ ap (λ ls. lines ++ ls) (sym (line_parted front taken line others more block r s last count counted was lacks parted)))
      past

  -- .. with the last line of a text
  pub past_end : (mode : SummaryMode) (lines : List (List ℕ)) (text : List ℕ) (u : SumError) (r s : Summed) (last : OpenAddend) (count counted : ℕ) (all : HasTaken hashing amount [] text r s last count counted) →
      IsPastIn mode hashing amount ((lines ++ all.ended) ++ lines_after all.left []) u → IsPastIn mode hashing amount (lines ++ lines_of text) u
  past_end mode lines text u r s last count counted all past =
      subst (λ (ls : List (List ℕ)). IsPastIn mode hashing amount ls u) (append_assoc lines all.ended (lines_after all.left []) ∙ ap (λ ls. lines ++ ls) (whole_text text r s last count counted all)) past

  -- .. with a line of a text whose first bytes are read
  pub past_text : (mode : SummaryMode) (lines : List (List ℕ)) (o new : Option (List ℕ)) (read block : List ℕ) (u : SumError) (r s : Summed) (last : OpenAddend) (count counted : ℕ) (was : HasTaken hashing amount [] read r s last count counted) → Consumes o new (read ++ block) →
      ((more : List ℕ) → IsPastIn mode hashing amount ((lines ++ was.ended) ++ lines_after was.left (block ++ more)) u) → IfSome o (λ text. IsPastIn mode hashing amount (lines ++ lines_of text) u)
  past_text mode lines None new read block u r s last count counted was consumes past = tt
  past_text mode lines (Some text) None read block u r s last count counted was consumes past = absurd consumes
  past_text mode lines (Some text) (Some more) read block u r s last count counted was consumes past =
      subst (λ (ls : List (List ℕ)). IsPastIn mode hashing amount ls u)
      (append_assoc lines was.ended (lines_after was.left (block ++ more)) ∙ ap (λ ls. lines ++ ls) (text_parted text more read block r s last count counted was consumes)) (past more)

  -- .. with a line of the next text
  pub past_next : {S : Type 0} (mode : SummaryMode) (lg_k : ℕ) (remaining : S → Option (List ℕ)) (old now new : Option (List (List ℕ))) (o : Option S) (source : S) (u : SumError) (s : Summed) →
      Continues old now (λ taken. HasAdded mode hashing amount lg_k (lines_of_all taken) s) → GivesNext remaining now new o → o ≡ Some source →
      ((lines : List (List ℕ)) → HasAdded mode hashing amount lg_k lines s → IfSome (remaining source) (λ text. IsPastIn mode hashing amount (lines ++ lines_of text) u)) → IfSome old (λ all. IsPastIn mode hashing amount (lines_of_all all) u)
  past_next mode lg_k remaining None now new o source u s so_far gives is past = tt
  past_next mode lg_k remaining (Some texts) None new o source u s so_far gives is past = absurd so_far
  past_next mode lg_k remaining (Some texts) (Some left) new o source u s so_far gives is past =
      let first : IsFirst remaining left source new = subst (GivesNext remaining (Some left) new) is gives in
      let here : IsPastIn mode hashing amount (lines_of_all so_far.0 ++ lines_of first.text) u =
      subst (λ (t : Option (List ℕ)). IfSome t (λ text. IsPastIn mode hashing amount (lines_of_all so_far.0 ++ lines_of text) u)) first.has (past (lines_of_all so_far.0) so_far.2) in
      past_among mode hashing amount (lines_of_all so_far.0 ++ lines_of first.text) (lines_of_all first.texts_left) (lines_of_all texts) u
      (append_assoc (lines_of_all so_far.0) (lines_of first.text) (lines_of_all first.texts_left) ∙ sym (all_parted so_far.0 first.text first.texts_left) ∙ ap lines_of_all (sym (so_far.1 ∙ ap (λ ts. so_far.0 ++ ts) first.parted)))
      here

-- the lines of texts and of one more
pub lines_more : (texts : List (List ℕ)) (text : List ℕ) → lines_of_all texts ++ lines_of text ≡ lines_of_all (texts ++ text ∷ [])
lines_more [] text = sym (append-nil (lines_of text))
lines_more (first ∷ texts) text = append_assoc (lines_of first) (lines_of_all texts) (lines_of text) ∙ ap (λ ls. lines_of first ++ ls) (lines_more texts text)
