-- The totals of groups of lines: one line more, and the groups in their order.
use Rattle.std.proofs.Common.{ℕ, ◌≡◌, ◌+◌, ◌^◌, ◌<◌, Bool, true, false, cond, List, [], ◌∷◌, ◌++◌, length, map, Option, Some, None, Vec, refl, sym, ap, ◌∙◌, subst, inl, inr, arith}
use Rattle.std.specs.Prelude.{◌⊎◌, IsSome, is_some, min, unwrap_or}
use Rattle.std.specs.List.{filter}
use Rattle.std.specs.List.Sorted.{IsStrictlySortedBy}
use Rattle.std.specs.Str.{bytes_eq}
use Rattle.std.specs.Cmp.Lexicographic.{slice_cmp, bytes_decides, nat_list_eq_equiv}
use Rattle.std.specs.Ordering.{nat_cmp}
use Rattle.std.specs.Map.{keys_of}
use Rattle.std.specs.BTreeMap.{BTreeMap}
use Rattle.std.proofs.lemmas.Bool.Decides.{nat_tests}
use Rattle.keys_lines.specs.Keys.{key_of}
use Rattle.keys_lines.specs.declared.key.Key.{Key}
use Rattle.keys_sketches.specs.Keys.{IsAmong}
use Rattle.keys_sums.specs.Amounts.{added_by, amount_in}
use Rattle.keys_sums.specs.Sums.{total_added, GREATEST_TOTAL}
use Rattle.keys_sums.specs.declared.addends.Amount.{Amount}
use Rattle.keys_sums.proofs.Adding.{total_more, capped_more}
use Rattle.keys_sums.proofs.Pieces.{numbers_more}
use Rattle.keys_groups.specs.Groups.{lines_in, AreGroups}
use Rattle.keys_groups.specs.Names.{texts_of}
use Rattle.keys_groups.proofs.Entries.{value_at, texts_ascend, among_texts, has_value}
use Rattle.keys_groups.proofs.ImagesInGroups.{EachEntry, each_entry}
use Rattle.keys_groups.proofs.LinesInGroups.{filter_more}
use Rattle.keys_totals.specs.Totals.{total_of, group_total, total_at, total_if_any, total_after, AreTotalled, AddsTotal, AreTotals}

-- a number alone is counted as it is
pub first_total : (number : ℕ) → number < 2 ^ 64 → total_after 0 number ≡ number
first_total number small = grind (arith, nat_tests, small)

-- the total of one line more
total_if-more : (amount : Amount) (lines : List (List ℕ)) (line : List ℕ) (number : ℕ) → amount_in amount line ≡ Some number →
    total_if_any amount (lines ++ line ∷ []) ≡ Some (total_after (unwrap_or (total_if_any amount lines) 0) number)
total_if-more amount [] line number is =
    let adds : added_by amount line ≡ number = ap (λ (o : Option ℕ). unwrap_or o 0) is in
    let sum : added_by amount line + 0 ≡ 0 + number = omega (arith, adds) in
    ap (λ n. Some (min n GREATEST_TOTAL)) sum
total_if-more amount (first ∷ lines) line number is =
    let total = total_added (added_by amount) (first ∷ lines) in
    let adds : added_by amount line ≡ number = ap (λ (o : Option ℕ). unwrap_or o 0) is in
    ap Some (ap (λ n. min n GREATEST_TOTAL) (total_more (added_by amount) (first ∷ lines) line ∙ ap (λ n. total + n) adds) ∙ sym (capped_more total number GREATEST_TOTAL))

-- the total that is there is that of the lines
total_is : (amount : Amount) (lines : List (List ℕ)) (total : ℕ) → Some total ≡ total_if_any amount lines → total ≡ total_of amount lines
total_is amount [] total is = absurd (cc)
total_is amount (line ∷ lines) total is = ap (λ (o : Option ℕ). unwrap_or o 0) is

module _ (by : Key) (amount : Amount) where
  -- a group with a line has the name of one, and the other way round
  name_among : (name : List ℕ) (lines : List (List ℕ)) → IsSome (total_if_any amount (lines_in by name lines)) → IsAmong name (map (key_of by) lines)
  name_among name [] some = absurd (cc)
  name_among name (line ∷ lines) some =
      (elim (bytes_eq (key_of by line) name) as (λ b. bytes_eq (key_of by line) name ≡ b → IsSome (total_if_any amount (cond b (line ∷ lines_in by name lines) (lines_in by name lines))) → (name ≡ key_of by line) ⊎ IsAmong name (map (key_of by) lines)) [
        | true ↦ λ same here. inl (sym ((bytes_decides (key_of by line) name).0 same))
        | false ↦ λ apart there. inr (name_among name lines there)
      ]) refl some

  some_cond : (b : Bool) (line : List ℕ) (lines : List (List ℕ)) → IsSome (total_if_any amount lines) → IsSome (total_if_any amount (cond b (line ∷ lines) lines))
  some_cond true line lines some = refl
  some_cond false line lines some = some

  has_total : (name : List ℕ) (lines : List (List ℕ)) → IsAmong name (map (key_of by) lines) → IsSome (total_if_any amount (lines_in by name lines))
  has_total name [] among = absurd among
  has_total name (line ∷ lines) (inl same) =
      subst (λ (b : Bool). IsSome (total_if_any amount (cond b (line ∷ lines_in by name lines) (lines_in by name lines)))) (sym (ap (λ k. bytes_eq k name) (sym same) ∙ nat_list_eq_equiv.refl name)) refl
  has_total name (line ∷ lines) (inr among) = some_cond (bytes_eq (key_of by line) name) line (lines_in by name lines) (has_total name lines among)

  module _ {A : Type 0} where
    -- what a line adds was added to the total of its group
    pub totalled_more : (lines : List (List ℕ)) (line : List ℕ) (number : ℕ) (m n : BTreeMap (Vec ℕ A) ℕ) → amount_in amount line ≡ Some number → AreTotalled by amount lines m → AddsTotal (key_of by line) number m n → AreTotalled by amount (lines ++ line ∷ []) n
    totalled_more lines line number m n is has adds = record {
      numbers = numbers_more amount lines line has.numbers (ap (λ (o : Option ℕ). is_some o) is);
      own = λ name.
          let own = key_of by line in
          let test : List ℕ → Bool = λ l. bytes_eq (key_of by l) name in
          adds name
          ∙ (elim (bytes_eq own name) as (λ b. bytes_eq own name ≡ b → cond b (Some (total_after (unwrap_or (total_at m own) 0) number)) (total_at m name) ≡ total_if_any amount (filter test (lines ++ line ∷ []))) [
            | true ↦ λ same.
                ap (λ (o : Option ℕ). Some (total_after (unwrap_or o 0) number)) (has.own own ∙ ap (λ k. total_if_any amount (lines_in by k lines)) ((bytes_decides own name).0 same))
                ∙ sym (total_if-more amount (filter test lines) line number is)
                ∙ ap (total_if_any amount) (sym (filter_more test lines line ∙ ap (λ b. cond b (filter test lines ++ line ∷ []) (filter test lines)) same))
            | false ↦ λ apart.
                has.own name ∙ ap (total_if_any amount) (sym (filter_more test lines line ∙ ap (λ b. cond b (filter test lines ++ line ∷ []) (filter test lines)) apart))
          ]) refl;
    }

    -- ---- all groups in their order

    listed_entries : (lines : List (List ℕ)) (entries : List (Vec ℕ A × ℕ)) → EachEntry (λ name o. o ≡ total_if_any amount (lines_in by name lines)) entries → AreTotals (group_total by amount lines) (texts_of entries) entries
    listed_entries lines [] each = tt
    listed_entries lines (entry ∷ entries) each = (refl, total_is amount (lines_in by entry.0.items lines) entry.1 each.0, listed_entries lines entries each.1)

    pub all_totals : (lines : List (List ℕ)) (m : BTreeMap (Vec ℕ A) ℕ) → IsStrictlySortedBy (λ x y. slice_cmp nat_cmp x.items y.items) (keys_of m.entries) → AreTotalled by amount lines m →
        (names : List (List ℕ)) × AreGroups by lines names × AreTotals (group_total by amount lines) names m.entries
    all_totals lines m ascend has = (
      texts_of m.entries,
      record {
        ascending = texts_ascend m.entries ascend;
        same = (
          λ name among. name_among name lines (subst (λ (o : Option ℕ). IsSome o) (has.own name) (has_value name m.entries among)),
          λ name among. among_texts name m.entries (subst (λ (o : Option ℕ). IsSome o) (sym (has.own name)) (has_total name lines among)),
        );
      },
      listed_entries lines m.entries (each_entry (λ name o. o ≡ total_if_any amount (lines_in by name lines)) m.entries ascend (λ name some. has.own name)),
    )

-- the first of the groups that are left
module _ {A : Type 0} (total : List ℕ → ℕ) where
  pub first_listed : (names : List (List ℕ)) (old new : List (Vec ℕ A × ℕ)) (entry : Vec ℕ A × ℕ) → old ≡ entry ∷ new → AreTotals total names old →
      (others : List (List ℕ)) × (names ≡ entry.0.items ∷ others) × (entry.1 ≡ total entry.0.items) × AreTotals total others new
  first_listed [] old new entry parted listed = absurd (subst (AreTotals total []) parted listed)
  first_listed (name ∷ names) old new entry parted listed =
      let all : AreTotals total (name ∷ names) (entry ∷ new) = subst (AreTotals total (name ∷ names)) parted listed in
      (names, ap (λ n. n ∷ names) all.0, all.1 ∙ ap total all.0, all.2)

  pub none_listed : (names : List (List ℕ)) (entries : List (Vec ℕ A × ℕ)) → (0 < length entries → ⊥) → AreTotals total names entries → names ≡ []
  none_listed [] entries none listed = refl
  none_listed (name ∷ names) [] none listed = absurd listed
  none_listed (name ∷ names) (entry ∷ entries) none listed = absurd (none (omega arith))
