-- What a sketch of sums has after one line more, in folds, and what it returns after a trim.
use Rattle.std.proofs.Common.{◌≡◌, ℕ, ◌+◌, ◌^◌, ◌≤◌, Bool, true, false, cond, eqb, List, [], ◌∷◌, ◌++◌, length, Some, None, Result, Ok, Err, is_none, inl, inr, refl, sym, ap, subst, ◌∙◌, arith}
use Rattle.std.specs.Prelude.{◌==◌, nat_lt, min, unwrap_or, is_some, Option, IfOk, IfErr, OnOk}
use Rattle.std.specs.Option.{option_map_or}
use Rattle.std.proofs.lemmas.Bool.Decides.{nat_tests}
use Rattle.std.proofs.lemmas.List.{map-append}
use Rattle.std.proofs.lemmas.Result.{IfOk-weaker}
use Rattle.sketch_base.specs.declared.error.ErrorKind.{ErrorKind}
use Rattle.sketch_base.specs.declared.error.ErrorKind.TheVariants.{OutOfMemory, Policy}
use Rattle.core_compact.specs.CompactState.{Compact, IsAnswer, ordered_sketch}
use Rattle.core_laws.specs.Cuts.{Retained, none_below}
use Rattle.core_laws.specs.Folds.{Fold, fold_key, folded, folded_of, unmarked}
use Rattle.core_laws.specs.Insertion.{after_upsert, is_screened, upsert_refusal}
use Rattle.core_laws.specs.Leaf.{leaf_from}
use Rattle.core_laws.specs.Maps.{entry_at}
use Rattle.core_laws.specs.Refusal.{Refuses}
use Rattle.core_laws.specs.Values.{Sketch, Empty, NonEmpty}
use Rattle.core_laws.specs.declared.TheConstants.{MAX_THETA}
use Rattle.core_laws.specs.declared.leaf.LeafStep.{LeafStep}
use Rattle.core_laws.specs.declared.leaf.LeafStep.TheVariants.{Add}
use Rattle.core_laws.proofs.insertions.FoldedSteps.{unmarked-step}
use Rattle.core_laws.proofs.insertions.Leaves.{leaf_from-append}
use Rattle.core_laws.proofs.insertions.Unmarked.{was_refused}
use Rattle.core_policies.specs.Sums.{unsigned_sum}
use Rattle.core_slots.specs.Entry.{tuple_key}
use Rattle.core_slots.specs.declared.entry.TupleEntry.{TupleEntry}
use Rattle.core_state.specs.Updatable.{Updatable, sketch_value}
use Rattle.core_table.specs.HashTable.{MapTable, after_insertion, trimmed_table}
use Rattle.keys_lines.specs.Keys.{line_hash}
use Rattle.keys_lines.specs.declared.key.Hashing.{Hashing}
use Rattle.tuple_sketches.specs.Numbers.{adds_number, combined_number, first_number, merged_number}
use Rattle.tuple_sketches.specs.declared.numbers.SummaryMode.{SummaryMode}
use Rattle.tuple_sketches.specs.declared.numbers.SummaryMode.TheVariants.{Sum, Min, Max}
use Rattle.keys_sketches.proofs.Worth.{ordered_answer}
use Rattle.keys_sums.specs.Amounts.{added_by, amount_in}
use Rattle.keys_sums.specs.Sums.{folds_of_lines, summary_at, sum_steps, sums_of_lines, sketch_of_sums, total_added, GREATEST_TOTAL, Summed, HasSummed, HasAdded}
use Rattle.keys_sums.specs.declared.addends.Amount.{Amount}
use Rattle.keys_sums.specs.Refusals.{IsAddRefusal, IsPast}
use Rattle.keys_sums.proofs.Amounts.{merged_associates, merged_commutes, summary_append, summary_kept}
use Rattle.keys_sums.proofs.Pieces.{numbers_more}
use Rattle.keys_sums.proofs.Exact.{folds_keep, not_none, retained_number, trimmed_exact}

has_one : {T : Type 0} (xs : List T) (x : T) → (length (xs ++ x ∷ []) == 0) ≡ false
has_one [] x = not_none x []
has_one (y ∷ xs) x = not_none y (xs ++ x ∷ [])

-- a refusal of an addition is that of the policy
upsert_policy : (mode : SummaryMode) (hash value : ℕ) (v : Retained (TupleEntry ℕ)) (kind : ErrorKind) → upsert_refusal tuple_key hash (adds_number mode hash value) v ≡ Some kind → kind ≡ Policy
unfolding upsert_refusal
upsert_policy mode hash value v kind is =
    (elim (is_screened hash v.theta) as (λ b. cond b None (option_map_or (adds_number mode hash value).refuses_existing (entry_at tuple_key v.entries hash) (adds_number mode hash value).refuses_absent) ≡ Some kind → kind ≡ Policy) [
      | true ↦ λ e. absurd (cc)
      | false ↦ elim (entry_at tuple_key v.entries hash) as (λ o. option_map_or (adds_number mode hash value).refuses_existing o (adds_number mode hash value).refuses_absent ≡ Some kind → kind ≡ Policy) [
        | Some x ↦ λ e. (was_refused (is_none (combined_number mode x.summary value)) kind e).1
        | None ↦ λ e. (was_refused (is_none (combined_number mode (first_number mode) value)) kind e).1
      ]
    ]) is

pub add_refusal : {T : Type 0} (mode : SummaryMode) (r : Result T ErrorKind) (hash value : ℕ) (v : Retained (TupleEntry ℕ)) (takes : Bool) → Refuses r (upsert_refusal tuple_key hash (adds_number mode hash value) v) takes → IfErr r IsAddRefusal
add_refusal mode (Ok x) hash value v takes is = tt
add_refusal mode (Err e) hash value v takes is = elim is [
  | inl refused ↦ inr (upsert_policy mode hash value v e refused)
  | inr memory ↦ inl memory.0
]

-- a sum that doesn't fit
not_fitting : (b : Bool) (n : ℕ) → is_none (cond b (Some n) None) ≡ true → b ≡ false
not_fitting true n e = sym e
not_fitting false n e = refl

not_within : (x y : ℕ) → is_none (unsigned_sum 64 x y) ≡ true → 2 ^ 64 ≤ x + y
not_within x y none = let b : nat_lt (x + y) (2 ^ 64) ≡ false = not_fitting (nat_lt (x + y) (2 ^ 64)) (x + y) none in grind (arith, nat_tests, b)

-- only sums are refused, and only from 2^64 on
refused_sum : (mode : SummaryMode) (x y : ℕ) → is_none (combined_number mode x y) ≡ true → (mode ≡ Sum) × (2 ^ 64 ≤ merged_number mode x y)
refused_sum Sum x y none = (refl, not_within x y none)
refused_sum Min x y none = absurd (cc)
refused_sum Max x y none = absurd (cc)

-- a sum that begins with the value is the less
absent_sum : (mode : SummaryMode) (n value : ℕ) → mode ≡ Sum → 2 ^ 64 ≤ merged_number mode (first_number mode) value → 2 ^ 64 ≤ merged_number mode n value
absent_sum Sum n value same great = omega (arith, great)
absent_sum Min n value same great = absurd (cc)
absent_sum Max n value same great = absurd (cc)

module _ (mode : SummaryMode) (hashing : Hashing) (amount : List ℕ → ℕ) (lg_k : ℕ) where
  abbrev step_at : (hash value : ℕ) → Retained (Fold (TupleEntry ℕ)) → Retained (Fold (TupleEntry ℕ))
  step_at hash value v = after_upsert (fold_key tuple_key) (2 ^ lg_k) hash (folded tuple_key hash (adds_number mode hash value)) v

  folds_more : (lines : List (List ℕ)) (line : List ℕ) → folds_of_lines mode hashing amount lg_k (lines ++ line ∷ []) ≡ step_at (line_hash hashing line) (amount line) (folds_of_lines mode hashing amount lg_k lines)
  folds_more lines line =
      ap (λ (steps : List (LeafStep ℕ)). leaf_from (fold_key tuple_key) (folded_of tuple_key (adds_number mode)) (2 ^ lg_k) MAX_THETA steps (none_below MAX_THETA)) (map-append (λ l. Add (line_hash hashing l) (amount l)) lines (line ∷ []))
      ∙ leaf_from-append (fold_key tuple_key) (folded_of tuple_key (adds_number mode)) (folds_keep mode) (2 ^ lg_k) MAX_THETA (sum_steps hashing amount lines) (Add (line_hash hashing line) (amount line) ∷ []) (none_below MAX_THETA)

  -- one line more was added
  pub more_summed : (lines : List (List ℕ)) (line : List ℕ) (s t : Updatable (TupleEntry ℕ)) (hash value : ℕ) → hash ≡ line_hash hashing line → amount line ≡ value → HasSummed mode hashing amount lg_k lines s
      → t.map ≡ after_insertion tuple_key hash (adds_number mode hash value) s.map → t.empty ≡ false → upsert_refusal tuple_key hash (adds_number mode hash value) s.map.kept ≡ None → HasSummed mode hashing amount lg_k (lines ++ line ∷ []) t
  more_summed lines line s t hash value hashed valued has after some allowed = record {
    folds =
        ap (λ (m : MapTable (TupleEntry ℕ)). unmarked m.kept) after
        ∙ unmarked-step tuple_key (2 ^ s.map.lg_nom) hash (adds_number mode hash value) s.map.kept allowed
        ∙ ap (λ (n : ℕ). after_upsert (fold_key tuple_key) (2 ^ n) hash (folded tuple_key hash (adds_number mode hash value)) (unmarked s.map.kept)) has.same_size
        ∙ ap (step_at hash value) has.folds
        ∙ ap (λ (h : ℕ). step_at h value (folds_of_lines mode hashing amount lg_k lines)) hashed
        ∙ ap (λ (n : ℕ). step_at (line_hash hashing line) n (folds_of_lines mode hashing amount lg_k lines)) (sym valued)
        ∙ sym (folds_more lines line);
    same_size = ap (λ (m : MapTable (TupleEntry ℕ)). m.lg_nom) after ∙ has.same_size;
    same_seed = ap (λ (m : MapTable (TupleEntry ℕ)). m.seed_hash) after ∙ has.same_seed;
    emptiness = some ∙ sym (has_one lines line);
  }

  pub added_line : {T : Type 0} (r : Result T ErrorKind) (lines : List (List ℕ)) (line : List ℕ) (s t : Updatable (TupleEntry ℕ)) (hash value : ℕ) (takes : Bool) → hash ≡ line_hash hashing line → amount line ≡ value → HasSummed mode hashing amount lg_k lines s
      → OnOk r (t.map ≡ after_insertion tuple_key hash (adds_number mode hash value) s.map) → OnOk r (t.empty ≡ false) → Refuses r (upsert_refusal tuple_key hash (adds_number mode hash value) s.map.kept) takes → OnOk r (HasSummed mode hashing amount lg_k (lines ++ line ∷ []) t)
  added_line (Ok x) lines line s t hash value takes hashed valued has after some allowed = more_summed lines line s t hash value hashed valued has after some allowed
  added_line (Err e) lines line s t hash value takes hashed valued has after some allowed = tt

  -- the number at the hash of one line more
  summary_more : (lines : List (List ℕ)) (line : List ℕ) (hash value : ℕ) → hash ≡ line_hash hashing line → amount line ≡ value →
      summary_at mode hashing amount (lines ++ line ∷ []) hash ≡ merged_number mode (summary_at mode hashing amount lines hash) value
  summary_more lines line hash value hashed valued =
      let n : ℕ = summary_at mode hashing amount lines hash in
      let itself : eqb (line_hash hashing line) hash ≡ true = grind (arith, nat_tests) in
      let last : summary_at mode hashing amount (line ∷ []) hash ≡ merged_number mode (amount line) (first_number mode) = ap (λ (b : Bool). cond b (merged_number mode (amount line) (first_number mode)) (first_number mode)) itself in
      sym (summary_append mode hashing amount lines (line ∷ []) hash)
      ∙ ap (merged_number mode n) (last ∙ merged_commutes mode (amount line) (first_number mode))
      ∙ sym (merged_associates mode n (first_number mode) (amount line))
      ∙ ap (λ (m : ℕ). merged_number mode m (amount line)) (summary_kept mode hashing amount lines hash)
      ∙ ap (merged_number mode n) valued

  -- an addition is refused only if the mode adds and the sum would be 2^64 or more
  abbrev IsGreat : SummaryMode → (lines : List (List ℕ)) → (line : List ℕ) → (hash : ℕ) → Type 0
  IsGreat m lines line hash = (mode ≡ Sum) × (2 ^ 64 ≤ summary_at m hashing amount (lines ++ line ∷ []) hash)

  great_number : (lines : List (List ℕ)) (line : List ℕ) (s : Updatable (TupleEntry ℕ)) (hash value : ℕ) (kind : ErrorKind) → hash ≡ line_hash hashing line → amount line ≡ value → HasSummed mode hashing amount lg_k lines s →
      upsert_refusal tuple_key hash (adds_number mode hash value) s.map.kept ≡ Some kind → IsGreat mode lines line hash
  unfolding upsert_refusal
  great_number lines line s hash value kind hashed valued has is =
      let v : Retained (TupleEntry ℕ) = s.map.kept in
      let n : ℕ = summary_at mode hashing amount lines hash in
      let total : summary_at mode hashing amount (lines ++ line ∷ []) hash ≡ merged_number mode n value = summary_more lines line hash value hashed valued in
      (elim (is_screened hash v.theta) as (λ b. cond b None (option_map_or (adds_number mode hash value).refuses_existing (entry_at tuple_key v.entries hash) (adds_number mode hash value).refuses_absent) ≡ Some kind → IsGreat mode lines line hash) [
        | true ↦ λ e. absurd (cc)
        | false ↦ (elim (entry_at tuple_key v.entries hash) as (λ o. entry_at tuple_key v.entries hash ≡ o → option_map_or (adds_number mode hash value).refuses_existing o (adds_number mode hash value).refuses_absent ≡ Some kind → IsGreat mode lines line hash) [
          | Some x ↦ λ found e.
              let so_far : x.summary ≡ n = retained_number mode hashing amount lines lg_k v hash x has.folds found in
              let past = refused_sum mode x.summary value (was_refused (is_none (combined_number mode x.summary value)) kind e).0 in
              (past.0, subst (λ (m : ℕ). 2 ^ 64 ≤ m) (ap (λ (m : ℕ). merged_number mode m value) so_far ∙ sym total) past.1)
          | None ↦ λ found e.
              let past = refused_sum mode (first_number mode) value (was_refused (is_none (combined_number mode (first_number mode) value)) kind e).0 in
              (past.0, subst (λ (m : ℕ). 2 ^ 64 ≤ m) (sym total) (absent_sum mode n value past.0 past.1))
        ]) refl
      ]) is

  great_sum : (lines : List (List ℕ)) (line : List ℕ) (s : Updatable (TupleEntry ℕ)) (hash value : ℕ) (kind : ErrorKind) → hash ≡ line_hash hashing line → amount line ≡ value → HasSummed mode hashing amount lg_k lines s →
      upsert_refusal tuple_key hash (adds_number mode hash value) s.map.kept ≡ Some kind → IsGreat Sum lines line hash
  great_sum lines line s hash value kind hashed valued has is =
      let great = great_number lines line s hash value kind hashed valued has is in
      (great.0, subst (λ (m : SummaryMode). 2 ^ 64 ≤ summary_at m hashing amount (lines ++ line ∷ []) hash) great.0 great.1)

  pub past_line : {T : Type 0} (r : Result T ErrorKind) (lines : List (List ℕ)) (line : List ℕ) (s : Updatable (TupleEntry ℕ)) (hash value : ℕ) (takes : Bool) → hash ≡ line_hash hashing line → amount line ≡ value → HasSummed mode hashing amount lg_k lines s
      → Refuses r (upsert_refusal tuple_key hash (adds_number mode hash value) s.map.kept) takes → IfErr r (λ e. e ≡ Policy → IsPast mode hashing amount (lines ++ line ∷ []))
  past_line (Ok x) lines line s hash value takes hashed valued has is = tt
  past_line (Err e) lines line s hash value takes hashed valued has is = λ policy. elim is [
    | inl refused ↦ let great = great_sum lines line s hash value e hashed valued has refused in (great.0, (hash, great.1))
    | inr memory ↦ let none : OutOfMemory ≡ Policy = sym memory.0 ∙ policy in absurd (cc)
  ]

  trimmed_value : (lines : List (List ℕ)) (s t : Updatable (TupleEntry ℕ)) → HasSummed mode hashing amount lg_k lines s → t.empty ≡ s.empty → t.map ≡ trimmed_table tuple_key s.map → sketch_value t ≡ sums_of_lines mode hashing amount lg_k lines
  trimmed_value lines s t has same after =
      ap (λ b. cond b Empty (NonEmpty t.map.kept)) same
      ∙ ap (λ (m : MapTable (TupleEntry ℕ)). cond s.empty Empty (NonEmpty m.kept)) (after ∙ ap (λ (n : ℕ). record (trimmed_table tuple_key s.map) { kept = (trimmed_table tuple_key (record s.map { lg_nom = n })).kept }) has.same_size)
      ∙ trimmed_exact mode hashing amount lg_k lines s.map.kept s.empty has.folds has.emptiness

  -- the ordered result after a trim
  pub finished_sums : (lines : List (List ℕ)) (s t : Updatable (TupleEntry ℕ)) (r : Result (Compact (TupleEntry ℕ)) ErrorKind) → HasSummed mode hashing amount lg_k lines s → t.empty ≡ s.empty → t.map ≡ trimmed_table tuple_key s.map
      → IfOk r (IsAnswer tuple_key (sketch_value t) t.map.seed_hash true) → IfOk r (λ c. c ≡ sketch_of_sums mode hashing amount lg_k lines)
  finished_sums lines s t r has same after is =
      IfOk-weaker r _ _ (λ c answer.
      ordered_answer tuple_key (sketch_value t) t.map.seed_hash c answer
      ∙ ap (λ (v : Sketch (TupleEntry ℕ)). ordered_sketch v t.map.seed_hash) (trimmed_value lines s t has same after)
      ∙ ap (ordered_sketch (sums_of_lines mode hashing amount lg_k lines)) (ap (λ (m : MapTable (TupleEntry ℕ)). m.seed_hash) after ∙ has.same_seed)) is

-- ---- the total

pub total_more : (amount : List ℕ → ℕ) (lines : List (List ℕ)) (line : List ℕ) → total_added amount (lines ++ line ∷ []) ≡ total_added amount lines + amount line
total_more amount [] line = omega arith
total_more amount (first ∷ lines) line = omega (arith, total_more amount lines line)

pub capped_more : (total more cap : ℕ) → min (min total cap + more) cap ≡ min (total + more) cap
capped_more total more cap = grind (arith, nat_tests)

-- a line more was added, to the number of its key and to the total
pub more_added : (mode : SummaryMode) (hashing : Hashing) (amount : Amount) (lg_k : ℕ) (lines : List (List ℕ)) (line : List ℕ) (s t : Summed) (hash value : ℕ) → hash ≡ line_hash hashing line → amount_in amount line ≡ Some value
    → HasAdded mode hashing amount lg_k lines s → t.mode ≡ s.mode → t.sketch.map ≡ after_insertion tuple_key hash (adds_number s.mode hash value) s.sketch.map → t.sketch.empty ≡ false
    → upsert_refusal tuple_key hash (adds_number s.mode hash value) s.sketch.map.kept ≡ None → t.total ≡ min (s.total + value) GREATEST_TOTAL → HasAdded mode hashing amount lg_k (lines ++ line ∷ []) t
more_added mode hashing amount lg_k lines line s t hash value hashed valued has same after some allowed counted =
    let adds_value : added_by amount line ≡ value = ap (λ (o : Option ℕ). unwrap_or o 0) valued in
    record {
      same_mode = same ∙ has.same_mode;
      summed = more_summed mode hashing (added_by amount) lg_k lines line s.sketch t.sketch hash value hashed adds_value has.summed
          (subst (λ (m : SummaryMode). t.sketch.map ≡ after_insertion tuple_key hash (adds_number m hash value) s.sketch.map) has.same_mode after) some
          (subst (λ (m : SummaryMode). upsert_refusal tuple_key hash (adds_number m hash value) s.sketch.map.kept ≡ None) has.same_mode allowed);
      numbers = numbers_more amount lines line has.numbers (ap (λ (o : Option ℕ). is_some o) valued);
      total =
          counted ∙ ap (λ n. min (n + value) GREATEST_TOTAL) has.total ∙ capped_more (total_added (added_by amount) lines) value GREATEST_TOTAL
          ∙ ap (λ n. min n GREATEST_TOTAL) (ap (λ n. total_added (added_by amount) lines + n) (sym adds_value) ∙ sym (total_more (added_by amount) lines line));
    }

-- a refused line
pub refused_line : {T : Type 0} (mode : SummaryMode) (hashing : Hashing) (amount : Amount) (lg_k : ℕ) (lines : List (List ℕ)) (line : List ℕ) (r : Result T ErrorKind) (s : Summed) (hash value : ℕ) (takes : Bool) → hash ≡ line_hash hashing line
    → amount_in amount line ≡ Some value → HasAdded mode hashing amount lg_k lines s → Refuses r (upsert_refusal tuple_key hash (adds_number s.mode hash value) s.sketch.map.kept) takes
    → IfErr r (λ e. e ≡ Policy → IsPast mode hashing (added_by amount) (lines ++ line ∷ []))
refused_line mode hashing amount lg_k lines line r s hash value takes hashed valued has is =
    past_line mode hashing (added_by amount) lg_k r lines line s.sketch hash value takes hashed (ap (λ (o : Option ℕ). unwrap_or o 0) valued) has.summed
    (subst (λ (m : SummaryMode). Refuses r (upsert_refusal tuple_key hash (adds_number m hash value) s.sketch.map.kept) takes) has.same_mode is)
