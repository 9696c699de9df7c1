-- What lines add, as a stream of numbers, and their sum, the least or the greatest of them.
use Rattle.std.proofs.Common.{◌≡◌, ℕ, true, false, cond, eqb, List, [], ◌∷◌, ◌++◌, map, refl, ap, ◌∙◌, arith}
use Rattle.core_laws.specs.declared.leaf.LeafStep.TheVariants.{Add}
use Rattle.keys_lines.specs.Keys.{line_hash}
use Rattle.keys_lines.specs.declared.key.Hashing.{Hashing}
use Rattle.keys_sketches.specs.Keys.{line_hashes}
use Rattle.keys_sums.specs.Sums.{amounts, summary_at, sum_steps}
use Rattle.tuple_sketches.specs.Given.{hashes_of}
use Rattle.tuple_sketches.specs.Numbers.{first_number, merged_number}
use Rattle.tuple_sketches.specs.declared.numbers.SummaryMode.{SummaryMode}
use Rattle.tuple_sketches.specs.declared.numbers.SummaryMode.TheVariants.{Sum, Min, Max}

pub merged_associates : (mode : SummaryMode) (x y z : ℕ) → merged_number mode (merged_number mode x y) z ≡ merged_number mode x (merged_number mode y z)
merged_associates Sum x y z = omega arith
merged_associates Min x y z = omega arith
merged_associates Max x y z = omega arith

pub merged_commutes : (mode : SummaryMode) (x y : ℕ) → merged_number mode x y ≡ merged_number mode y x
merged_commutes Sum x y = omega arith
merged_commutes Min x y = omega arith
merged_commutes Max x y = omega arith

-- the first number, merged with itself, is itself
pub merged_repeats : (mode : SummaryMode) → merged_number mode (first_number mode) (first_number mode) ≡ first_number mode
merged_repeats Sum = refl
merged_repeats Min = refl
merged_repeats Max = refl

-- the first number changes a number in nothing
abbrev pub IsKept : SummaryMode → ℕ → Type 0
IsKept mode n = merged_number mode n (first_number mode) ≡ n

pub kept_merged : (mode : SummaryMode) (n m : ℕ) → IsKept mode m → IsKept mode (merged_number mode n m)
kept_merged mode n m kept = merged_associates mode n m (first_number mode) ∙ ap (merged_number mode n) kept

module _ (mode : SummaryMode) (hashing : Hashing) (amount : List ℕ → ℕ) where
  -- so does it a number of lines
  pub summary_kept : (lines : List (List ℕ)) (q : ℕ) → IsKept mode (summary_at mode hashing amount lines q)
  summary_kept [] q = merged_repeats mode
  summary_kept (line ∷ lines) q =
      let n : ℕ = summary_at mode hashing amount lines q in
      elim (eqb (line_hash hashing line) q) as (λ b. IsKept mode (cond b (merged_number mode (amount line) n) n)) [
        | true ↦ kept_merged mode (amount line) n (summary_kept lines q)
        | false ↦ summary_kept lines q
      ]

  pub summary_append : (xs ys : List (List ℕ)) (q : ℕ) → merged_number mode (summary_at mode hashing amount xs q) (summary_at mode hashing amount ys q) ≡ summary_at mode hashing amount (xs ++ ys) q
  summary_append [] ys q = merged_commutes mode (first_number mode) (summary_at mode hashing amount ys q) ∙ summary_kept ys q
  summary_append (x ∷ xs) ys q =
      let n : ℕ = summary_at mode hashing amount xs q in
      let m : ℕ = summary_at mode hashing amount ys q in
      elim (eqb (line_hash hashing x) q) as (λ b. merged_number mode (cond b (merged_number mode (amount x) n) n) m ≡ cond b (merged_number mode (amount x) (summary_at mode hashing amount (xs ++ ys) q)) (summary_at mode hashing amount (xs ++ ys) q)) [
        | true ↦ merged_associates mode (amount x) n m ∙ ap (merged_number mode (amount x)) (summary_append xs ys q)
        | false ↦ summary_append xs ys q
      ]

module _ (hashing : Hashing) (amount : List ℕ → ℕ) where
  pub same_hashes : (lines : List (List ℕ)) → hashes_of (amounts hashing amount lines) ≡ line_hashes hashing lines
  same_hashes [] = refl
  same_hashes (line ∷ lines) = ap (λ (hs : List ℕ). line_hash hashing line ∷ hs) (same_hashes lines)

  pub same_steps : (lines : List (List ℕ)) → map (λ p. Add p.0 p.1) (amounts hashing amount lines) ≡ sum_steps hashing amount lines
  same_steps [] = refl
  same_steps (line ∷ lines) = ap (λ ss. Add (line_hash hashing line) (amount line) ∷ ss) (same_steps lines)
