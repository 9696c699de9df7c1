-- Filters: bits that are set, what they admit, and lists from which a filter has dropped entries.
use Rattle.std.proofs.Common.{◌≡◌, ℕ, suc, ◌+◌, ◌*◌, ◌/◌, ◌%◌, ◌^◌, ◌<◌, ◌≢◌, Bool, true, false, cond, ltb, eqb, List, [], ◌∷◌, ◌++◌, length, get_or, set, take, refl, sym, ap, ◌∙◌, subst, arith}
use Rattle.std.specs.Int.{bit_at, w64}
use Rattle.std.specs.Prelude.{bit_or, ◌==◌}
use Rattle.std.specs.List.{AllByRecursion}
use Rattle.std.proofs.lemmas.Bool.Decides.{nat_tests}
use Rattle.std.proofs.lemmas.List.{get_or-set_same, get_or-set_other, take_more_set, take-set, append-nil}
use Rattle.std.proofs.lemmas.Nat.Bits.{bit_at_set_same, bit_at_set_other}
use Rattle.std.proofs.Math.Seq.{take-suc}
use Rattle.core_laws.specs.Maps.{IsAscending, below, map_of}
use Rattle.core_laws.proofs.maps.MapsOfLists.{ascending-map_of}
use Rattle.core_laws.proofs.maps.Ascending.{each-append, each-weaker, each-passes, ascending-filter}
use Rattle.core_operators.proofs.DifferenceEntries.{map_of-tested}
use Rattle.core_operators.specs.Filter.{is_set, is_admitted, AdmitsBelow, admitted, IsNarrowed}

-- a bit more
module _ (words : List ℕ) (place : ℕ) (inside : place / 64 < length words) where
  abbrev word : ℕ
  word = get_or words (place / 64) 0

  abbrev with_bit : ℕ
  with_bit = bit_or word (1 * 2 ^ (place % 64) % 2 ^ 64)

  pub set_same : is_set (set words (place / 64) with_bit) place ≡ true
  set_same = ap (λ n. bit_at n (place % 64) == 1) (get_or-set_same words (place / 64) with_bit 0 inside) ∙ ap (λ b. b == 1) (bit_at_set_same w64 word (place % 64) (omega arith))

  kept_there : (bit : ℕ) → (bit_at word bit == 1) ≡ true → (bit_at with_bit bit == 1) ≡ true
  kept_there bit was =
      (elim (eqb bit (place % 64)) as (λ b. eqb bit (place % 64) ≡ b → (bit_at with_bit bit == 1) ≡ true) [
        | true ↦ λ e. let same : bit ≡ place % 64 = grind (arith, nat_tests) in ap (λ i. bit_at with_bit i == 1) same ∙ ap (λ b. b == 1) (bit_at_set_same w64 word (place % 64) (omega arith))
        | false ↦ λ e. let differs : bit ≢ place % 64 = λ same. absurd (grind (arith, nat_tests)) in ap (λ b. b == 1) (bit_at_set_other w64 word (place % 64) (omega arith) bit differs) ∙ was
      ]) refl

  pub set_kept : (other : ℕ) → is_set words other ≡ true → is_set (set words (place / 64) with_bit) other ≡ true
  set_kept other was =
      (elim (eqb (other / 64) (place / 64)) as (λ b. eqb (other / 64) (place / 64) ≡ b → is_set (set words (place / 64) with_bit) other ≡ true) [
        | true ↦ λ e.
            let same : other / 64 ≡ place / 64 = grind (arith, nat_tests) in
            ap (λ i. bit_at (get_or (set words (place / 64) with_bit) i 0) (other % 64) == 1) same
            ∙ ap (λ n. bit_at n (other % 64) == 1) (get_or-set_same words (place / 64) with_bit 0 inside)
            ∙ kept_there (other % 64) (ap (λ i. bit_at (get_or words i 0) (other % 64) == 1) (sym same) ∙ was)
        | false ↦ λ e.
            let differs : other / 64 ≢ place / 64 = λ same. absurd (grind (arith, nat_tests)) in
            ap (λ n. bit_at n (other % 64) == 1) (get_or-set_other words (place / 64) (other / 64) with_bit 0 differs) ∙ was
      ]) refl

-- entries whose hashes are admitted one after another
module _ {X : Type 0} (key : X → ℕ) (theta shift : ℕ) where
  abbrev pub Passes : List ℕ → X → Type 0
  Passes words x = key x < theta → is_admitted words shift (key x) ≡ true

  pub one_more : (words : List ℕ) (xs : List X) (i : ℕ) (x : X) → i < length xs → x ≡ get_or xs i x → AllByRecursion (Passes words) (take i xs) → Passes words x → AllByRecursion (Passes words) (take (i + 1) xs)
  one_more words xs i x inside is so_far one =
      let next : i + 1 ≡ suc i = omega arith in
      subst (AllByRecursion (Passes words)) (sym (ap (λ n. take n xs) next ∙ take-suc xs i x inside)) (each-append (Passes words) (take i xs) (get_or xs i x ∷ []) so_far (subst (Passes words) is one, tt))

  pub still_admitted : (words next : List ℕ) (xs : List X) → ((other : ℕ) → is_set words other ≡ true → is_set next other ≡ true) → AllByRecursion (Passes words) xs → AllByRecursion (Passes next) xs
  still_admitted words next xs kept all = each-weaker (Passes words) (Passes next) (λ x was lt. kept (key x / 2 ^ shift) (was lt)) xs all

  pub admits_below : (words : List ℕ) (xs : List X) → AllByRecursion (Passes words) xs → AdmitsBelow key xs theta words shift
  admits_below words [] all = tt
  admits_below words (x ∷ xs) all =
      (elim (ltb (key x) theta) as (λ b. ltb (key x) theta ≡ b → AllByRecursion (λ y. is_admitted words shift (key y) ≡ true) (cond b (x ∷ below key xs theta) (below key xs theta))) [
        | true ↦ λ e. (all.0 (grind (arith, nat_tests)), admits_below words xs all.1)
        | false ↦ λ e. admits_below words xs all.1
      ]) refl

-- a hash is written behind the first ones, and counts if it is admitted
pub put_one : (found : List ℕ) (count more hash : ℕ) (passes : Bool) → count < length found → more ≡ cond passes 1 0 → take (count + more) (set found count hash) ≡ take count found ++ cond passes (hash ∷ []) []
put_one found count more hash true room more_is = rw more_is (take_more_set found count hash room)
put_one found count more hash false room more_is = rw more_is (ap (λ (n : ℕ). take n (set found count hash)) (omega arith) ∙ take-set found count hash ∙ sym (append-nil (take count found)))

-- lists from which a test of keys has dropped entries
module _ {X Y : Type 0} (key : X → ℕ) (other : Y → ℕ) (others : List Y) (theta : ℕ) (listing items : List X) where
  pub narrowed_below : items ≡ below key (map_of key listing) theta → IsNarrowed key other others theta listing items
  narrowed_below is = record { test = λ h. ltb h theta; passes = each-passes (λ y. ltb (other y) theta ≡ true) (λ y. ltb (other y) theta) (λ y e. e) others; kept = is }

  pub narrowed_admitted : (words : List ℕ) (shift : ℕ) → AdmitsBelow other others theta words shift → items ≡ map_of key (admitted key words shift listing) → IsNarrowed key other others theta listing items
  narrowed_admitted words shift admits is = record { test = is_admitted words shift; passes = admits; kept = is ∙ map_of-tested key (is_admitted words shift) listing }

  pub narrowed_ascends : IsNarrowed key other others theta listing items → IsAscending key items
  narrowed_ascends narrowed = rw narrowed.kept (ascending-filter key _ (map_of key listing) (ascending-map_of key listing))
