-- Moving entries from one array of slots to another.
use Rattle.std.proofs.Common.{◌≡◌, ℕ, ◌+◌, ◌<◌, Bool, cond, ltb, List, [], ◌∷◌, ◌++◌, length, map, set, Option, Some, None, sym, ap, ◌∙◌, arith}
use Rattle.std.specs.List.{count_by}
use Rattle.std.proofs.lemmas.List.Sums.{sum_by-append}
use Rattle.core_laws.specs.Maps.{below, with_entry, map_of}
use Rattle.core_slots.specs.SlotLayout.{filled, slot, is_other, IsOnPath, IsLaidOut}
use Rattle.core_laws.proofs.cuts.Cuts.{length-below}
use Rattle.core_slots.proofs.Held.{map-set, length-content}
use Rattle.core_slots.proofs.SlotLayouts.{rank-map_of, length-map_of, laid_out_new, put_joins}

pub count-append : {X : Type 0} (p : X → Bool) (xs ys : List X) → count_by p (xs ++ ys) ≡ count_by p xs + count_by p ys
count-append p xs ys = sum_by-append (λ x. cond (p x) 1 0) xs ys

pub count-cons : {X : Type 0} (p : X → Bool) (x : X) (xs : List X) → count_by p (x ∷ xs) ≡ count_by p (x ∷ []) + count_by p xs
count-cons p x xs = count-append p (x ∷ []) xs

module _ {X : Type 0} (key : X → ℕ) where
  pub moved_count : (lg new_lg theta : ℕ) (whole after : List (Option X)) → IsLaidOut key lg whole → IsLaidOut key new_lg after → map_of key (filled after) ≡ below key (map_of key (filled whole)) theta
      → count_by (λ x. ltb (key x) theta) (filled whole) ≡ length (filled after)
  moved_count lg new_lg theta whole after is laid moved =
      sym (rank-map_of key lg whole theta is) ∙ sym (length-below key (map_of key (filled whole)) theta) ∙ ap length (sym moved) ∙ length-map_of key new_lg after laid

-- slots that are laid out anew with the entries below theta; a vector has them afterwards
module _ {S X : Type 0} (key : X → ℕ) (content : S → Option X) (lg theta : ℕ) (items slots : List S) (laid : IsLaidOut key lg (map content items)) (same : slots ≡ items) where
  -- as many entries are below theta as the map has there
  pub low_count : length (below key (filled (map content slots)) theta) ≡ length (below key (map_of key (filled (map content items))) theta)
  low_count =
      let whole = map content items in
      rw same (length-below key (filled whole) theta ∙ sym (rank-map_of key lg whole theta laid) ∙ sym (length-below key (map_of key (filled whole)) theta))

  module _ (after back : List S) (whole : back ≡ after) (moved : map_of key (filled (map content after)) ≡ below key (map_of key (filled (map content slots))) theta) where
    pub kept_map : map_of key (filled (map content back)) ≡ below key (map_of key (filled (map content items))) theta
    kept_map = rw whole (moved ∙ ap (λ xs. below key (map_of key (filled (map content xs))) theta) same)

    -- as many entries were put as there are afterwards
    pub kept_count : (new_lg before now : ℕ) → IsLaidOut key new_lg (map content after) → now ≡ before + count_by (λ y. ltb (key y) theta) (filled (map content slots)) → now ≡ before + length (filled (map content back))
    kept_count new_lg before now done counted =
        let all = moved_count key lg new_lg theta (map content slots) (map content after) (rw same laid) done moved in
        rw whole (counted ∙ ap (λ (n : ℕ). before + n) all)

-- a new entry, written into a free slot before the slots are laid out anew
module _ {S X : Type 0} (key : X → ℕ) (content : S → Option X) (lg at : ℕ) (x : X) (items : List S) (s : S) (laid : IsLaidOut key lg (map content items)) (inside : at < length items)
    (free : slot (map content items) at ≡ None) (on : IsOnPath key lg (map content items) (key x) at) (is : content s ≡ Some x) where
  put_written : map content (set items at s) ≡ set (map content items) at (Some x)
  put_written = map-set content items at s ∙ ap (λ o. set (map content items) at o) is

  pub put_laid_out : (slots : List S) → slots ≡ set items at s → IsLaidOut key lg (map content slots)
  put_laid_out slots same = rw (same, put_written) (laid_out_new key lg (map content items) at x laid (omega (arith, inside, length-content content items)) free on)

  pub put_map : (slots : List S) → slots ≡ set items at s → map_of key (filled (map content slots)) ≡ with_entry key (map_of key (filled (map content items))) x
  put_map slots same = rw (same, put_written) (put_joins key lg at x (map content items) laid (omega (arith, inside, length-content content items)) on (ap (is_other key (key x)) free))
