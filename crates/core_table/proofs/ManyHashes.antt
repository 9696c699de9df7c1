-- A table of hashes, and many of them inserted in turn.
use Rattle.std.proofs.Common.{◌≡◌, ℕ, suc, ◌^◌, ◌<◌, ◌≤◌, List, ◌∷◌, ◌++◌, length, take, drop, get_or, sym, ap, subst, ◌∙◌, append_assoc, drop-cons, inl, inr, arith}
use Rattle.std.specs.Prelude.{IsTrue}
use Rattle.std.proofs.lemmas.List.{take-append-le, take-append-drop}
use Rattle.core_laws.specs.Cuts.{IsRetained}
use Rattle.core_laws.specs.Entries.{hash_key, hash_step}
use Rattle.core_laws.specs.Insertion.{IsRedundant, Drops, upsert_allocates}
use Rattle.core_laws.specs.Parts.{StopsAt}
use Rattle.core_laws.specs.Maps.{map_of}
use Rattle.core_laws.proofs.insertions.DroppedHashes.{after_upserts-append, left_out-front, left_out-weaker, redundant_left_out}
use Rattle.core_laws.proofs.maps.MapsOfLists.{entry_at-map_of}
use Rattle.core_table.specs.HashTable.{MapTable, after_hashes}

pub after_hashes-append : (xs ys : List ℕ) (t : MapTable ℕ) → after_hashes (xs ++ ys) t ≡ after_hashes ys (after_hashes xs t)
after_hashes-append xs ys t = ap (λ v. record t { kept = v }) (after_upserts-append (2 ^ t.lg_nom) xs ys t.kept)

-- the insertion of a hash makes an entry, and so takes memory
abbrev pub Makes : MapTable ℕ → ℕ → Type 0
Makes t hash = IsTrue (upsert_allocates hash_key hash (hash_step hash) t.kept)

-- of hashes a first part was inserted, and the rest is left
pub record HasInserted (hashes rest : List ℕ) (old new : MapTable ℕ) : Type 0 where
  pub front : List ℕ
  pub parts : hashes ≡ front ++ rest
  pub after : new ≡ after_hashes front old

module _ (hashes : List ℕ) (old : MapTable ℕ) where
  -- the remaining hashes, in two parts
  pub parted : (rest block others : List ℕ) (mid : ℕ) (new : MapTable ℕ) → block ≡ take mid rest → others ≡ drop mid rest → HasInserted hashes rest old new → HasInserted hashes (block ++ others) old new
  parted rest block others mid new front back was =
      let same : block ++ others ≡ rest = ap (λ xs. xs ++ others) front ∙ ap (λ xs. take mid rest ++ xs) back ∙ take-append-drop mid rest in
      subst (λ xs. HasInserted hashes xs old new) (sym same) was

  pub more_inserted : (block others : List ℕ) (mid new : MapTable ℕ) → HasInserted hashes (block ++ others) old mid → new ≡ after_hashes block mid → HasInserted hashes others old new
  more_inserted block others mid new was is = record {
    front = was.front ++ block;
    parts = was.parts ∙ sym (append_assoc was.front block others);
    after = is ∙ ap (after_hashes block) was.after ∙ sym (after_hashes-append was.front block old);
  }

  pub part_inserted : (block others : List ℕ) (mid new : MapTable ℕ) → HasInserted hashes (block ++ others) old mid → StopsAt block (λ front hash. (new ≡ after_hashes front mid) × Makes new hash) → StopsAt hashes (λ front hash. (new ≡ after_hashes front old) × Makes new hash)
  part_inserted block others mid new was part = (
    was.front ++ part.0,
    part.1,
    part.2 ++ others,
    was.parts ∙ ap (λ xs. was.front ++ (xs ++ others)) part.3 ∙ ap (λ xs. was.front ++ xs) (append_assoc part.0 (part.1 ∷ part.2) others) ∙ sym (append_assoc was.front part.0 (part.1 ∷ part.2 ++ others)),
    (part.4.0 ∙ ap (after_hashes part.0) was.after ∙ sym (after_hashes-append was.front part.0 old), part.4.1),
  )

-- one of a list, and the elements before and after it
pub stops_here : (hashes : List ℕ) (index : ℕ) → index < length hashes → hashes ≡ take index hashes ++ get_or hashes index 0 ∷ drop (suc index) hashes
stops_here hashes index lt = sym (take-append-drop index hashes) ∙ ap (λ xs. take index hashes ++ xs) (drop-cons hashes index 0 lt)

-- hashes that are redundant are not inserted
module _ (t : MapTable ℕ) (is : IsRetained hash_key t.kept) where
  pub left_inserted : (hashes left : List ℕ) → Drops (IsRedundant hash_key t.kept) hashes left → after_hashes left t ≡ after_hashes hashes t
  left_inserted hashes left leaves = ap (λ v. record t { kept = v }) (sym (redundant_left_out (2 ^ t.lg_nom) hashes left t.kept t.kept is (λ h redundant. redundant) leaves))

  pub part_left_inserted : (hashes left : List ℕ) (new : MapTable ℕ) → Drops (IsRedundant hash_key t.kept) hashes left → StopsAt left (λ front hash. (new ≡ after_hashes front t) × Makes new hash) → StopsAt hashes (λ front hash. (new ≡ after_hashes front t) × Makes new hash)
  part_left_inserted hashes left new leaves part =
      let whole = left_out-front (IsRedundant hash_key t.kept) hashes part.0 part.1 part.2 (subst (λ zs. Drops (IsRedundant hash_key t.kept) hashes zs) part.3 leaves) in
      (whole.0, part.1, whole.1, whole.2, (part.4.0 ∙ left_inserted whole.0 part.0 whole.3, part.4.1))

-- a hash that is redundant by the entries in slots is redundant by their map
redundant_in_map : (xs : List ℕ) (theta : ℕ) (hashes left : List ℕ) → Drops (IsRedundant hash_key (record { entries = xs; theta = theta })) hashes left → Drops (IsRedundant hash_key (record { entries = map_of hash_key xs; theta = theta })) hashes left
redundant_in_map xs theta =
    left_out-weaker (IsRedundant hash_key (record { entries = xs; theta = theta })) (IsRedundant hash_key (record { entries = map_of hash_key xs; theta = theta }))
    (λ h redundant. elim redundant [ inl screened ↦ inl screened | inr some ↦ inr (rw (entry_at-map_of hash_key xs h) some) ])

-- in a block, whose front they were copied into
pub left_in_block : (xs : List ℕ) (theta : ℕ) (hashes copied now rest : List ℕ) (left : ℕ) → copied ≡ hashes → left ≤ length copied → length now ≡ length copied →
    Drops (IsRedundant hash_key (record { entries = xs; theta = theta })) copied (take left now) → Drops (IsRedundant hash_key (record { entries = map_of hash_key xs; theta = theta })) hashes (take left (now ++ rest))
left_in_block xs theta hashes copied now rest left same limited size leaves =
    let front : take left (now ++ rest) ≡ take left now = take-append-le left now rest (omega (arith, limited, size)) in
    redundant_in_map xs theta hashes (take left (now ++ rest))
    (subst (λ zs. Drops (IsRedundant hash_key (record { entries = xs; theta = theta })) zs (take left (now ++ rest))) same
    (subst (λ zs. Drops (IsRedundant hash_key (record { entries = xs; theta = theta })) copied zs) (sym front) leaves))
