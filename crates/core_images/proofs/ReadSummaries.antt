-- Reading a summary, and the entry with it.
use Rattle.std.proofs.Common.{◌≡◌, ℕ, ◌<◌, List, ◌++◌, length, take, drop, refl, sym, ap, ◌∙◌, arith, append_assoc, length-append, take-append-drop}
use Rattle.std.proofs.Math.Seq.{drop-append_seam}
use Rattle.std.proofs.lemmas.List.{length-take-le}
use Rattle.sketch_base.specs.Cursor.{ReadsBytes}
use Rattle.core_slots.specs.declared.entry.TupleEntry.{TupleEntry}
use Rattle.core_images.specs.Summary.{SpellsTuple}
use Rattle.core_images.specs.SummarySpelling.{tuple_long}

module _ {S : Type 0} (Spells : List ℕ → S → Type 0) where
  -- if an entry is spelled, its summary is spelled after its hash
  pub summary_behind : (before after : List ℕ) (hash : ℕ) → ReadsBytes 8 before after hash → (x : TupleEntry S) × (rest : List ℕ) × ((first : List ℕ) × SpellsTuple Spells first x × (before ≡ first ++ rest))
      → (y : S) × (rest : List ℕ) × ((first : List ℕ) × Spells first y × (after ≡ first ++ rest))
  summary_behind before after hash r found =
      let rest = found.1 in
      let text = found.2.0 in
      let p = found.2.1 in
      let e = found.2.2 in
      let whole : before ≡ p.0 ++ (p.1 ++ rest) = e ∙ ap (λ l. l ++ rest) p.2 ∙ append_assoc p.0 p.1 rest in
      (found.0.summary, rest, (p.1, p.4, r.rest ∙ ap (drop 8) whole ∙ (λ i. drop (sym p.3.0 i) (p.0 ++ (p.1 ++ rest))) ∙ drop-append_seam p.0 (p.1 ++ rest)))

  -- the bytes of a hash, then those of the summary after it, spell the entry
  pub entry_read : (before after left : List ℕ) (hash : ℕ) (y : S) → ReadsBytes 8 before after hash → (first : List ℕ) × Spells first y × (after ≡ first ++ left)
      → (text : List ℕ) × SpellsTuple Spells text (record { hash = hash; summary = y }) × (before ≡ text ++ left)
  entry_read before after left hash y r found =
      let front = take 8 before in
      let first = found.0 in (
        front ++ first,
        (front, first, refl, (length-take-le 8 before r.enough, r.value), found.1),
        sym (take-append-drop 8 before) ∙ ap (λ l. front ++ l) (sym r.rest ∙ found.2) ∙ sym (append_assoc front first left),
      )

  -- if fewer than eight bytes are left, they spell no entry
  pub none_short : (before : List ℕ) → length before < 8 → (x : TupleEntry S) × (rest : List ℕ) × ((first : List ℕ) × SpellsTuple Spells first x × (before ≡ first ++ rest)) → ⊥
  none_short before limited found =
      let long = tuple_long Spells found.2.0 found.0 found.2.1 in
      let joined = ap length found.2.2 ∙ length-append found.2.0 found.1 in
      omega arith
