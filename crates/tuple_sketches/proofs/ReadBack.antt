-- What was written is read as the sketch that was written.
use Rattle.std.proofs.Common.{◌≡◌, ℕ, ◌<◌, ◌^◌, List, [], ◌++◌, inl, refl, subst, append-nil}
use Rattle.core_compact.specs.CompactState.{Compact, IsCompact}
use Rattle.core_images.specs.Head.{tuple_head}
use Rattle.core_images.specs.Summary.{SpellsTuple, is_tuple_value, tuple_text}
use Rattle.core_images.specs.SummarySpelling.{one_tuple, tuple_written}
use Rattle.core_images.proofs.ImageLayouts.{heads_one}
use Rattle.core_images.proofs.ReadAgain.{written_again}
use Rattle.core_slots.specs.Entry.{tuple_key}
use Rattle.core_slots.specs.declared.entry.TupleEntry.{TupleEntry}
use Rattle.tuple_sketches.specs.Image.{SpellsSketch, Reads, HasValues, written}
use Rattle.tuple_sketches.proofs.ImageLayouts.{tuple_from}

-- bytes spell at most one sketch
pub read_once : {S : Type 0} (spells : List ℕ → S → Type 0) (one_spelling : (a b u v : List ℕ) (x y : S) → spells a x → spells b y → a ++ u ≡ b ++ v → (a ≡ b) × (x ≡ y)) (bytes : List ℕ) (h : ℕ) (r s : Compact (TupleEntry S)) → SpellsSketch spells bytes h r → SpellsSketch spells bytes h s → r ≡ s
read_once spells one_spelling bytes h r s p q =
    heads_one tuple_key (SpellsTuple spells) bytes h (one_tuple spells one_spelling) (tuple_head 8 bytes) r s (tuple_from spells bytes h 8 r p) (tuple_from spells bytes h 8 s q)

module _ {S : Type 0} (spells : List ℕ → S → Type 0) (text : S → List ℕ) (IsValue : S → Type 0) (text_spells : (x : S) → IsValue x → spells (text x) x) where
  -- the image of a sketch spells it, whatever bytes follow
  pub spells_again : (s : Compact (TupleEntry S)) (rest : List ℕ) → IsCompact tuple_key s → HasValues IsValue s → s.seed_hash < 2 ^ 16 → SpellsSketch spells (written text s ++ rest) s.seed_hash s
  spells_again s rest w values high =
      let f = written_again tuple_key (SpellsTuple spells) (tuple_text text) (is_tuple_value IsValue) (λ x v small. tuple_written spells text x small (text_spells x.summary v)) 9 1 rest s w values high in
      record { longs = f.0; version = 3; begins = f.1; version_read = inl refl; type_read = inl f.2; filled = f.3 }

  -- and nothing else is read from it
  pub read_back : (one_spelling : (a b u v : List ℕ) (x y : S) → spells a x → spells b y → a ++ u ≡ b ++ v → (a ≡ b) × (x ≡ y)) (r s : Compact (TupleEntry S)) → IsCompact tuple_key r → HasValues IsValue r → r.seed_hash < 2 ^ 16 → Reads spells (written text r) r.seed_hash s → s ≡ r
  read_back one_spelling r s w values high reads =
      let h : ℕ = r.seed_hash in
      let again : SpellsSketch spells (written text r) h r = subst (λ bytes. SpellsSketch spells bytes h r) (append-nil (written text r)) (spells_again r [] w values high) in
      read_once spells one_spelling (written text r) h s r reads.spelled again
