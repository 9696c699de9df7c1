-- The heads of tuple images: each reading of the relation has a head, and each head is a reading.
use Rattle.std.proofs.Common.{◌≡◌, ℕ, ◌+◌, ◌<◌, ◌≤◌, Bool, true, false, cond, not, List, length, take, slice_index, Option, Some, Result, Ok, Err, ap, sym, subst, refl, ◌∙◌, inl, inr, arith, le-ltb, le-leb, eqb-true, ltb, leb, eqb, ◌&&◌, length-append}
use Rattle.std.specs.Prelude.{unwrap_or, IfOk}
use Rattle.std.proofs.lemmas.Bool.Decides.{nat_tests}
use Rattle.std.proofs.lemmas.Bool.{cases_eq, and_from}
use Rattle.core_compact.specs.CompactState.{Compact}
use Rattle.core_slots.specs.Entry.{tuple_key}
use Rattle.core_slots.specs.declared.entry.TupleEntry.{TupleEntry}
use Rattle.core_images.specs.Head.{longs_at, version_at, family_at, type_at, has_longs, flagged_head, tuple_head, tuple_layout, is_tuple_version, is_sketch_type, IsWholeLayout, count_of, length_of}
use Rattle.core_images.specs.Summary.{SpellsTuple}
use Rattle.core_images.specs.declared.flaw.Flaw.{Flaw}
use Rattle.core_images.specs.declared.flaw.Flaw.TheVariants.{Short, Family, Version, Malformed}
use Rattle.core_images.specs.declared.head.Head.{Head}
use Rattle.core_images.proofs.Fronts.{tuple_same, open_alone}
use Rattle.core_images.proofs.ImageLayouts.{Comes, Heads, IsWholeHead, along, chosen, both_true, not_false, flagged_from, flagged_to, tuple_whole, open_from, open_to, layout_whole}
use Rattle.tuple_sketches.specs.Image.{SpellsSketch, IsVersion, IsSketchType, Reads, BeginsWith}

version_test : (version : ℕ) → IsVersion version → is_tuple_version version ≡ true
version_test version read = elim read [ inl e ↦ rw e refl | inr e ↦ rw e refl ]

type_test : (kind : ℕ) → IsSketchType kind → is_sketch_type kind ≡ true
type_test kind read = elim read [ inl e ↦ rw e refl | inr e ↦ rw e refl ]

version_tested : (version : ℕ) → is_tuple_version version ≡ true → IsVersion version
version_tested version e = elim (cases_eq version 3) [ inl same ↦ inl same | inr other ↦ inr (grind (arith, nat_tests, e, other)) ]

type_tested : (kind : ℕ) → is_sketch_type kind ≡ true → IsSketchType kind
type_tested kind e = elim (cases_eq kind 1) [ inl same ↦ inl same | inr other ↦ inr (grind (arith, nat_tests, e, other)) ]

module _ {S : Type 0} (Spells : List ℕ → S → Type 0) (bytes : List ℕ) (h : ℕ) (size : ℕ) where
  abbrev Has : Result Head Flaw → Compact (TupleEntry S) → Type 0
  Has head s = Heads tuple_key (SpellsTuple Spells) bytes h head s

  begun : (s : Compact (TupleEntry S)) (r : SpellsSketch Spells bytes h s) → tuple_head size bytes ≡ flagged_head size bytes r.longs
  unfolding tuple_head
  begun s r =
      let b = r.begins in
      let fit : (leb 1 r.longs && leb r.longs 3) ≡ true = and_from (leb 1 r.longs) (leb r.longs 3) (le-leb 1 r.longs b.longs_low) (le-leb r.longs 3 b.longs_high) in
      rw (le-ltb (length bytes) 8 b.whole, b.family_is, b.version_is, version_test r.version r.version_read, b.longs_are, fit, type_test (type_at bytes) r.type_read) refl

  -- the head allows each reading
  pub tuple_from : (s : Compact (TupleEntry S)) → SpellsSketch Spells bytes h s → Has (tuple_head size bytes) s
  tuple_from s r = along tuple_key (SpellsTuple Spells) bytes h _ _ s (begun s r) (flagged_from tuple_key (SpellsTuple Spells) bytes h size r.longs r.filled)

  -- each state that the head allows is a reading
  pub tuple_to : (s : Compact (TupleEntry S)) → Has (tuple_head size bytes) s → SpellsSketch Spells bytes h s
  unfolding tuple_head
  tuple_to s q =
      let P : Result Head Flaw → Type 0 = λ head. Has head s in
      let longs = longs_at bytes in
      let version = version_at bytes in
      let family = family_at bytes in
      let kind = type_at bytes in
      let known = has_longs bytes && is_sketch_type kind in
      let last = cond (not known) (Err Malformed) (flagged_head size bytes longs) in
      let first = cond (not (is_tuple_version version)) (Err (Version version)) last in
      elim (chosen P (ltb (length bytes) 8) (Err Short) (cond (not (eqb family 9)) (Err (Family family)) first) q) [
        | inl a ↦ absurd a.1
        | inr a ↦ elim (chosen P (not (eqb family 9)) (Err (Family family)) first a.1) [
          | inl f ↦ absurd f.1
          | inr f ↦ elim (chosen P (not (is_tuple_version version)) (Err (Version version)) last f.1) [
            | inl v ↦ absurd v.1
            | inr v ↦ elim (chosen P (not known) (Err Malformed) (flagged_head size bytes longs) v.1) [
              | inl l ↦ absurd l.1
              | inr l ↦
                  let whole : 8 ≤ length bytes = grind (arith, nat_tests, a.0) in
                  let fit = both_true (has_longs bytes) (is_sketch_type kind) (not_false known l.0) in
                  let bounds = both_true (leb 1 longs) (leb longs 3) fit.0 in
                  let low : 1 ≤ longs = grind (arith, nat_tests, bounds.0) in
                  let high : longs ≤ 3 = grind (arith, nat_tests, bounds.1) in record {
                    longs = longs;
                    version = version;
                    begins = record { whole = whole; longs_are = refl; longs_low = low; longs_high = high; version_is = refl; family_is = eqb-true family 9 (not_false (eqb family 9) f.0) };
                    version_read = version_tested version (not_false (is_tuple_version version) v.0);
                    type_read = type_tested kind fit.1;
                    filled = flagged_to tuple_key (SpellsTuple Spells) bytes h size longs s low high l.1;
                  }
            ]
          ]
        ]
      ]

  -- ---- the layout for a reader

  pub whole_layout : IsWholeLayout bytes (tuple_layout size h bytes)
  whole_layout = layout_whole size bytes h (tuple_head size bytes) (tuple_whole size bytes)

  pub layout_from : ((a : List ℕ) (x : TupleEntry S) → SpellsTuple Spells a x → size ≤ length a) → (s : Compact (TupleEntry S)) → Reads Spells bytes h s → Comes tuple_key (SpellsTuple Spells) bytes h (tuple_layout size h bytes) s
  layout_from is_long s r = open_from tuple_key (SpellsTuple Spells) bytes h size is_long (tuple_head size bytes) s r.seeded (tuple_whole size bytes) (tuple_from s r.spelled)

  pub layout_to : (s : Compact (TupleEntry S)) → Comes tuple_key (SpellsTuple Spells) bytes h (tuple_layout size h bytes) s → Reads Spells bytes h s
  layout_to s q =
      let p = open_to tuple_key (SpellsTuple Spells) bytes h (length bytes) (tuple_head size bytes) s q in
      record { seeded = p.0; spelled = tuple_to s p.1 }

  -- a head that allows a state has a length
  head_length : (head : Result Head Flaw) (s : Compact (TupleEntry S)) → Has head s → length_of head ≡ Some (unwrap_or (length_of head) 0)
  head_length (Err flaw) s p = absurd p
  head_length (Ok head) s p = refl

  pub length_known : (s : Compact (TupleEntry S)) (n : ℕ) → Comes tuple_key (SpellsTuple Spells) bytes h (tuple_layout size h bytes) s → n ≡ unwrap_or (length_of (tuple_head size bytes)) 0 → length_of (tuple_head size bytes) ≡ Some n
  length_known s n q e =
      let p = open_to tuple_key (SpellsTuple Spells) bytes h (length bytes) (tuple_head size bytes) s q in
      head_length (tuple_head size bytes) s p.1 ∙ ap (λ (k : ℕ). Some k) (sym e)

-- ---- the image alone, if each summary has this size

pub sized_entry : {S : Type 0} (Spells : List ℕ → S → Type 0) (size : ℕ) → ((text : List ℕ) (x : S) → Spells text x → length text ≡ size) → (text : List ℕ) (e : TupleEntry S) → SpellsTuple Spells text e → length text ≡ 8 + size
sized_entry Spells size sized text e s =
    let joined = ap length s.2 ∙ length-append s.0 s.1 in
    let hash = s.3.0 in
    let summary = sized s.1 e.summary s.4 in
    omega (arith, joined, hash, summary)

-- what the preamble says of bytes that are read: where the image ends that alone is read as the same, and how many entries it has
pub record IsTold {S : Type 0} (Spells : List ℕ → S → Type 0) (size : ℕ) (bytes : List ℕ) (h : ℕ) (s : Compact (TupleEntry S)) : Type 0 where
  pub head : Head
  pub head_is : tuple_head size bytes ≡ Ok head
  pub begins : BeginsWith Spells size bytes h head.length s
  pub counted : count_of (tuple_head size bytes) ≡ length s.entries

module _ {S : Type 0} (Spells : List ℕ → S → Type 0) (size : ℕ) (sized : (text : List ℕ) (x : TupleEntry S) → SpellsTuple Spells text x → length text ≡ size) (bytes : List ℕ) (h : ℕ) (s : Compact (TupleEntry S)) where
  told_by : (found : Result Head Flaw) → 0 < h → tuple_head size bytes ≡ found → IsWholeHead size bytes found → Has Spells bytes h size found s → IsTold Spells size bytes h s
  told_by (Err flaw) nonzero e w p = absurd p
  told_by (Ok head) nonzero e w p =
      let n = head.length in
      let alone = open_alone tuple_key (SpellsTuple Spells) size sized bytes h head.layout n s w p.1 in
      let enough : n ≤ n = omega arith in
      let same = tuple_same bytes n head alone.0 enough alone.1 size e in record {
        head = head;
        head_is = e;
        begins = record {
          size_is = rw e refl;
          within = alone.1;
          alone = record { seeded = nonzero; spelled = tuple_to Spells (take n bytes) h size s (along tuple_key (SpellsTuple Spells) (take n bytes) h _ _ s same (p.0, alone.2)) };
        };
        counted = rw e alone.3;
      }

  pub told : Reads Spells bytes h s → IsTold Spells size bytes h s
  told r = told_by (tuple_head size bytes) r.seeded refl (tuple_whole size bytes) (tuple_from Spells bytes h size s r.spelled)

  pub begins_at : (n : ℕ) → Reads Spells bytes h s → length_of (tuple_head size bytes) ≡ Some n → BeginsWith Spells size bytes h n s
  begins_at n r length_is =
      let it = told r in
      let e : it.head.length ≡ n = ap (λ (o : Option ℕ). unwrap_or o 0) (sym it.begins.size_is ∙ length_is) in
      subst (λ (k : ℕ). BeginsWith Spells size bytes h k s) e it.begins

-- what holds of a result in two ways
pub ok_both : {X E : Type 0} {A B C : X → Type 0} (r : Result X E) → ((x : X) → A x → B x → C x) → IfOk r A → IfOk r B → IfOk r C
ok_both (Ok x) f a b = f x a b
ok_both (Err e) f a b = tt
