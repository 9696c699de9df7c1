-- Images of tuple sketches, and sketches of their keys.
use Rattle.std.proofs.Common.{◌≡◌, ℕ, ◌+◌, ◌<◌, ◌^◌, inl, inr, Bool, true, false, cond, List, [], ◌∷◌, ◌++◌, length, map, take, drop, Option, Result, Ok, Err, refl, sym, ap, subst, ◌∙◌, arith, append-nil, get_or, lt-ltb, le-ltb, eq-eqb}
use Rattle.std.proofs.lemmas.Bool.{cases_lt, cases_eq, ne_eqb}
use Rattle.std.proofs.lemmas.List.{take_more, length-map}
use Rattle.std.specs.Int.{w64, to_le_bytes}
use Rattle.std.specs.List.{flat_map}
use Rattle.core_laws.specs.declared.TheConstants.{MAX_THETA}
use Rattle.core_compact.specs.CompactState.{Compact, IsCompact}
use Rattle.core_images.specs.Entry.{SpellsHash, SpellsEach, state_after_preamble}
use Rattle.core_images.specs.HashSpelling.{one_hash, hash_written}
use Rattle.core_images.specs.Read.{LeavesOpen, IsUnread, kind_of}
use Rattle.core_images.specs.declared.flaw.Flaw.{Flaw as ImageFlaw}
use Rattle.core_images.specs.declared.flaw.ReadError.{ReadError}
use Rattle.core_images.specs.declared.flaw.ReadError.TheVariants.{Flawed, OutOfMemory as NoMemory}
use Rattle.core_images.specs.declared.preamble.ImageLayout.{ImageLayout}
use Rattle.core_images.specs.declared.preamble.ImageLayout.TheVariants.{Empty, Filled}
use Rattle.core_images.specs.Head.{tuple_layout}
use Rattle.core_images.specs.Summary.{SpellsTuple, tuple_text}
use Rattle.core_images.specs.SummarySpelling.{tuple_long}
use Rattle.core_images.proofs.ReadAgain.{is_empty_compact}
use Rattle.core_images.proofs.SpelledEntries.{each_one, each_more}
use Rattle.core_laws.specs.Entries.{hash_key}
use Rattle.core_slots.specs.Entry.{tuple_key}
use Rattle.core_slots.specs.declared.entry.TupleEntry.{TupleEntry}
use Rattle.keys_sketches.specs.Header.{file_flaw, is_hexadecimal}
use Rattle.keys_sketches.specs.declared.header.Flaw.{Flaw}
use Rattle.keys_sketches.specs.declared.header.Flaw.TheVariants.{Hexadecimal, Image}
use Rattle.sketch_base.specs.Seed.{seed_hash}
use Rattle.tuple_sketches.specs.Image.{Reads, written as tuples_written}
use Rattle.tuple_sketches.proofs.ImageLayouts.{layout_from}
use Rattle.c_objects.specs.Flaws.{IsFinding}
use Rattle.c_objects.specs.Settings.{order_number}
use Rattle.c_objects.specs.Status.{IsUnreadStatus, status_of}
use Rattle.c_objects.specs.Thetas.{state_of}
use Rattle.c_objects.specs.Tuples.{tuple_preamble, keys_of, IsLayoutOf, IsLayoutOfKeys, keys_by, state_in, IsNoForm, IsFormOf, IsFormRefusal}
use Rattle.c_objects.specs.declared.compact.CompactSketch.{CompactSketch}
use Rattle.c_objects.specs.declared.flaws.Finding.{Finding}
use Rattle.c_objects.specs.declared.state.State.{State}

-- ---- flaws

-- whether bytes are a text of digits doesn't depend on the flaw of their image
chosen_hexadecimal : (t : Bool) (a b : ImageFlaw) → cond t Hexadecimal (Image a) ≡ Hexadecimal → cond t Hexadecimal (Image b) ≡ Hexadecimal
chosen_hexadecimal true a b e = refl
chosen_hexadecimal false a b e = absurd (cc)

chosen_image : (t : Bool) (a b f : ImageFlaw) → cond t Hexadecimal (Image a) ≡ Image f → cond t Hexadecimal (Image b) ≡ Image b
chosen_image true a b f e = absurd (cc)
chosen_image false a b f e = refl

pub hexadecimal_as : (bytes : List ℕ) (a b : ImageFlaw) → file_flaw a bytes ≡ Hexadecimal → file_flaw b bytes ≡ Hexadecimal
hexadecimal_as bytes a b e = chosen_hexadecimal (is_hexadecimal bytes) a b e

pub image_as : (bytes : List ℕ) (a b f : ImageFlaw) → file_flaw a bytes ≡ Image f → file_flaw b bytes ≡ Image b
image_as bytes a b f e = chosen_image (is_hexadecimal bytes) a b f e

-- what was found is that of an equal flaw and length
pub found_as : (f g : Flaw) (l m : Option ℕ) (x : Finding) → f ≡ g → l ≡ m → IsFinding g m x → IsFinding f l x
found_as f g l m x ef el p =
    let P : Flaw → Type 0 = λ k. IsFinding k m x in
    let Q : Option ℕ → Type 0 = λ k. IsFinding f k x in
    subst Q (sym el) (subst P (sym ef) p)

-- ---- preambles

abbrev no_bytes : ℕ → List ℕ
no_bytes x = []

no_text : (xs : List ℕ) → flat_map no_bytes xs ≡ []
no_text [] = refl
no_text (x ∷ xs) = no_text xs

module _ {S : Type 0} (text : S → List ℕ) where
  abbrev Begins : Compact (TupleEntry S) → Type 0
  Begins t = tuples_written text t ≡ tuple_preamble (keys_of t) ++ flat_map (tuple_text text) t.entries

  module _ (t : Compact (TupleEntry S)) where
    count : length (map tuple_key t.entries) ≡ length t.entries
    count = length-map t.entries tuple_key

    -- the image of tuples is the preamble of their keys, and then each tuple
    pub preamble_first : IsCompact tuple_key t → Begins t
    preamble_first w =
        (elim t.empty as (λ b. t.empty ≡ b → Begins t) [
          | true ↦ λ e. subst Begins (sym (is_empty_compact tuple_key t w e)) refl
          | false ↦ λ e.
              elim (cases_lt t.theta MAX_THETA) [
                | inl lt ↦ rw (e, lt-ltb t.theta MAX_THETA lt, no_text (map tuple_key t.entries), count) refl
                | inr le ↦
                    elim (cases_eq (length t.entries) 1) [
                      | inl one ↦ rw (e, le-ltb t.theta MAX_THETA le, no_text (map tuple_key t.entries), count, eq-eqb (length t.entries) 1 one) refl
                      | inr more ↦ rw (e, le-ltb t.theta MAX_THETA le, no_text (map tuple_key t.entries), count, ne_eqb (length t.entries) 1 more) refl
                    ]
              ]
        ]) refl

module _ {S : Type 0} (Spells : List ℕ → S → Type 0) (bytes : List ℕ) (h : ℕ) (t : Compact (TupleEntry S)) where
  layout_keys : (found : Result ImageLayout ImageFlaw) → LeavesOpen tuple_key (SpellsTuple Spells) bytes h found t → IsLayoutOfKeys found h t
  layout_keys (Err flaw) q = absurd q
  layout_keys (Ok Empty) q = ap (λ (c : Compact (TupleEntry S)). keys_of c) (sym q)
  layout_keys (Ok (Filled m)) q =
      let P : Compact (TupleEntry S) → Type 0 = λ c. keys_by (Filled m) h (map tuple_key c.entries) ≡ keys_of c in
      subst P (sym q.1) refl

  -- the head of bytes that are read as tuples is that of their keys
  pub head_keys : Reads Spells bytes h t → IsLayoutOfKeys (tuple_layout 8 h bytes) h t
  head_keys r = layout_keys (tuple_layout 8 h bytes) (layout_from Spells bytes h 8 (λ a x spelled. tuple_long Spells a x spelled) t r)

-- ---- hashes that are read by a layout without a preamble

drop_none : (n : ℕ) (bytes : List ℕ) → n ≡ 0 → drop n bytes ≡ bytes
drop_none n bytes e = ap (λ (k : ℕ). drop k bytes) e

no_hashes : (hashes : List ℕ) → length hashes ≡ 0 → hashes ≡ []
no_hashes [] e = refl
no_hashes (h ∷ hashes) e = absurd (omega arith)

-- the bytes of one hash more
pub one_more : (hashes bytes more : List ℕ) (at : ℕ) → at < length hashes → get_or hashes at 0 < 2 ^ 64 → more ≡ bytes ++ to_le_bytes w64 (get_or hashes at 0)
    → SpellsEach SpellsHash bytes (take at hashes) → SpellsEach SpellsHash more (take (at + 1) hashes)
one_more hashes bytes more at lt small is spelled =
    let h = get_or hashes at 0 in
    let P : List ℕ → Type 0 = λ text. SpellsEach SpellsHash text (take (at + 1) hashes) in
    let Q : List ℕ → Type 0 = λ list. SpellsEach SpellsHash (bytes ++ to_le_bytes w64 h) list in
    subst P (sym is) (subst Q (sym (take_more hashes at 0 lt)) (each_more SpellsHash one_hash (take at hashes) h bytes (to_le_bytes w64 h) spelled (hash_written h small)))

module _ (state : State) (order h : ℕ) (bytes hashes : List ℕ) (spelled : SpellsEach SpellsHash bytes hashes) where
  -- what is read is the sketch of the layout and the hashes
  pub read_keys : (layout : ImageLayout) (s : Compact ℕ) → IsLayoutOf state order (length hashes) layout → LeavesOpen hash_key SpellsHash bytes h (Ok layout) s → s ≡ keys_by layout h hashes
  read_keys Empty s p q = q
  read_keys (Filled m) s p q =
      let f = q.2.content in
      let all : f.text ++ f.after ≡ bytes ++ [] = sym f.there ∙ drop_none m.start bytes p.3 ∙ sym (append-nil bytes) in
      let same : q.0 ≡ hashes = each_one SpellsHash one_hash q.0 hashes f.text bytes f.after [] f.spelled spelled all (f.counted ∙ sym p.2) in
      q.1 ∙ ap (λ (xs : List ℕ). state_after_preamble m h xs) same

  -- that sketch is read if it keeps the laws of sketches
  pub kept_keys : (layout : ImageLayout) → IsLayoutOf state order (length hashes) layout → IsCompact hash_key (keys_by layout h hashes) → LeavesOpen hash_key SpellsHash bytes h (Ok layout) (keys_by layout h hashes)
  kept_keys Empty p w = refl
  kept_keys (Filled m) p w =
      let none = p.3 in (
        hashes,
        refl,
        record {
          whole = omega arith;
          content = record { text = bytes; after = []; there = drop_none m.start bytes p.3 ∙ sym (append-nil bytes); spelled = spelled; counted = p.2 };
          lawful = w.shown;
        },
      )

  -- the status of an error of reading
  pub keys_unread : (layout : ImageLayout) (flaw : ImageFlaw) (reason : ReadError) → IsLayoutOf state order (length hashes) layout
      → IsUnread ((s : Compact ℕ) × LeavesOpen hash_key SpellsHash bytes h (Ok layout) s) flaw reason
      → IsUnreadStatus (IsCompact hash_key (keys_by layout h hashes)) (status_of (kind_of reason))
  keys_unread layout flaw NoMemory p u = inl refl
  keys_unread layout flaw (Flawed f) p u = inr (refl, λ w. u.1 (keys_by layout h hashes, kept_keys layout p w))

-- ---- the sketch of a state, an order and hashes

module _ (state : State) (order seed : ℕ) (hashes : List ℕ) where
  pub form_of : (layout : ImageLayout) (s : CompactSketch) → IsLayoutOf state order (length hashes) layout → s.sketch ≡ keys_by layout (seed_hash seed) hashes → 0 < seed_hash seed → IsFormOf state order hashes seed s
  form_of Empty s p e low =
      let none = no_hashes hashes p.2 in (
        ap (λ (c : Compact ℕ). state_of c) e ∙ sym p.0,
        ap (λ (c : Compact ℕ). order_number c.ordered) e ∙ sym p.1,
        ap (λ (c : Compact ℕ). c.entries) e ∙ sym none,
        ap (λ (c : Compact ℕ). c.seed_hash) e,
        low,
      )
  form_of (Filled m) s p e low =
      let count = p.2 in
      let same : state_of (state_after_preamble m (seed_hash seed) hashes) ≡ state_in (Filled m) = λ i. record { retained = count i; theta = m.theta; empty = 0 } in (
        ap (λ (c : Compact ℕ). state_of c) e ∙ same ∙ sym p.0,
        ap (λ (c : Compact ℕ). order_number c.ordered) e ∙ sym p.1,
        ap (λ (c : Compact ℕ). c.entries) e,
        ap (λ (c : Compact ℕ). c.seed_hash) e,
        low,
      )

  is_marked : (b : Bool) → order_number b ≡ 1 → b ≡ true
  is_marked true e = refl
  is_marked false e = absurd (omega arith)

  is_unmarked : (b : Bool) → order_number b ≡ 0 → b ≡ false
  is_unmarked true e = absurd (omega arith)
  is_unmarked false e = refl

  one_order : (a b : Bool) → order_number a ≡ order_number b → a ≡ b
  one_order true true e = refl
  one_order true false e = absurd (omega arith)
  one_order false true e = absurd (omega arith)
  one_order false false e = refl

  -- no other sketch has them
  pub one_form : (layout : ImageLayout) (s : CompactSketch) → IsLayoutOf state order (length hashes) layout → IsFormOf state order hashes seed s → s.sketch ≡ keys_by layout (seed_hash seed) hashes
  one_form Empty s p f =
      let shown = f.0 ∙ p.0 in
      let empty = is_marked s.sketch.empty (ap (λ (t : State). t.empty) shown) in
      let theta = ap (λ (t : State). t.theta) shown in
      let ordered = is_marked s.sketch.ordered (f.1 ∙ p.1) in
      let entries = f.2 ∙ no_hashes hashes p.2 in
      let seeded = f.3 in
      λ i. record { empty = empty i; entries = entries i; theta = theta i; seed_hash = seeded i; ordered = ordered i }
  one_form (Filled m) s p f =
      let shown = f.0 ∙ p.0 in
      let empty = is_unmarked s.sketch.empty (ap (λ (t : State). t.empty) shown) in
      let theta = ap (λ (t : State). t.theta) shown in
      let ordered = one_order s.sketch.ordered m.ordered (f.1 ∙ p.1) in
      let entries = f.2 in
      let seeded = f.3 in
      λ i. record { empty = empty i; entries = entries i; theta = theta i; seed_hash = seeded i; ordered = ordered i }

  pub refused_form : IsNoForm state order (length hashes) → IsFormRefusal state order hashes seed 2
  refused_form none = inr (refl, λ it. none it.0 it.1 it.2.0 it.2.1 (ap length it.2.2))

  pub refused_keys : (layout : ImageLayout) (status : ℕ) → IsLayoutOf state order (length hashes) layout → IsUnreadStatus (IsCompact hash_key (keys_by layout (seed_hash seed) hashes)) status → IsFormRefusal state order hashes seed status
  refused_keys layout status p (inl memory) = inl memory
  refused_keys layout status p (inr u) = inr (u.0, λ it. u.1 (subst (IsCompact hash_key) (one_form layout it.0 p it.2) it.1))

  -- no seed hash is 0
  pub unseeded : seed_hash seed ≡ 0 → IsFormRefusal state order hashes seed 2
  unseeded none = inr (refl, λ it. absurd (omega (arith, none, it.2.4)))
