-- The entries that a reader found, and those that it didn't find.
use Rattle.std.proofs.Common.{◌≡◌, ℕ, ◌+◌, ◌*◌, ◌/◌, ◌<◌, ◌≤◌, ◌^◌, List, [], ◌∷◌, ◌++◌, length, drop, map, Ok, sym, ap, ◌∙◌, subst, inl, inr, arith, append_assoc, length-append}
use Rattle.std.proofs.lemmas.Nat.{le-div}
use Rattle.sketch_base.specs.declared.error.ErrorKind.{ErrorKind}
use Rattle.core_compact.specs.CompactState.{Compact, shown_of}
use Rattle.core_images.specs.Read.{IsRefused, IsUnread, LeavesOpen}
use Rattle.core_images.specs.Entry.{SpellsEach, Holds, state_after_preamble}
use Rattle.core_images.specs.Check.{AreHashes}
use Rattle.core_images.specs.declared.flaw.Flaw.{Flaw}
use Rattle.core_images.specs.declared.flaw.ReadError.{ReadError}
use Rattle.core_images.specs.declared.flaw.ReadError.TheVariants.{Flawed, OutOfMemory as NoMemory}
use Rattle.core_laws.specs.Shown.{IsShown}
use Rattle.core_images.specs.declared.preamble.ImageLayout.TheVariants.{Filled}
use Rattle.core_images.specs.declared.preamble.Preamble.{Preamble}
use Rattle.core_images.proofs.SpelledEntries.{each_more, next_one, holds_one}
use Rattle.core_images.proofs.AscendingTests.{hashes_from}

-- bytes that are refused, since they can't be read in one way, can't be read in a way that implies it
pub refused_weaker : {P Q : Type 0} (e : ErrorKind) → (Q → P) → IsRefused e P → IsRefused e Q
refused_weaker e f r = elim r [ inl memory ↦ inl memory | inr none ↦ inr (none.0, λ q. none.1 (f q)) ]

-- .. and so if a flaw is returned
pub unread_weaker : {P Q : Type 0} (flaw : Flaw) (e : ReadError) → (Q → P) → IsUnread P flaw e → IsUnread Q flaw e
unread_weaker flaw NoMemory f r = tt
unread_weaker flaw (Flawed found) f r = (r.0, λ q. r.1 (f q))

module _ {X : Type 0} (Spells : List ℕ → X → Type 0) (least : ℕ) (is_long : (a : List ℕ) (x : X) → Spells a x → least ≤ length a) where
  pub each_long : (xs : List X) (text : List ℕ) → SpellsEach Spells text xs → length xs * least ≤ length text
  each_long [] text s = omega arith
  each_long (x ∷ xs) text s =
      let joined = ap length s.2 ∙ length-append s.0 s.1 in
      let sum : length (x ∷ xs) * least ≡ least + length xs * least = omega arith in
      let first = is_long s.0 x s.3 in
      let others = each_long xs s.1 s.4 in
      omega arith

  -- bytes with room for fewer than `count` entries don't spell `count` entries
  pub too_many : (bytes : List ℕ) (count : ℕ) → 0 < least → length bytes / least < count → (xs : List X) × Holds Spells bytes count xs → ⊥
  too_many bytes count some limited found =
      let long = each_long found.0 found.1.text found.1.spelled in
      let joined = ap length found.1.there ∙ length-append found.1.text found.1.after in
      let fitting = le-div (length found.0) (length bytes) least some (omega arith) in
      let counted = found.1.counted in
      omega arith

module _ {X : Type 0} (Spells : List ℕ → X → Type 0) (one : (a b u v : List ℕ) (x y : X) → Spells a x → Spells b y → a ++ u ≡ b ++ v → (a ≡ b) × (x ≡ y)) where
  -- if no entry follows those that were read, there are no more
  pub next_of : (bytes text rest : List ℕ) (count n : ℕ) (xs : List X) → bytes ≡ text ++ rest → SpellsEach Spells text xs → length xs ≡ n → n < count
      → (ys : List X) × Holds Spells bytes count ys → (x : X) × (after : List ℕ) × ((first : List ℕ) × Spells first x × (rest ≡ first ++ after))
  next_of bytes text rest count n xs e s read less found =
      let counted = found.1.counted in
      let more : length xs < length found.0 = omega (arith, read, less, counted) in
      let next = next_one Spells one xs found.0 text found.1.text rest found.1.after s found.1.spelled (sym e ∙ found.1.there) more in
      (next.2, next.1, (next.0, next.3, next.4))

  -- one more entry has been read
  pub step : (bytes text rest first left : List ℕ) (xs : List X) (x : X) (n : ℕ) → bytes ≡ text ++ rest → SpellsEach Spells text xs → length xs ≡ n → Spells first x → rest ≡ first ++ left
      → (t : List ℕ) × (bytes ≡ t ++ left) × SpellsEach Spells t (xs ++ x ∷ []) × (length (xs ++ x ∷ []) ≡ n + 1)
  step bytes text rest first left xs x n e s count f r =
      (text ++ first, e ∙ ap (λ l. text ++ l) r ∙ sym (append_assoc text first left), each_more Spells one xs x text first s f, length-append xs (x ∷ []) ∙ ap (λ k. k + 1) count)

  module _ (key : X → ℕ) (bytes : List ℕ) (h : ℕ) (p : Preamble) where
    pub content_of : (s : Compact X) × LeavesOpen key Spells bytes h (Ok (Filled p)) s → (xs : List X) × Holds Spells (drop p.start bytes) p.count xs
    content_of found = (found.1.0, found.1.2.content)

    pub good_of : (xs : List X) → Holds Spells (drop p.start bytes) p.count xs → (s : Compact X) × LeavesOpen key Spells bytes h (Ok (Filled p)) s → AreHashes p.theta p.ordered (map key xs)
    good_of xs content found =
        let same = holds_one Spells one (drop p.start bytes) p.count found.1.0 xs found.1.2.content content in
        let P : List X → Type 0 = λ ys. IsShown (shown_of key (state_after_preamble p h ys)) in
        hashes_from key p h xs (subst P same found.1.2.lawful)
