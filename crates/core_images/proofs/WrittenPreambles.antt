-- The preamble that is written before the entries of an image.
use Rattle.std.proofs.Common.{◌≡◌, ℕ, ◌*◌, ◌<◌, inl, inr, Bool, true, false, cond, List, [], ◌∷◌, ◌++◌, length, take, refl, sym, subst, ◌∙◌, arith, lt-ltb, le-ltb, eq-eqb}
use Rattle.std.proofs.lemmas.Bool.{cases_lt, cases_eq, ne_eqb}
use Rattle.std.specs.Int.{w16, w32, w64, to_le_bytes}
use Rattle.std.specs.List.{flat_map}
use Rattle.std.specs.Prelude.{slice_index_or}
use Rattle.core_compact.specs.CompactState.{Compact, IsCompact}
use Rattle.core_images.specs.Write.{longs_of, written_image, written_preamble}
use Rattle.core_images.proofs.ReadAgain.{is_empty_compact}
use Rattle.core_laws.specs.declared.TheConstants.{MAX_THETA}

-- the bytes of a preamble of three longs, with the seed hash, the count and theta as bytes
abbrev pub bytes_of : (longs family kind flags : ℕ) (h c t : List ℕ) → List ℕ
bytes_of longs family kind flags h c t =
    longs ∷ 3 ∷ family ∷ kind ∷ 0 ∷ flags ∷ slice_index_or h 0 0 ∷ slice_index_or h 1 0
    ∷ slice_index_or c 0 0 ∷ slice_index_or c 1 0 ∷ slice_index_or c 2 0 ∷ slice_index_or c 3 0 ∷ 0 ∷ 0 ∷ 0 ∷ 0
    ∷ slice_index_or t 0 0 ∷ slice_index_or t 1 0 ∷ slice_index_or t 2 0 ∷ slice_index_or t 3 0
    ∷ slice_index_or t 4 0 ∷ slice_index_or t 5 0 ∷ slice_index_or t 6 0 ∷ slice_index_or t 7 0 ∷ []

module _ {X : Type 0} (family kind : ℕ) (s : Compact X) where
  abbrev no_bytes : X → List ℕ
  no_bytes x = []

  no_text : (xs : List X) → flat_map no_bytes xs ≡ []
  no_text [] = refl
  no_text (x ∷ xs) = no_text xs

  abbrev longs_in : ℕ
  longs_in = cond s.empty 1 (longs_of s)

  abbrev flags_in : ℕ
  flags_in = cond s.empty 0x1e (cond s.ordered 0x1a 0x0a)

  abbrev seed_in : ℕ
  seed_in = cond s.empty 0 s.seed_hash

  abbrev Is : Type 0
  Is = take (8 * longs_in) (bytes_of longs_in family kind flags_in (to_le_bytes w16 seed_in) (to_le_bytes w32 (length s.entries)) (to_le_bytes w64 s.theta)) ≡ written_preamble family kind s

  preamble_is : Is
  preamble_is =
      (elim s.empty as (λ b. s.empty ≡ b → Is) [
        | true ↦ λ e. rw e refl
        | false ↦ λ e.
            elim (cases_lt s.theta MAX_THETA) [
              | inl lt ↦ rw (e, lt-ltb s.theta MAX_THETA lt, no_text s.entries) refl
              | inr le ↦
                  elim (cases_eq (length s.entries) 1) [
                    | inl one ↦ rw (e, le-ltb s.theta MAX_THETA le, eq-eqb (length s.entries) 1 one, no_text s.entries) refl
                    | inr more ↦ rw (e, le-ltb s.theta MAX_THETA le, ne_eqb (length s.entries) 1 more, no_text s.entries) refl
                  ]
            ]
      ]) refl

  -- the first bytes of the three longs are the preamble
  pub preamble_as : (longs flags : ℕ) (h c t : List ℕ) → longs ≡ longs_in → flags ≡ flags_in → h ≡ to_le_bytes w16 seed_in → c ≡ to_le_bytes w32 (length s.entries) → t ≡ to_le_bytes w64 s.theta
      → take (8 * longs) (bytes_of longs family kind flags h c t) ≡ written_preamble family kind s
  preamble_as longs flags h c t el ef eh ec et = (λ i. take (8 * el i) (bytes_of (el i) family kind (ef i) (eh i) (ec i) (et i))) ∙ preamble_is

  module _ (text : X → List ℕ) (key : X → ℕ) where
    abbrev Begins : Compact X → Type 0
    Begins t = written_image text family kind t ≡ written_preamble family kind t ++ flat_map text t.entries

    -- an image is its preamble, and then the bytes of each entry
    pub preamble_first : IsCompact key s → Begins s
    preamble_first w =
        (elim s.empty as (λ b. s.empty ≡ b → Begins s) [
          | true ↦ λ e. subst Begins (sym (is_empty_compact key s w e)) refl
          | false ↦ λ e.
              elim (cases_lt s.theta MAX_THETA) [
                | inl lt ↦ rw (e, lt-ltb s.theta MAX_THETA lt, no_text s.entries) refl
                | inr le ↦
                    elim (cases_eq (length s.entries) 1) [
                      | inl one ↦ rw (e, le-ltb s.theta MAX_THETA le, eq-eqb (length s.entries) 1 one, no_text s.entries) refl
                      | inr more ↦ rw (e, le-ltb s.theta MAX_THETA le, ne_eqb (length s.entries) 1 more, no_text s.entries) refl
                    ]
              ]
        ]) refl
