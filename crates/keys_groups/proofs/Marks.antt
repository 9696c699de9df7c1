-- Entries that are found by their names, and marks in buckets.
use Rattle.std.proofs.Common.{ℕ, zero, suc, ◌≡◌, ◌<◌, ◌≤◌, ◌+◌, arith, length, true, false, cond, List, [], ◌∷◌, ◌++◌, Some, Vec, refl, sym, ap, ◌∙◌, subst, get_or, inl, inr}
use Rattle.std.specs.Option.{option_map}
use Rattle.std.specs.Ordering.{nat_cmp}
use Rattle.std.specs.BTreeMap.{BTreeMap, get_by, UpdatesBy}
use Rattle.std.specs.Prelude.{◌⊎◌, slice_get, slice_set}
use Rattle.std.proofs.lemmas.Bool.{cases_lt, cases_eq}
use Rattle.std.specs.Str.{bytes_eq}
use Rattle.std.specs.Cmp.Lexicographic.{slice_cmp, bytes_decides, nat_list_eq_equiv}
use Rattle.std.proofs.lemmas.Option.{slice_get-map, slice_get_read, slice_get_past, get_or_from_slice_get, none-some, same_Some}
use Rattle.keys_groups.specs.Names.{texts_of, name_hash, Mark, Level, tag_of, mark_of, bucket_of, HasMark, IsReachedIn, is_named}
use Rattle.keys_groups.proofs.Entries.{changed_at}

module _ {A V : Type 0} (entries : List (Vec ℕ A × V)) where
  -- the entry that was read has the name of its number
  pub text_at : (number : ℕ) (entry : Vec ℕ A × V) → number < length entries → entry ≡ get_or entries number entry → slice_get (texts_of entries) number ≡ Some entry.0.items
  text_at number entry within is = slice_get-map (λ (e : Vec ℕ A × V). e.0.items) entries number ∙ ap (option_map (λ (e : Vec ℕ A × V). e.0.items)) (slice_get_read entries (length entries) number entry refl within is)

  pub named_at : (number : ℕ) (entry : Vec ℕ A × V) (name : List ℕ) → number < length entries → entry ≡ get_or entries number entry → bytes_eq entry.0.items name ≡ true → slice_get (texts_of entries) number ≡ Some name
  named_at number entry name within is same = text_at number entry within is ∙ ap Some ((bytes_decides entry.0.items name).0 same)

  pub other_at : (number : ℕ) (entry : Vec ℕ A × V) (name : List ℕ) → number < length entries → entry ≡ get_or entries number entry → bytes_eq entry.0.items name ≡ false → slice_get (texts_of entries) number ≡ Some name → ⊥
  other_at number entry name within is apart there =
      let same : entry.0.items ≡ name = same_Some entry.0.items name (sym (text_at number entry within is) ∙ there) in
      absurd (cc (sym (ap (λ t. bytes_eq t name) same ∙ nat_list_eq_equiv.refl name) ∙ apart))

  pub past_all : (number : ℕ) (name : List ℕ) → length entries ≤ number → slice_get (texts_of entries) number ≡ Some name → ⊥
  past_all number name past there =
      none-some name (sym (slice_get-map (λ (e : Vec ℕ A × V). e.0.items) entries number ∙ ap (option_map (λ (e : Vec ℕ A × V). e.0.items)) (slice_get_past entries number past)) ∙ there)

-- ---- lists that are changed at one place

module _ {X : Type 0} where
  pub get_set_same : (xs : List X) (i : ℕ) (x : X) → i < length xs → slice_get (slice_set xs i x) i ≡ Some x
  get_set_same [] i x within = absurd (omega (arith, within))
  get_set_same (y ∷ xs) zero x within = refl
  get_set_same (y ∷ xs) (suc i) x within = get_set_same xs i x (omega (arith, within))

  pub get_set_other : (xs : List X) (i j : ℕ) (x : X) → (i ≡ j → ⊥) → slice_get (slice_set xs i x) j ≡ slice_get xs j
  get_set_other [] i j x apart = refl
  get_set_other (y ∷ xs) zero zero x apart = absurd (apart refl)
  get_set_other (y ∷ xs) zero (suc j) x apart = refl
  get_set_other (y ∷ xs) (suc i) zero x apart = refl
  get_set_other (y ∷ xs) (suc i) (suc j) x apart = get_set_other xs i j x (λ same. apart (ap suc same))

  pub get_before : (xs more : List X) (i : ℕ) (x : X) → slice_get xs i ≡ Some x → slice_get (xs ++ more) i ≡ Some x
  get_before [] more i x is = absurd (none-some x is)
  get_before (y ∷ xs) more zero x is = is
  get_before (y ∷ xs) more (suc i) x is = get_before xs more i x is

  pub get_last : (xs : List X) (x : X) → slice_get (xs ++ x ∷ []) (length xs) ≡ Some x
  get_last [] x = refl
  get_last (y ∷ xs) x = get_last xs x

-- ---- marks in buckets

-- one place more of a bucket is not that of a name
pub no_place : (bucket : List Mark) (hash tag at : ℕ) (d : Mark) (P : ℕ → Type 0) → tag ≡ tag_of hash →
    ((place number : ℕ) → place < at → slice_get bucket place ≡ Some (mark_of hash number) → P number → ⊥) →
    ((number : ℕ) → get_or bucket at d ≡ record { tag = tag; next = number + 1 } → P number → ⊥) →
    (place number : ℕ) → place < at + 1 → slice_get bucket place ≡ Some (mark_of hash number) → P number → ⊥
no_place bucket hash tag at d P same before here place number within is holds = elim (cases_lt place at) [
  | inl lt ↦ before place number lt is holds
  | inr past ↦
      let there : slice_get bucket at ≡ Some (mark_of hash number) = subst (λ (k : ℕ). slice_get bucket k ≡ Some (mark_of hash number)) (omega (arith, within, past)) is in
      here number (get_or_from_slice_get bucket at (mark_of hash number) d there ∙ ap (λ (t : ℕ). record { tag = t; next = number + 1 }) (sym same)) holds
]

module _ (buckets : List (List Mark)) (at place : ℕ) (marks : List Mark) (free mark : Mark) where
  -- a mark at a free place
  abbrev pub with_mark : List (List Mark)
  with_mark = slice_set buckets at (slice_set marks place mark)

  pub marks_kept : at < length buckets → slice_get buckets at ≡ Some marks → slice_get marks place ≡ Some free → free.next ≡ 0 → (bucket hash number : ℕ) → HasMark buckets bucket hash number → HasMark with_mark bucket hash number
  marks_kept inside here there is_free bucket hash number has = elim (cases_eq at bucket) [
    | inl same ↦
        let own : has.0 ≡ marks = same_Some has.0 marks (sym has.2 ∙ ap (slice_get buckets) (sym same) ∙ here) in
        let is : slice_get marks has.1 ≡ Some (mark_of hash number) = subst (λ (m : List Mark). slice_get m has.1 ≡ Some (mark_of hash number)) own has.3 in
        let apart : place ≡ has.1 → ⊥ = λ tie.
        let one : free ≡ mark_of hash number = same_Some free (mark_of hash number) (sym there ∙ ap (slice_get marks) tie ∙ is) in
        absurd (omega (arith, sym is_free ∙ ap (λ (m : Mark). m.next) one)) in (
          slice_set marks place mark,
          has.1,
          subst (λ (b : ℕ). slice_get with_mark b ≡ Some (slice_set marks place mark)) same (get_set_same buckets at (slice_set marks place mark) inside),
          get_set_other marks place has.1 mark apart ∙ is,
        )
    | inr apart ↦ (has.0, has.1, get_set_other buckets at bucket (slice_set marks place mark) apart ∙ has.2, has.3)
  ]

  pub mark_put : at < length buckets → place < length marks → (hash number : ℕ) → mark ≡ mark_of hash number → HasMark with_mark at hash number
  mark_put inside within hash number is = (
    slice_set marks place mark,
    place,
    get_set_same buckets at (slice_set marks place mark) inside,
    get_set_same marks place mark within ∙ ap Some is,
  )

-- a hash that is reached stays so if marks are kept
pub still_reached : (old new : List (List Mark)) (levels : List Level) (hash number : ℕ) → ((bucket : ℕ) → HasMark old bucket hash number → HasMark new bucket hash number) → IsReachedIn old levels hash number → IsReachedIn new levels hash number
still_reached old new [] hash number kept reached = absurd reached
still_reached old new (level ∷ levels) hash number kept (inl here) = inl (kept (bucket_of level hash) here)
still_reached old new (level ∷ levels) hash number kept (inr there) = inr (still_reached old new levels hash number kept there)

-- ---- one name more

-- a list with one element more has the old ones at their places, and this one behind them
last_or_before : {X : Type 0} (xs : List X) (last : X) (i : ℕ) (x : X) → slice_get (xs ++ last ∷ []) i ≡ Some x → (slice_get xs i ≡ Some x) ⊎ ((i ≡ length xs) × (x ≡ last))
last_or_before [] last zero x is = inr (refl, same_Some x last (sym is))
last_or_before [] last (suc i) x is = absurd (none-some x is)
last_or_before (y ∷ xs) last zero x is = inl is
last_or_before (y ∷ xs) last (suc i) x is = elim (last_or_before xs last i x is) [
  | inl before ↦ inl before
  | inr here ↦ inr (ap suc here.0, here.1)
]

-- what held of each name and its number holds of one more, if it still holds of the others
pub one_more : (texts : List (List ℕ)) (name : List ℕ) (number : ℕ) (Old New : List ℕ → ℕ → Type 0) → number ≡ length texts →
    ((n : ℕ) (m : List ℕ) → slice_get texts n ≡ Some m → Old m n) → ((n : ℕ) (m : List ℕ) → slice_get texts n ≡ Some m → Old m n → New m n) → New name number →
    (n : ℕ) (m : List ℕ) → slice_get (texts ++ name ∷ []) n ≡ Some m → New m n
one_more texts name number Old New counted old kept here n m there = elim (last_or_before texts name n m there) [
  | inl before ↦ kept n m before (old n m before)
  | inr last ↦ subst (λ (k : ℕ). New m k) (counted ∙ sym last.0) (subst (λ (t : List ℕ). New t number) (sym last.1) here)
]

-- marks are kept, and one is put
pub put_more : (texts : List (List ℕ)) (name : List ℕ) (number : ℕ) (old new : List (List Mark)) (levels more : List Level) (Other : List ℕ → ℕ → Type 0) → number ≡ length texts →
    ((n : ℕ) (m : List ℕ) → slice_get texts n ≡ Some m → IsReachedIn old levels (name_hash m) n ⊎ Other m n) →
    ((hash n : ℕ) → IsReachedIn old levels hash n → IsReachedIn new more hash n) → IsReachedIn new more (name_hash name) number →
    (n : ℕ) (m : List ℕ) → slice_get (texts ++ name ∷ []) n ≡ Some m → IsReachedIn new more (name_hash m) n ⊎ Other m n
put_more texts name number old new levels more Other counted index kept here =
    one_more texts name number (λ m n. IsReachedIn old levels (name_hash m) n ⊎ Other m n) (λ m n. IsReachedIn new more (name_hash m) n ⊎ Other m n) counted index
    (λ n m there one. elim one [ inl reached ↦ inl (kept (name_hash m) n reached) | inr other ↦ inr other ]) (inl here)

-- the marks are kept, and nothing is put
pub put_none : (texts : List (List ℕ)) (old new : List (List Mark)) (levels more : List Level) (Other : List ℕ → ℕ → Type 0) →
    ((n : ℕ) (m : List ℕ) → slice_get texts n ≡ Some m → IsReachedIn old levels (name_hash m) n ⊎ Other m n) →
    ((hash n : ℕ) → IsReachedIn old levels hash n → IsReachedIn new more hash n) →
    (n : ℕ) (m : List ℕ) → slice_get texts n ≡ Some m → IsReachedIn new more (name_hash m) n ⊎ Other m n
put_none texts old new levels more Other index kept n m there = elim (index n m there) [
  | inl reached ↦ inl (kept (name_hash m) n reached)
  | inr other ↦ inr other
]

-- the tree has the name now
pub other_more : {A : Type 0} (texts : List (List ℕ)) (name : List ℕ) (number : ℕ) (Reached : List ℕ → ℕ → Type 0) (old new : BTreeMap (Vec ℕ A) ℕ) → number ≡ length texts →
    ((n : ℕ) (m : List ℕ) → slice_get texts n ≡ Some m → Reached m n ⊎ is_named old m n) → ((before : ℕ) → slice_get texts before ≡ Some name → ⊥) →
    UpdatesBy (λ x y. slice_cmp nat_cmp x.items y.items) (λ k. slice_cmp nat_cmp name k.items) old new (Some number) →
    (n : ℕ) (m : List ℕ) → slice_get (texts ++ name ∷ []) n ≡ Some m → Reached m n ⊎ is_named new m n
other_more texts name number Reached old new counted index absent updates =
    one_more texts name number (λ m n. Reached m n ⊎ is_named old m n) (λ m n. Reached m n ⊎ is_named new m n) counted index
    (λ n m there one. elim one [
      | inl reached ↦ inl reached
      | inr other ↦ inr (changed_at name old new (Some number) updates m ∙ (elim (bytes_eq name m) as (λ b. bytes_eq name m ≡ b → cond b (Some number) (get_by (λ k. slice_cmp nat_cmp m k.items) old) ≡ Some n) [
        | true ↦ λ same. absurd (absent n (there ∙ ap Some (sym ((bytes_decides name m).0 same))))
        | false ↦ λ apart. other
      ]) refl)
    ])
    (inr updates.1)
