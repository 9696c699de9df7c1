-- Lines in groups: one line more, and the groups in their order.
use Rattle.std.proofs.Common.{ℕ, zero, suc, ◌+◌, ◌≡◌, ◌<◌, length, get_or, arith, Bool, true, false, cond, List, [], ◌∷◌, ◌++◌, map, Option, Some, None, Vec, refl, sym, ap, ◌∙◌, subst, inl, inr, append_assoc, append-nil}
use Rattle.std.specs.Prelude.{◌⊎◌, IsSome, slice_get, slice_set}
use Rattle.std.specs.List.{filter, All, Contains, IsDistinct}
use Rattle.std.specs.List.Sorted.{IsStrictlySortedBy, IsPermutation, IsSorted}
use Rattle.std.specs.declared.cmp.Ordering.TheVariants.{Less, Equal, Greater}
use Rattle.std.specs.Option.{option_map, unwrap_or}
use Rattle.std.specs.Str.{bytes_eq}
use Rattle.std.specs.Cmp.Lexicographic.{slice_cmp, bytes_decides, nat_list_eq_equiv}
use Rattle.std.specs.Ordering.{nat_cmp, is_lt, is_eq, ordering_reverse}
use Rattle.std.proofs.lemmas.Cmp.{nat_list_cmp_total}
use Rattle.std.proofs.lemmas.Option.{slice_get-get_or, same_Some}
use Rattle.std.proofs.lemmas.List.{get_or-map, length-map}
use Rattle.std.proofs.lemmas.List.Elements.{All-head, All-tail}
use Rattle.std.proofs.lemmas.List.Sorted.{IsPermutation-map, IsPermutation-sym, All-permutation, Contains-permutation}
use Rattle.std.proofs.lemmas.Map.Keys.{IsDistinct-IsPermutation, apart_from_distinct, sorted_from_all_adjacent}
use Rattle.std.proofs.lemmas.Map.Text.{is_eq-slice_cmp}
use Rattle.core_compact.specs.CompactState.{Compact}
use Rattle.core_state.specs.Updatable.{Updatable}
use Rattle.keys_lines.specs.Keys.{key_of}
use Rattle.keys_lines.specs.Lines.{lines_of, lines_of_all}
use Rattle.keys_lines.specs.declared.key.Hashing.{Hashing}
use Rattle.keys_sketches.specs.Keys.{LineState, IsAmong, line_state, new_state, with_line, with_lines}
use Rattle.keys_groups.specs.Groups.{lines_in, AreGroups, AreSketched, group_sketch, IsNext, IsFirst, ListsLines}
use Rattle.keys_groups.specs.declared.groups.Group.{Group}
use Rattle.keys_groups.specs.declared.groups.Groups.{Groups}
use Rattle.keys_groups.specs.States.{state_at, Changes, UpdatesGroup, AddsLine, state_of_lines, IsGrouped}
use Rattle.keys_groups.specs.declared.groups.Grouping.{Grouping}
use Rattle.keys_groups.specs.Names.{texts_of, NameIndex, IsIndex, AreNamed}
use Rattle.keys_groups.proofs.Entries.{value_at, among_texts, has_value}
use Rattle.keys_groups.proofs.NamedEntries.{found_at, text_got, changed_entry, pushed_at, not_found, same_texts, more_texts, distinct_more}

-- texts that are read one after another
pub lines_of_more : (texts : List (List ℕ)) (text : List ℕ) → lines_of_all (texts ++ text ∷ []) ≡ lines_of_all texts ++ lines_of text
lines_of_more [] text = append-nil (lines_of text)
lines_of_more (first ∷ texts) text = ap (λ ls. lines_of first ++ ls) (lines_of_more texts text) ∙ sym (append_assoc (lines_of first) (lines_of_all texts) (lines_of text))

pub filter_more : (test : List ℕ → Bool) (lines : List (List ℕ)) (line : List ℕ) → filter test (lines ++ line ∷ []) ≡ cond (test line) (filter test lines ++ line ∷ []) (filter test lines)
filter_more test [] line = refl
filter_more test (first ∷ lines) line =
    ap (λ ls. cond (test first) (first ∷ ls) ls) (filter_more test lines line)
    ∙ (elim (test first) as (λ b. cond b (first ∷ cond (test line) (filter test lines ++ line ∷ []) (filter test lines)) (cond (test line) (filter test lines ++ line ∷ []) (filter test lines)) ≡ cond (test line) (cond b (first ∷ filter test lines) (filter test lines) ++ line ∷ []) (cond b (first ∷ filter test lines) (filter test lines))) [
      | true ↦ (elim (test line) as (λ c. first ∷ cond c (filter test lines ++ line ∷ []) (filter test lines) ≡ cond c (first ∷ filter test lines ++ line ∷ []) (first ∷ filter test lines)) [ true ↦ refl | false ↦ refl ])
      | false ↦ refl
    ])

with_lines-more : (hashing : Hashing) (s : LineState) (lines : List (List ℕ)) (line : List ℕ) → with_lines hashing s (lines ++ line ∷ []) ≡ with_line hashing (with_lines hashing s lines) line
with_lines-more hashing s [] line = refl
with_lines-more hashing s (first ∷ lines) line = with_lines-more hashing (with_line hashing s first) lines line

some_inverse : (s t : LineState) → Some s ≡ Some t → s ≡ t
some_inverse s t same = ap (λ o. unwrap_or o s) same

some_map : (o : Option (Updatable ℕ)) → IsSome (option_map line_state o) → IsSome o
some_map None some = some
some_map (Some x) some = refl

map_some : (o : Option (Updatable ℕ)) → IsSome o → IsSome (option_map line_state o)
map_some None some = some
map_some (Some x) some = refl

map_cond : (b : Bool) (w : Updatable ℕ) (o : Option (Updatable ℕ)) → option_map line_state (cond b (Some w) o) ≡ cond b (Some (line_state w)) (option_map line_state o)
map_cond true w o = refl
map_cond false w o = refl

some_or : (f : LineState → LineState) (o : Option LineState) (s : LineState) → IsSome o → option_map f o ≡ Some (f (unwrap_or o s))
some_or f None s some = absurd (cc)
some_or f (Some t) s some = refl

-- ---- texts in another order

-- of two texts that differ, the first is lower if the second is not
less_if : (text other : List ℕ) → is_lt (slice_cmp nat_cmp other text) ≡ false → bytes_eq text other ≡ false → slice_cmp nat_cmp text other ≡ Less
less_if text other above apart =
    (elim (slice_cmp nat_cmp text other) as (λ o. slice_cmp nat_cmp text other ≡ o → o ≡ Less) [
      | Less ↦ λ _. refl
      | Equal ↦ λ is. absurd (cc (sym (sym (is_eq-slice_cmp text other) ∙ ap is_eq is) ∙ apart))
      | Greater ↦ λ is. absurd (cc (sym (ap is_lt (nat_list_cmp_total.antisymm other text ∙ ap ordering_reverse is)) ∙ above))
    ]) refl

contains_from : (text : List ℕ) (texts : List (List ℕ)) → IsAmong text texts → Contains texts text
contains_from text [] among = absurd among
contains_from text (first ∷ texts) (inl same) = (0, omega arith, sym same)
contains_from text (first ∷ texts) (inr among) =
    let there = contains_from text texts among in (suc there.0, omega (arith, there.1), there.2)

among_from : (text : List ℕ) (texts : List (List ℕ)) (k : ℕ) → k < length texts → get_or texts k text ≡ text → IsAmong text texts
among_from text [] k within is = absurd (omega (arith, within))
among_from text (first ∷ texts) zero within is = inl (sym is)
among_from text (first ∷ texts) (suc k) within is = inr (among_from text texts k (omega (arith, within)) is)

among_moved : (text : List ℕ) (texts others : List (List ℕ)) → IsPermutation texts others → IsAmong text texts → IsAmong text others
among_moved text texts others moved among =
    let there = Contains-permutation texts others text moved (contains_from text texts among) in among_from text others there.0 there.1 there.2

module _ (grouping : Grouping) where
  abbrev start : LineState
  start = new_state grouping.hashing.seed grouping.lg_k

  -- the state of one line more
  state_more : (lines : List (List ℕ)) (line : List ℕ) → state_of_lines grouping (lines ++ line ∷ []) ≡ Some (with_line grouping.hashing (unwrap_or (state_of_lines grouping lines) start) line)
  state_more [] line = refl
  state_more (first ∷ lines) line = ap Some (with_lines-more grouping.hashing start (first ∷ lines) line)

  state_some : (s : LineState) (lines : List (List ℕ)) → Some s ≡ state_of_lines grouping lines → s ≡ with_lines grouping.hashing start lines
  state_some s [] is = absurd (cc)
  state_some s (line ∷ lines) is = some_inverse s (with_lines grouping.hashing start (line ∷ lines)) is

  -- a line was inserted into its group
  pub grouped_more : {A : Type 0} (lines : List (List ℕ)) (line : List ℕ) (m n : List (Vec ℕ A × Updatable ℕ)) → IsGrouped grouping lines m → AddsLine grouping line m n → IsGrouped grouping (lines ++ line ∷ []) n
  grouped_more lines line m n grouped added name =
      let own = key_of grouping.by line in
      let test : List ℕ → Bool = λ l. bytes_eq (key_of grouping.by l) name in
      added name
      ∙ (elim (bytes_eq own name) as (λ b. bytes_eq own name ≡ b → cond b (Some (with_line grouping.hashing (unwrap_or (state_at m own) start) line)) (state_at m name) ≡ state_of_lines grouping (filter test (lines ++ line ∷ []))) [
        | true ↦ λ same.
            ap (λ o. Some (with_line grouping.hashing (unwrap_or o start) line)) (grouped own ∙ ap (λ k. state_of_lines grouping (lines_in grouping.by k lines)) ((bytes_decides own name).0 same))
            ∙ sym (state_more (filter test lines) line)
            ∙ ap (state_of_lines grouping) (sym (filter_more test lines line ∙ ap (λ b. cond b (filter test lines ++ line ∷ []) (filter test lines)) same))
        | false ↦ λ apart.
            grouped name ∙ ap (state_of_lines grouping) (sym (filter_more test lines line ∙ ap (λ b. cond b (filter test lines ++ line ∷ []) (filter test lines)) apart))
      ]) refl

  -- a group with a line has a state, and the other way round
  key_among : (name : List ℕ) (lines : List (List ℕ)) → IsSome (state_of_lines grouping (lines_in grouping.by name lines)) → IsAmong name (map (key_of grouping.by) lines)
  key_among name [] some = absurd (cc)
  key_among name (line ∷ lines) some =
      (elim (bytes_eq (key_of grouping.by line) name) as (λ b. bytes_eq (key_of grouping.by line) name ≡ b → IsSome (state_of_lines grouping (cond b (line ∷ lines_in grouping.by name lines) (lines_in grouping.by name lines))) → (name ≡ key_of grouping.by line) ⊎ IsAmong name (map (key_of grouping.by) lines)) [
        | true ↦ λ same here. inl (sym ((bytes_decides (key_of grouping.by line) name).0 same))
        | false ↦ λ apart there. inr (key_among name lines there)
      ]) refl some

  state_cond : (b : Bool) (line : List ℕ) (lines : List (List ℕ)) → IsSome (state_of_lines grouping lines) → IsSome (state_of_lines grouping (cond b (line ∷ lines) lines))
  state_cond true line lines some = refl
  state_cond false line lines some = some

  has_state : (name : List ℕ) (lines : List (List ℕ)) → IsAmong name (map (key_of grouping.by) lines) → IsSome (state_of_lines grouping (lines_in grouping.by name lines))
  has_state name [] among = absurd among
  has_state name (line ∷ lines) (inl same) =
      subst (λ (b : Bool). IsSome (state_of_lines grouping (cond b (line ∷ lines_in grouping.by name lines) (lines_in grouping.by name lines)))) (sym (ap (λ k. bytes_eq k name) (sym same) ∙ nat_list_eq_equiv.refl name)) refl
  has_state name (line ∷ lines) (inr among) = state_cond (bytes_eq (key_of grouping.by line) name) line (lines_in grouping.by name lines) (has_state name lines among)

  module _ {A : Type 0} where
    -- an entry has the state of its own lines
    abbrev HasOwn : List (List ℕ) → Vec ℕ A × Updatable ℕ → Type 0
    HasOwn lines entry = line_state entry.1 ≡ with_lines grouping.hashing start (lines_in grouping.by entry.0.items lines)

    all_own : (lines : List (List ℕ)) (entries : List (Vec ℕ A × Updatable ℕ)) → IsDistinct bytes_eq (texts_of entries) → IsGrouped grouping lines entries → All (HasOwn lines) entries
    all_own lines entries distinct grouped k d within =
        let entry = get_or entries k d in
        state_some (line_state entry.1) (lines_in grouping.by entry.0.items lines)
        (ap (option_map line_state) (sym (found_at entries k entry distinct (slice_get-get_or entries k d within))) ∙ grouped entry.0.items)

    all_sketched : (lines : List (List ℕ)) (entries : List (Vec ℕ A × Updatable ℕ)) → All (HasOwn lines) entries → AreSketched grouping lines (texts_of entries) entries
    all_sketched lines [] all = tt
    all_sketched lines (entry ∷ entries) all = (refl, All-head (HasOwn lines) entry entries all, all_sketched lines entries (All-tail (HasOwn lines) entry entries all))

    -- entries in the order of their names, no two of which are the same
    ascend_strictly : (entries : List (Vec ℕ A × Updatable ℕ)) → IsSorted (λ x y. slice_cmp nat_cmp x.0.items y.0.items) entries → IsDistinct bytes_eq (texts_of entries) → IsStrictlySortedBy (slice_cmp nat_cmp) (texts_of entries)
    unfolding IsStrictlySortedBy
    ascend_strictly [] sorted distinct = tt
    ascend_strictly (first ∷ rest) sorted distinct =
        let all = first ∷ rest in
        let text : Vec ℕ A × Updatable ℕ → List ℕ = λ entry. entry.0.items in
        let texts = texts_of all in
        sorted_from_all_adjacent nat_list_cmp_total texts [] (λ k within.
        let inside : k + 1 < length all = omega (arith, within, length-map all text) in
        less_if (get_or texts k []) (get_or texts (k + 1) [])
        (ap (λ t. is_lt (slice_cmp nat_cmp t (get_or texts k []))) (get_or-map text all (k + 1) first [] inside)
        ∙ ap (λ t. is_lt (slice_cmp nat_cmp (text (get_or all (k + 1) first)) t)) (get_or-map text all k first [] (omega (arith, inside)))
        ∙ sorted k first (omega arith) inside)
        (apart_from_distinct bytes_eq texts k (k + 1) [] distinct (omega arith) within))

    -- the groups of the lines, in the order of their names
    pub sorted_groups : (lines : List (List ℕ)) (entries sorted : List (Vec ℕ A × Updatable ℕ)) → IsDistinct bytes_eq (texts_of entries) → IsGrouped grouping lines entries → IsPermutation entries sorted → IsSorted (λ x y. slice_cmp nat_cmp x.0.items y.0.items) sorted →
        (names : List (List ℕ)) × AreGroups grouping.by lines names × AreSketched grouping lines names sorted
    sorted_groups lines entries sorted distinct grouped moved ordered =
        let text : Vec ℕ A × Updatable ℕ → List ℕ = λ entry. entry.0.items in
        let moved_texts : IsPermutation (texts_of entries) (texts_of sorted) = IsPermutation-map text entries sorted moved in (
          texts_of sorted,
          record {
            ascending = ascend_strictly sorted ordered (IsDistinct-IsPermutation bytes_eq nat_list_eq_equiv.symm (texts_of entries) (texts_of sorted) moved_texts distinct);
            same = (
              λ name among.
                  let before = among_moved name (texts_of sorted) (texts_of entries) (IsPermutation-sym (texts_of entries) (texts_of sorted) moved_texts) among in
                  key_among name lines (subst (λ (o : Option LineState). IsSome o) (grouped name) (map_some (value_at name entries) (has_value name entries before))),
              λ name among.
                  among_moved name (texts_of entries) (texts_of sorted) moved_texts
                  (among_texts name entries (some_map (value_at name entries) (subst (λ (o : Option LineState). IsSome o) (sym (grouped name)) (has_state name lines among)))),
            );
          },
          all_sketched lines sorted (All-permutation (HasOwn lines) entries sorted moved (all_own lines entries distinct grouped)),
        )

    -- there are no groups yet
    pub none_named : (index : NameIndex) (entries : List (Vec ℕ A × Updatable ℕ)) → entries ≡ [] → IsIndex index [] → AreNamed index entries
    unfolding IsDistinct
    none_named index entries none found = subst (AreNamed index) (sym none) (record { found = found; distinct = tt })

    -- ---- a line in its group

    -- a line was inserted into the group of a number
    pub updated_group : (entries : List (Vec ℕ A × Updatable ℕ)) (number : ℕ) (name line : List ℕ) (entry : Vec ℕ A × Updatable ℕ) (w : Updatable ℕ) → IsDistinct bytes_eq (texts_of entries) → slice_get (texts_of entries) number ≡ Some name → slice_get entries number ≡ Some entry →
        line_state w ≡ with_line grouping.hashing (line_state entry.1) line → UpdatesGroup grouping.hashing name line entries (slice_set entries number (entry.0, w))
    updated_group entries number name line entry w distinct there got is =
        let named : entry.0.items ≡ name = same_Some entry.0.items name (sym (text_got entries number entry got) ∙ there) in
        let old : state_at entries name ≡ Some (line_state entry.1) = ap (option_map line_state) (subst (λ (t : List ℕ). value_at t entries ≡ Some entry.1) named (found_at entries number entry distinct got)) in (
          λ other.
              ap (option_map line_state) (changed_entry entries number name entry.0 w distinct there named other)
              ∙ map_cond (bytes_eq name other) w (value_at other entries)
              ∙ ap (λ o. cond (bytes_eq name other) o (state_at entries other)) (ap Some is ∙ ap (option_map (λ state. with_line grouping.hashing state line)) (sym old)),
          subst (λ (o : Option LineState). IsSome o) (sym old) refl,
        )

    pub still_named : (index : NameIndex) (entries : List (Vec ℕ A × Updatable ℕ)) (number : ℕ) (name : List ℕ) (entry : Vec ℕ A × Updatable ℕ) (w : Updatable ℕ) → AreNamed index entries → slice_get (texts_of entries) number ≡ Some name → slice_get entries number ≡ Some entry →
        AreNamed index (slice_set entries number (entry.0, w))
    still_named index entries number name entry w named there got =
        let same = sym (same_texts entries number name entry.0 w there (same_Some entry.0.items name (sym (text_got entries number entry got) ∙ there))) in
        record {
          found = subst (IsIndex index) same named.found;
          distinct = subst (IsDistinct bytes_eq) same named.distinct;
        }

    -- a group was made
    pub begun_group : (entries : List (Vec ℕ A × Updatable ℕ)) (name : List ℕ) (key : Vec ℕ A) (w : Updatable ℕ) (s : LineState) → key.items ≡ name → ((number : ℕ) → slice_get (texts_of entries) number ≡ Some name → ⊥) → line_state w ≡ s → Changes name (Some s) entries (entries ++ (key, w) ∷ [])
    begun_group entries name key w s named absent is other =
        ap (option_map line_state) (pushed_at entries name key w named absent other)
        ∙ map_cond (bytes_eq name other) w (value_at other entries)
        ∙ ap (λ t. cond (bytes_eq name other) (Some t) (state_at entries other)) is

    pub more_named : (old new : NameIndex) (entries : List (Vec ℕ A × Updatable ℕ)) (name : List ℕ) (key : Vec ℕ A) (w : Updatable ℕ) → AreNamed old entries → key.items ≡ name → ((number : ℕ) → slice_get (texts_of entries) number ≡ Some name → ⊥) → IsIndex new (texts_of entries ++ name ∷ []) →
        AreNamed new (entries ++ (key, w) ∷ [])
    more_named old new entries name key w was named absent index =
        let same = sym (more_texts entries name key w named) in
        record {
          found = subst (IsIndex new) same index;
          distinct = subst (IsDistinct bytes_eq) same (distinct_more (texts_of entries) name absent was.distinct);
        }

    -- a line was inserted into its group
    pub added_there : (line : List ℕ) (old new : List (Vec ℕ A × Updatable ℕ)) → UpdatesGroup grouping.hashing (key_of grouping.by line) line old new → AddsLine grouping line old new
    added_there line old new updates other =
        let name = key_of grouping.by line in
        updates.0 other ∙ ap (λ o. cond (bytes_eq name other) o (state_at old other)) (some_or (λ state. with_line grouping.hashing state line) (state_at old name) start updates.1)

    pub added_new : (line : List ℕ) (old new : List (Vec ℕ A × Updatable ℕ)) → ((number : ℕ) → slice_get (texts_of old) number ≡ Some (key_of grouping.by line) → ⊥) → Changes (key_of grouping.by line) (Some (with_line grouping.hashing start line)) old new → AddsLine grouping line old new
    added_new line old new absent changes other =
        let name = key_of grouping.by line in
        changes other
        ∙ ap (λ o. cond (bytes_eq name other) (Some (with_line grouping.hashing (unwrap_or o start) line)) (state_at old other)) (sym (ap (option_map line_state) (not_found old name absent)))

    -- the first of the groups that are left
    pub first_left : (lines names : List (List ℕ)) (old new : List (Vec ℕ A × Updatable ℕ)) (entry : Vec ℕ A × Updatable ℕ) → old ≡ entry ∷ new → AreSketched grouping lines names old →
        (others : List (List ℕ)) × (names ≡ entry.0.items ∷ others) × (line_state entry.1 ≡ with_lines grouping.hashing start (lines_in grouping.by entry.0.items lines)) × AreSketched grouping lines others new
    first_left lines [] old new entry parted sketched = absurd (subst (AreSketched grouping lines []) parted sketched)
    first_left lines (name ∷ names) old new entry parted sketched =
        let all : AreSketched grouping lines (name ∷ names) (entry ∷ new) = subst (AreSketched grouping lines (name ∷ names)) parted sketched in (
          names,
          ap (λ n. n ∷ names) all.0,
          all.1 ∙ ap (λ n. with_lines grouping.hashing start (lines_in grouping.by n lines)) all.0,
          all.2,
        )

    pub none_left : (lines names : List (List ℕ)) (entries : List (Vec ℕ A × Updatable ℕ)) → (0 < length entries → ⊥) → AreSketched grouping lines names entries → names ≡ []
    none_left lines [] entries none sketched = refl
    none_left lines (name ∷ names) [] none sketched = absurd sketched
    none_left lines (name ∷ names) (entry ∷ entries) none sketched = absurd (none (omega arith))

-- the first group of lines, by the sketches of all
pub next_listed : (grouping : Grouping) (lines : List (List ℕ)) (sketch : List ℕ → Compact ℕ) → sketch ≡ group_sketch grouping lines → (names : List (List ℕ)) (new : Groups) (found : Option Group) → IsNext grouping lines names new found → IsFirst (ListsLines sketch) sketch names new found
next_listed grouping lines sketch same names new None is = is
next_listed grouping lines sketch same names new (Some group) is =
    (is.0, is.1, is.2 ∙ ap (λ (f : List ℕ → Compact ℕ). f group.name.items) (sym same), (grouping, lines, same, is.3))
