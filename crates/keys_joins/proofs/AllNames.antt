-- The names of the groups of files.
use Rattle.std.proofs.Common.{ℕ, ◌≡◌, length, arith, append-nil, Bool, true, false, cond, List, [], ◌∷◌, ◌++◌, map, Option, Some, None, Vec, refl, sym, ap, ◌∙◌, subst, inl, inr}
use Rattle.std.specs.Prelude.{◌⊎◌, ◌||◌, IsSome}
use Rattle.std.specs.Str.{bytes_eq}
use Rattle.std.specs.List.Sorted.{IsStrictlySortedBy}
use Rattle.std.specs.BTreeMap.{BTreeMap, UpdatesBy}
use Rattle.std.specs.Cmp.Lexicographic.{slice_cmp, bytes_decides, nat_list_eq_equiv}
use Rattle.std.specs.Map.{keys_of}
use Rattle.std.specs.Ordering.{nat_cmp}
use Rattle.std.proofs.lemmas.List.{map-append}
use Rattle.core_compact.specs.CompactState.{Compact}
use Rattle.keys_lines.specs.Lines.{lines_of, lines_of_all}
use Rattle.keys_sketches.specs.Keys.{HaveSameLines, IsAmong}
use Rattle.keys_groups.specs.Names.{texts_of}
use Rattle.keys_groups.specs.Tabs.{before_tab}
use Rattle.keys_groups.specs.United.{AreNames}
use Rattle.keys_groups.proofs.Entries.{value_at, changed_at, texts_ascend, among_texts, has_value}
use Rattle.keys_groups.proofs.UnitedInTurn.{among_front, among_back}
use Rattle.keys_joins.specs.Tables.{FileGroups, is_named, HasGroupsOf, AreTablesOf}
use Rattle.keys_joins.specs.Joins.{AreGroupsOfEach}
use Rattle.keys_joins.specs.Evaluated.{names_in}
use Rattle.keys_joins.specs.declared.tables.SketchTable.{SketchTable}

-- the same lines
pub same_self : (a : List (List ℕ)) → HaveSameLines a a
same_self a = (λ line among. among, λ line among. among)

pub same_then : (a b c : List (List ℕ)) → HaveSameLines a b → HaveSameLines b c → HaveSameLines a c
same_then a b c first second = (λ line among. second.0 line (first.0 line among), λ line among. first.1 line (second.1 line among))

-- a line of two lists is one of either
either_among : {G : Type 0} (line : List ℕ) (front back : List (List ℕ)) → IsAmong line (front ++ back) → (IsAmong line front → G) → (IsAmong line back → G) → G
either_among line [] back among here there = there among
either_among line (first ∷ front) back (inl same) here there = here (inl same)
either_among line (first ∷ front) back (inr later) here there = either_among line front back later (λ among. here (inr among)) there

same_joined : (a b c d : List (List ℕ)) → HaveSameLines a b → HaveSameLines c d → HaveSameLines (a ++ c) (b ++ d)
same_joined a b c d first second = (
  λ line among. either_among line a c among (λ here. among_front line b d (first.0 line here)) (λ there. among_back line b d (second.0 line there)),
  λ line among. either_among line b d among (λ here. among_front line a c (first.1 line here)) (λ there. among_back line a c (second.1 line there)),
)

-- ---- one name more

module _ {A X : Type 0} (text : List ℕ) (x : X) (m n : BTreeMap (Vec ℕ A) X) (changed : UpdatesBy (λ x y. slice_cmp nat_cmp x.items y.items) (λ k. slice_cmp nat_cmp text k.items) m n (Some x)) where
  some_there : (b : Bool) (o : Option X) (other : List ℕ) → (b ≡ true → text ≡ other) → (IsSome o → IsAmong other (texts_of m.entries)) → IsSome (cond b (Some x) o) → IsAmong other (text ∷ texts_of m.entries)
  some_there true o other same there some = inl (sym (same refl))
  some_there false o other same there some = inr (there some)

  some_here : (b : Bool) (o : Option X) → (b ≡ true) ⊎ IsSome o → IsSome (cond b (Some x) o)
  some_here true o some = refl
  some_here false o (inl same) = absurd (let e : false ≡ true = same in cc)
  some_here false o (inr some) = some

  -- a value was put at a text
  pub one_more : HaveSameLines (texts_of n.entries) (text ∷ texts_of m.entries)
  one_more = (
    λ other among.
        some_there (bytes_eq text other) (value_at other m.entries) other (λ same. (bytes_decides text other).0 same) (among_texts other m.entries)
        (subst (λ (o : Option X). IsSome o) (changed_at text m n (Some x) changed other) (has_value other n.entries among)),
    λ other among.
        among_texts other n.entries
        (subst (λ (o : Option X). IsSome o) (sym (changed_at text m n (Some x) changed other)) (some_here (bytes_eq text other) (value_at other m.entries)
        (elim among [
          | inl same ↦ inl (ap (λ o. bytes_eq text o) same ∙ nat_list_eq_equiv.refl text)
          | inr there ↦ inr (has_value other m.entries there)
        ]))),
  )

-- a name that was moved to the front of others
pub moved : (name : List ℕ) (left now new all : List (List ℕ)) → HaveSameLines new (name ∷ now) → HaveSameLines ((name ∷ left) ++ now) all → HaveSameLines (left ++ new) all
moved name left now new all more so_far = (
  λ line among.
      so_far.0 line
      (either_among {G = IsAmong line ((name ∷ left) ++ now)} line left new among (λ here. inr (among_front line left now here))
      (λ there. elim (more.0 line there) [ inl same ↦ inl same | inr later ↦ inr (among_back line left now later) ])),
  λ line among.
      elim (so_far.1 line among) [
        | inl same ↦ among_back line left new (more.1 line (inl same))
        | inr later ↦ either_among {G = IsAmong line (left ++ new)} line left now later (λ here. among_front line left new here) (λ there. among_back line left new (more.1 line (inr there)))
      ],
)

-- names of one table more
pub table_more : (names left now new all : List (List ℕ)) → HaveSameLines new (names ++ now) → HaveSameLines ((names ++ left) ++ now) all → HaveSameLines (left ++ new) all
table_more names left now new all more so_far = (
  λ line among.
      so_far.0 line
      (either_among {G = IsAmong line ((names ++ left) ++ now)} line left new among (λ here. among_front line (names ++ left) now (among_back line names left here))
      (λ there. either_among {G = IsAmong line ((names ++ left) ++ now)} line names now (more.0 line there)
      (λ own. among_front line (names ++ left) now (among_front line names left own))
      (λ later. among_back line (names ++ left) now later))),
  λ line among.
      either_among {G = IsAmong line (left ++ new)} line (names ++ left) now (so_far.1 line among)
      (λ front. either_among {G = IsAmong line (left ++ new)} line names left front (λ own. among_back line left new (more.1 line (among_front line names now own))) (λ here. among_front line left new here))
      (λ later. among_back line left new (more.1 line (among_back line names now later))),
)

-- ---- the names of tables in turn

pub begun : {A X : Type 0} (all : List (List ℕ)) (m : BTreeMap (Vec ℕ A) X) → m.entries ≡ [] → HaveSameLines (all ++ texts_of m.entries) all
begun {A} {X} all m empty = subst (λ (ts : List (List ℕ)). HaveSameLines ts all) (sym (ap (λ (entries : List (Vec ℕ A × X)). all ++ texts_of entries) empty ∙ append-nil all)) (same_self all)

pub more_names : (tables left : List SketchTable) (table : SketchTable) (more : List SketchTable) (now new : List (List ℕ)) → left ≡ table ∷ more → HaveSameLines new (texts_of table.map.entries ++ now) →
    HaveSameLines (names_in left ++ now) (names_in tables) → HaveSameLines (names_in more ++ new) (names_in tables)
more_names tables left table more now new parted put so_far =
    table_more (texts_of table.map.entries) (names_in more) now new (names_in tables) put (subst (λ (ts : List SketchTable). HaveSameLines (names_in ts ++ now) (names_in tables)) parted so_far)

pub all_put : (left : List SketchTable) (now all : List (List ℕ)) → length left ≡ 0 → HaveSameLines (names_in left ++ now) all → HaveSameLines now all
all_put [] now all none so_far = so_far
all_put (table ∷ left) now all none so_far = absurd (omega (arith, none))

-- ---- the names of a table, and those of its text

or_true : (a b : Bool) → (a || b) ≡ true → (a ≡ true) ⊎ (b ≡ true)
or_true true b is = inl refl
or_true false b is = inr is

or_left : (a b : Bool) → a ≡ true → (a || b) ≡ true
or_left true b is = refl
or_left false b is = absurd (let e : false ≡ true = is in cc)

or_right : (a b : Bool) → b ≡ true → (a || b) ≡ true
or_right true b is = refl
or_right false b is = is

among_named : (name : List ℕ) (names : List (List ℕ)) → is_named name names ≡ true → IsAmong name names
among_named name [] is = absurd (let e : false ≡ true = is in cc)
among_named name (other ∷ names) is =
    elim (or_true (bytes_eq other name) (is_named name names) is) [
      | inl same ↦ inl (sym ((bytes_decides other name).0 same))
      | inr later ↦ inr (among_named name names later)
    ]

named_among : (name : List ℕ) (names : List (List ℕ)) → IsAmong name names → is_named name names ≡ true
named_among name [] among = absurd among
named_among name (other ∷ names) (inl same) = or_left (bytes_eq other name) (is_named name names) (ap (λ n. bytes_eq n name) (sym same) ∙ nat_list_eq_equiv.refl name)
named_among name (other ∷ names) (inr later) = or_right (bytes_eq other name) (is_named name names) (named_among name names later)

some_if : {X : Type 0} (b : Bool) (x : X) → IsSome (cond b (Some x) None) → b ≡ true
some_if true x some = refl
some_if false x some = absurd (cc)

if_some : {X : Type 0} (b : Bool) (x : X) → b ≡ true → IsSome (cond b (Some x) None)
if_some true x is = refl
if_some false x is = absurd (let e : false ≡ true = is in cc)

table_names : (file : FileGroups) (table : SketchTable) → HasGroupsOf file table.map → HaveSameLines (texts_of table.map.entries) file.names
table_names file table has = (
  λ name among. among_named name file.names (some_if (is_named name file.names) (file.sketch name) (subst (λ (o : Option (Compact ℕ)). IsSome o) (has name) (has_value name table.map.entries among))),
  λ name among. among_texts name table.map.entries (subst (λ (o : Option (Compact ℕ)). IsSome o) (sym (has name)) (if_some (is_named name file.names) (file.sketch name) (named_among name file.names among))),
)

module _ (seed lg_k : ℕ) where
  all_same : (texts : List (List ℕ)) (files : List FileGroups) (tables : List SketchTable) → AreGroupsOfEach seed lg_k texts files → AreTablesOf files tables → HaveSameLines (names_in tables) (map before_tab (lines_of_all texts))
  all_same [] [] [] are have = same_self []
  all_same [] [] (table ∷ tables) are have = absurd have
  all_same [] (file ∷ files) tables are have = absurd are
  all_same (text ∷ texts) [] tables are have = absurd are
  all_same (text ∷ texts) (file ∷ files) [] are have = absurd have
  all_same (text ∷ texts) (file ∷ files) (table ∷ tables) are have =
      subst (HaveSameLines (texts_of table.map.entries ++ names_in tables)) (sym (map-append before_tab (lines_of text) (lines_of_all texts)))
      (same_joined (texts_of table.map.entries) (map before_tab (lines_of text)) (names_in tables) (map before_tab (lines_of_all texts))
      (same_then (texts_of table.map.entries) file.names (map before_tab (lines_of text)) (table_names file table have.0) are.0.named.same)
      (all_same texts files tables are.1 have.1))

  -- the names that any table has are those of the lines of all texts
  pub all_named : {A X : Type 0} (texts : List (List ℕ)) (files : List FileGroups) (tables : List SketchTable) (entries : List (Vec ℕ A × X)) → AreGroupsOfEach seed lg_k texts files → AreTablesOf files tables →
      HaveSameLines (texts_of entries) (names_in tables) → IsStrictlySortedBy (λ x y. slice_cmp nat_cmp x.items y.items) (keys_of entries) → AreNames (lines_of_all texts) (texts_of entries)
  all_named texts files tables entries are have same ascend = record {
    ascending = texts_ascend entries ascend;
    same = same_then (texts_of entries) (names_in tables) (map before_tab (lines_of_all texts)) same (all_same texts files tables are have);
  }
