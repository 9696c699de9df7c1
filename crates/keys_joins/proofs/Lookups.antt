-- Sketches that are looked up by their names.
use Rattle.std.proofs.Common.{ℕ, ◌≡◌, length, arith, Bool, true, false, cond, List, [], ◌∷◌, ◌++◌, Option, Some, None, Vec, refl, sym, ap, ◌∙◌, subst}
use Rattle.std.specs.Prelude.{◌||◌, ◌&&◌}
use Rattle.std.specs.Str.{bytes_eq}
use Rattle.std.specs.Cmp.Lexicographic.{bytes_decides, slice_cmp}
use Rattle.std.specs.BTreeMap.{BTreeMap, is_at}
use Rattle.std.specs.Map.{lookup}
use Rattle.std.specs.Ordering.{nat_cmp}
use Rattle.core_compact.specs.CompactState.{Compact}
use Rattle.keys_joins.specs.Tables.{FileGroups, is_named, sketch_at, HasSketchesOf, HasGroupsOf, SetsSketch, AreTablesOf}
use Rattle.keys_joins.specs.Joins.{all_have}
use Rattle.keys_joins.specs.declared.tables.SketchTable.{SketchTable}

-- one name more
or_more : (a b c d : Bool) → b ≡ (c || d) → (a || b) ≡ ((a || c) || d)
or_more true b c d is = refl
or_more false b c d is = is

named_more : (other : List ℕ) (done : List (List ℕ)) (name : List ℕ) → is_named other (done ++ name ∷ []) ≡ (is_named other done || (bytes_eq name other || false))
named_more other [] name = refl
named_more other (first ∷ done) name = or_more (bytes_eq first other) _ _ _ (named_more other done name)

at_more : {X : Type 0} (a b : Bool) (x s : X) (o : Option X) → o ≡ cond a (Some x) None → (b ≡ true → s ≡ x) → cond b (Some s) o ≡ cond (a || (b || false)) (Some x) None
at_more true true x s o was is = ap Some (is refl)
at_more false true x s o was is = ap Some (is refl)
at_more true false x s o was is = was
at_more false false x s o was is = was

pub sketches_more : {A : Type 0} (sketch : List ℕ → Compact ℕ) (done : List (List ℕ)) (name : List ℕ) (s : Compact ℕ) (old new : BTreeMap (Vec ℕ A) (Compact ℕ)) →
    HasSketchesOf done sketch old → SetsSketch name s old new → s ≡ sketch name → HasSketchesOf (done ++ name ∷ []) sketch new
sketches_more sketch done name s old new has sets is other =
    sets other
    ∙ at_more (is_named other done) (bytes_eq name other) (sketch other) s (sketch_at old other) (has other) (λ same. is ∙ ap sketch ((bytes_decides name other).0 same))
    ∙ ap (λ b. cond b (Some (sketch other)) None) (sym (named_more other done name))

-- ---- the sketches of one name in tables

-- the first of tables has the groups of the first file
pub record IsFirstTable (files : List FileGroups) (table : SketchTable) (rest : List SketchTable) : Type 0 where
  pub file : FileGroups
  pub more : List FileGroups
  pub parted : files ≡ file ∷ more
  pub has : HasGroupsOf file table.map
  pub others : AreTablesOf more rest

first_is : (files : List FileGroups) (table : SketchTable) (rest : List SketchTable) → AreTablesOf files (table ∷ rest) → IsFirstTable files table rest
first_is [] table rest are = absurd are
first_is (file ∷ files) table rest are = record {
  file = file;
  more = files;
  parted = refl;
  has = are.0;
  others = are.1;
}

pub first_table : (files : List FileGroups) (tables : List SketchTable) (table : SketchTable) (rest : List SketchTable) → tables ≡ table ∷ rest → AreTablesOf files tables → IsFirstTable files table rest
first_table files tables table rest parted are = first_is files table rest (subst (AreTablesOf files) parted are)

pub no_tables_left : (files : List FileGroups) (tables : List SketchTable) → length tables ≡ 0 → AreTablesOf files tables → files ≡ []
no_tables_left [] tables none are = refl
no_tables_left (file ∷ files) [] none are = absurd are
no_tables_left (file ∷ files) (table ∷ tables) none are = absurd (omega (arith, none))

-- a name that is found is one of the file, and has its sketch there
some_at : {X : Type 0} (b : Bool) (x s : X) → Some s ≡ cond b (Some x) None → (b ≡ true) × (s ≡ x)
some_at true x s is = (refl, (let e : Some s ≡ Some x = is in cc))
some_at false x s is = absurd (let e : Some s ≡ None = is in cc)

none_at : {X : Type 0} (b : Bool) (x : X) → None ≡ cond b (Some x) None → b ≡ false
none_at true x is = absurd (let e : None ≡ Some x = is in cc)
none_at false x is = refl

and_true : (a b : Bool) → a ≡ true → (a && b) ≡ b
and_true true b is = refl
and_true false b is = absurd (let e : false ≡ true = is in cc)

and_false : (a b : Bool) → a ≡ false → (a && b) ≡ false
and_false true b is = absurd (let e : true ≡ false = is in cc)
and_false false b is = refl

module _ (name : List ℕ) where
  -- the first table has the name
  pub found_at : (file : FileGroups) (files : List FileGroups) (found : Option (Compact ℕ)) (s : Compact ℕ) → found ≡ Some s → found ≡ cond (is_named name file.names) (Some (file.sketch name)) None →
      (all_have (file ∷ files) name ≡ all_have files name) × (s ≡ file.sketch name)
  found_at file files found s is at =
      let both = some_at (is_named name file.names) (file.sketch name) s (sym is ∙ at) in
      (and_true (is_named name file.names) (all_have files name) both.0, both.1)

  -- .. or lacks it
  pub missing_at : (file : FileGroups) (files : List FileGroups) (found : Option (Compact ℕ)) → found ≡ None → found ≡ cond (is_named name file.names) (Some (file.sketch name)) None → all_have (file ∷ files) name ≡ false
  missing_at file files found is at = and_false (is_named name file.names) (all_have files name) (none_at (is_named name file.names) (file.sketch name) (sym is ∙ at))

-- an empty map has the sketches of no names
pub none_listed : {A : Type 0} (sketch : List ℕ → Compact ℕ) (m : BTreeMap (Vec ℕ A) (Compact ℕ)) → m.entries ≡ [] → HasSketchesOf [] sketch m
none_listed sketch m empty name = ap (λ entries. lookup (is_at (λ key. slice_cmp nat_cmp name key.items)) entries) empty
