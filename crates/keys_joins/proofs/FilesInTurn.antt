-- Files of groups that are read one after another.
use Rattle.std.proofs.Common.{ℕ, ◌≡◌, length, Bool, true, List, [], ◌∷◌, ◌++◌, Option, Some, None, refl, sym, ap, ◌∙◌, subst, append_assoc, append-nil, inl, inr, arith}
use Rattle.std.specs.Prelude.{IfSome, ◌≢◌}
use Rattle.std.specs.Option.{option_map}
use Rattle.sketch_base.specs.Seed.{seed_hash}
use Rattle.sketch_base.specs.declared.error.ErrorKind.{ErrorKind}
use Rattle.core_compact.specs.CompactState.{Compact, ordered_sketch}
use Rattle.core_laws.specs.Values.{Sketch, Empty, NonEmpty}
use Rattle.keys_lines.specs.Lines.{lines_of, lines_of_all}
use Rattle.keys_sketches.specs.Refusals.{HasFault}
use Rattle.keys_sketches.specs.Shards.{united, values_of_sketches}
use Rattle.keys_sketches.specs.Sources.{GivesNext, Continues}
use Rattle.keys_groups.specs.United.{image_line, AreUnionSketches, FailsIf, HasFirstFlawed, HasUnions, IsUniteError, ListsUnions}
use Rattle.keys_groups.specs.declared.united.LineFlaw.{LineFlaw}
use Rattle.keys_groups.specs.declared.united.UnitedGroups.{UnitedGroups}
use Rattle.keys_groups.specs.declared.uniting.UniteError.{UniteError}
use Rattle.keys_groups.specs.declared.uniting.UniteError.TheVariants.{Refused, Failed, Flawed}
use Rattle.theta_sketches.specs.Image.{written}
use Rattle.keys_joins.specs.Tables.{FileGroups, AreTablesOf}
use Rattle.keys_joins.specs.Joins.{all_have, intersection_of, joined_text, sketches_at, AreGroupsOfEach, IsMeetText, IsMinusText, IsOfSeed}
use Rattle.keys_joins.specs.Reading.{text_of_one, AreTables, HasFlawedIn, HasNextUnions, IsJoinError, IsTableOf, PutsTable}
use Rattle.keys_joins.specs.declared.joins.Join.TheVariants.{Meet, Minus}
use Rattle.keys_joins.specs.declared.tables.SketchTable.{SketchTable}
use Rattle.keys_joins.proofs.JoinedNames.{lines_of_chosen}

-- one source alone gives its text, and then none
gives_known : {R : Type 0} (remaining : R → Option (List ℕ)) (source : R) (known : Option (List ℕ)) → remaining source ≡ known → GivesNext remaining (option_map (λ text. text ∷ []) known) (Some []) (Some source)
gives_known remaining source None is = tt
gives_known remaining source (Some text) is = record {
  text = text;
  texts_left = [];
  parted = refl;
  has = is;
  leaves = refl;
}

pub gives_one : {R : Type 0} (remaining : R → Option (List ℕ)) (old new : Option R) → new ≡ None → GivesNext remaining (text_of_one remaining old) (text_of_one remaining new) old
gives_one remaining None new is = refl
gives_one remaining (Some source) new is =
    subst (λ (o : Option (List (List ℕ))). GivesNext remaining (text_of_one remaining (Some source)) o (Some source)) (ap (text_of_one remaining) (sym is)) (gives_known remaining source (remaining source) refl)

-- a source that may fail only if sources may
pub fails_more : (own all : Bool) (reason : UniteError) → (own ≡ true → all ≡ true) → FailsIf own reason → FailsIf all reason
fails_more own all (Refused kind) more fails = tt
fails_more own all (Failed error) more fails = more fails
fails_more own all (Flawed number flaw) more fails = tt

module _ (seed : ℕ) where
  -- what holds of the next source's text holds of some text
  flawed_next : {S : Type 0} (remaining : S → Option (List ℕ)) (number : ℕ) (flaw : LineFlaw) (old new : Option (List (List ℕ))) (source : S) → GivesNext remaining old new (Some source) →
      IfSome (text_of_one remaining (Some source)) (HasFirstFlawed seed number flaw) → IfSome old (HasFault (λ text. HasFirstFlawed seed number flaw (text ∷ [])))
  flawed_next remaining number flaw None new source first flawed = tt
  flawed_next remaining number flaw (Some texts) new source first flawed = record {
    front = [];
    faulty = first.text;
    back = first.texts_left;
    parted = first.parted;
    is_faulty = subst (λ (o : Option (List ℕ)). IfSome (option_map (λ (text : List ℕ). text ∷ []) o) (HasFirstFlawed seed number flaw)) first.has flawed;
  }

  pub failed_next : {S : Type 0} (remaining : S → Option (List ℕ)) (old new : Option (List (List ℕ))) (found : Option S) (source : S) (refusal : Option ErrorKind) (reason : UniteError) → GivesNext remaining old new found → found ≡ Some source →
      refusal ≡ None → IsUniteError seed refusal (text_of_one remaining (Some source)) reason → IsJoinError seed old reason
  failed_next remaining old new found source refusal (Refused kind) next is none (inl refused) = absurd (let e : None ≡ Some kind = sym none ∙ refused in cc)
  failed_next remaining old new found source refusal (Refused kind) next is none (inr memory) = memory
  failed_next remaining old new found source refusal (Failed error) next is none failed = tt
  failed_next {S} remaining old new found source refusal (Flawed number flaw) next is none failed =
      flawed_next remaining number flaw old new source (subst (λ (o : Option S). GivesNext remaining old new o) is next) failed.1

  -- what fails in the texts that are left fails in all
  pub failed_later : (P : List (List ℕ) → Type 0) (old now : Option (List (List ℕ))) (reason : UniteError) → Continues old now P → IsJoinError seed now reason → IsJoinError seed old reason
  failed_later P old now (Refused kind) so_far failed = failed
  failed_later P old now (Failed error) so_far failed = tt
  failed_later P None now (Flawed number flaw) so_far failed = tt
  failed_later P (Some texts) None (Flawed number flaw) so_far failed = absurd so_far
  failed_later P (Some texts) (Some left) (Flawed number flaw) so_far failed = record {
    front = so_far.0 ++ failed.front;
    faulty = failed.faulty;
    back = failed.back;
    parted = so_far.1 ∙ ap (λ ts. so_far.0 ++ ts) failed.parted ∙ sym (append_assoc so_far.0 failed.front (failed.faulty ∷ failed.back));
    is_faulty = failed.is_faulty;
  }

module _ (seed lg_k : ℕ) where
  -- the groups of the next source
  united_next : {S : Type 0} (remaining : S → Option (List ℕ)) (groups : UnitedGroups) (old new : Option (List (List ℕ))) (source : S) → GivesNext remaining old new (Some source) →
      IfSome (text_of_one remaining (Some source)) (λ texts. HasUnions seed lg_k (lines_of_all texts) groups) → HasNextUnions seed lg_k old new (Some groups)
  united_next remaining groups None new source first united = tt
  united_next remaining groups (Some texts) new source first united = record {
    text = first.text;
    texts_left = first.texts_left;
    parted = first.parted;
    has = subst (λ (lines : List (List ℕ)). HasUnions seed lg_k lines groups) (append-nil (lines_of first.text))
        (subst (λ (o : Option (List ℕ)). IfSome (option_map (λ (text : List ℕ). text ∷ []) o) (λ texts. HasUnions seed lg_k (lines_of_all texts) groups)) first.has united);
    leaves = first.leaves;
  }

  pub next_united : {S : Type 0} (remaining : S → Option (List ℕ)) (groups : UnitedGroups) (old new : Option (List (List ℕ))) (found : Option S) (source : S) → GivesNext remaining old new found → found ≡ Some source →
      IfSome (text_of_one remaining (Some source)) (λ texts. HasUnions seed lg_k (lines_of_all texts) groups) → HasNextUnions seed lg_k old new (Some groups)
  next_united {S} remaining groups old new found source next is united =
      united_next remaining groups old new source (subst (λ (o : Option S). GivesNext remaining old new o) is next) united

  -- what fails behind the first text fails in all
  pub failed_behind : (old mid : Option (List (List ℕ))) (first : UnitedGroups) (reason : UniteError) → HasNextUnions seed lg_k old mid (Some first) → IsJoinError seed mid reason → IsJoinError seed old reason
  failed_behind old mid first (Refused kind) next failed = failed
  failed_behind old mid first (Failed error) next failed = tt
  failed_behind None mid first (Flawed number flaw) next failed = tt
  failed_behind (Some texts) mid first (Flawed number flaw) next failed =
      let later = subst (λ (o : Option (List (List ℕ))). IfSome o (HasFlawedIn seed number flaw)) next.leaves failed in
      record {
        front = next.text ∷ later.front;
        faulty = later.faulty;
        back = later.back;
        parted = next.parted ∙ ap (λ (ts : List (List ℕ)). next.text ∷ ts) later.parted;
        is_faulty = later.is_faulty;
      }

  -- ---- a table for each text

  pub no_tables : (texts : Option (List (List ℕ))) → Continues texts texts (λ taken. AreTables seed lg_k taken [])
  no_tables None = tt
  no_tables (Some texts) = ([], refl, tt)

  tables_put : (texts : List (List ℕ)) (text : List ℕ) (tables : List SketchTable) (table : SketchTable) → AreTables seed lg_k texts tables → IsTableOf seed lg_k text table → AreTables seed lg_k (texts ++ text ∷ []) (tables ++ table ∷ [])
  tables_put [] text [] table are is = (is, tt)
  tables_put [] text (first ∷ tables) table are is = absurd are
  tables_put (first ∷ texts) text [] table are is = absurd are
  tables_put (first ∷ texts) text (own ∷ tables) table are is = (are.0, tables_put texts text tables table are.1 is)

  -- one text more
  pub tables_more : (old now new : Option (List (List ℕ))) (groups : UnitedGroups) (tables more : List SketchTable) → Continues old now (λ taken. AreTables seed lg_k taken tables) → HasNextUnions seed lg_k now new (Some groups) → PutsTable groups tables more →
      Continues old new (λ taken. AreTables seed lg_k taken more)
  tables_more None now new groups tables more so_far next puts = tt
  tables_more (Some texts) None new groups tables more so_far next puts = absurd so_far
  tables_more (Some texts) (Some left) new groups tables more so_far next puts =
      let has = next.has in
      let file : FileGroups = record { names = has.0; sketch = has.1 } in
      let table : IsTableOf seed lg_k next.text puts.0 = (file, record { named = has.2; united = has.3 }, puts.2 file has.4) in
      subst (λ (o : Option (List (List ℕ))). Continues (Some texts) o (λ taken. AreTables seed lg_k taken more)) (sym next.leaves) (
        so_far.0 ++ next.text ∷ [],
        so_far.1 ∙ ap (λ ts. so_far.0 ++ ts) next.parted ∙ sym (append_assoc so_far.0 (next.text ∷ []) next.texts_left),
        subst (AreTables seed lg_k (so_far.0 ++ next.text ∷ [])) (sym puts.1) (tables_put so_far.0 next.text tables puts.0 so_far.2 table),
      )

  pub tables_end : (old now new : Option (List (List ℕ))) (P : List (List ℕ) → Type 0) → Continues old now P → HasNextUnions seed lg_k now new None → IfSome old P
  tables_end None now new P so_far next = tt
  tables_end (Some texts) None new P so_far next = absurd so_far
  tables_end (Some texts) (Some left) new P so_far next = subst P (sym (so_far.1 ∙ ap (λ ts. so_far.0 ++ ts) next ∙ append-nil so_far.0)) so_far.2

  -- the files of tables
  pub files_of : (texts : List (List ℕ)) (tables : List SketchTable) → AreTables seed lg_k texts tables → (files : List FileGroups) × AreGroupsOfEach seed lg_k texts files × AreTablesOf files tables
  files_of [] [] are = ([], tt, tt)
  files_of [] (table ∷ tables) are = absurd are
  files_of (text ∷ texts) [] are = absurd are
  files_of (text ∷ texts) (table ∷ tables) are =
      let one = are.0 in
      let others = files_of texts tables are.1 in
      (one.0 ∷ others.0, (one.1, others.1), (one.2, others.2))

  -- ---- the sketches of groups are of the seed

  ordered_seed : (v : Sketch ℕ) (h : ℕ) → (ordered_sketch v h).seed_hash ≡ h
  ordered_seed Empty h = refl
  ordered_seed (NonEmpty v) h = refl

  of_seed : (lines : List (List ℕ)) (file : FileGroups) → AreUnionSketches seed lg_k lines file.sketch → IsOfSeed seed file
  of_seed lines file are name =
      let one = are name in
      ap (λ (s : Compact ℕ). s.seed_hash) one.2 ∙ ordered_seed (united lg_k (values_of_sketches one.0)) (seed_hash seed)

  -- ---- joined texts

  met_of : (text : List ℕ) (left : List (List ℕ)) (first : UnitedGroups) (tables : List SketchTable) (out : List ℕ) → HasUnions seed lg_k (lines_of text) first → AreTables seed lg_k left tables →
      ((file : FileGroups) (files : List FileGroups) → ListsUnions file.sketch file.names first → IsOfSeed seed file → AreTablesOf files tables → out ≡ joined_text Meet seed file files file.names) → IsMeetText seed lg_k (text ∷ left) out
  met_of text left first tables out has are joined =
      let file : FileGroups = record { names = has.0; sketch = has.1 } in
      let others = files_of left tables are in (
        file ∷ others.0,
        (record { named = has.2; united = has.3 }, others.1),
        joined file others.0 has.4 (of_seed (lines_of text) file has.3) others.2
            ∙ lines_of_chosen (all_have others.0) (λ name. image_line name (written (intersection_of seed (sketches_at (file ∷ others.0) name)))) file.names,
      )

  pub met : (old mid : Option (List (List ℕ))) (first : UnitedGroups) (tables : List SketchTable) (out : List ℕ) → HasNextUnions seed lg_k old mid (Some first) → IfSome mid (λ texts. AreTables seed lg_k texts tables) →
      ((file : FileGroups) (files : List FileGroups) → ListsUnions file.sketch file.names first → IsOfSeed seed file → AreTablesOf files tables → out ≡ joined_text Meet seed file files file.names) → IfSome old (λ texts. IsMeetText seed lg_k texts out)
  met None mid first tables out next are joined = tt
  met (Some texts) mid first tables out next are joined =
      let left = subst (λ (o : Option (List (List ℕ))). IfSome o (λ ts. AreTables seed lg_k ts tables)) next.leaves are in
      subst (λ (ts : List (List ℕ)). IsMeetText seed lg_k ts out) (sym next.parted) (met_of next.text next.texts_left first tables out next.has left joined)

  pub met_none : (old mid : Option (List (List ℕ))) → HasNextUnions seed lg_k old mid None → IfSome old (λ texts. IsMeetText seed lg_k texts [])
  met_none None mid next = tt
  met_none (Some texts) mid next = subst (λ (ts : List (List ℕ)). IsMeetText seed lg_k ts []) (sym next) ([], tt, refl)

  -- ---- a difference

  minus_of : (text : List ℕ) (left : List (List ℕ)) (first : UnitedGroups) (tables : List SketchTable) (out : List ℕ) → HasUnions seed lg_k (lines_of text) first → AreTables seed lg_k left tables → length tables ≡ 1 →
      ((file : FileGroups) (files : List FileGroups) → ListsUnions file.sketch file.names first → IsOfSeed seed file → AreTablesOf files tables → out ≡ joined_text Minus seed file files file.names) → IsMinusText seed lg_k (text ∷ left) out
  minus_of text [] first [] out has are one joined = absurd (omega (arith, one))
  minus_of text [] first (table ∷ tables) out has are one joined = absurd are
  minus_of text (other ∷ left) first [] out has are one joined = absurd are
  minus_of text (other ∷ []) first (table ∷ []) out has are one joined =
      let file : FileGroups = record { names = has.0; sketch = has.1 } in
      let second = are.0 in (
        file,
        second.0,
        (record { named = has.2; united = has.3 }, (second.1, tt)),
        joined file (second.0 ∷ []) has.4 (of_seed (lines_of text) file has.3) (second.2, tt),
      )
  minus_of text (other ∷ []) first (table ∷ more ∷ tables) out has are one joined = absurd are.1
  minus_of text (other ∷ third ∷ left) first (table ∷ []) out has are one joined = absurd are.1
  minus_of text (other ∷ third ∷ left) first (table ∷ more ∷ tables) out has are one joined = absurd (omega (arith, one))

  pub left_of : (old mid : Option (List (List ℕ))) (first : UnitedGroups) (tables : List SketchTable) (out : List ℕ) → HasNextUnions seed lg_k old mid (Some first) → IfSome mid (λ texts. AreTables seed lg_k texts tables) → length tables ≡ 1 →
      ((file : FileGroups) (files : List FileGroups) → ListsUnions file.sketch file.names first → IsOfSeed seed file → AreTablesOf files tables → out ≡ joined_text Minus seed file files file.names) → IfSome old (λ texts. IsMinusText seed lg_k texts out)
  left_of None mid first tables out next are one joined = tt
  left_of (Some texts) mid first tables out next are one joined =
      let left = subst (λ (o : Option (List (List ℕ))). IfSome o (λ ts. AreTables seed lg_k ts tables)) next.leaves are in
      subst (λ (ts : List (List ℕ)). IsMinusText seed lg_k ts out) (sym next.parted) (minus_of next.text next.texts_left first tables out next.has left one joined)

  as_many : (texts : List (List ℕ)) (tables : List SketchTable) → AreTables seed lg_k texts tables → length texts ≡ length tables
  as_many [] [] are = refl
  as_many [] (table ∷ tables) are = absurd are
  as_many (text ∷ texts) [] are = absurd are
  as_many (text ∷ texts) (table ∷ tables) are = omega (arith, as_many texts tables are.1)

  pub not_two : (old mid : Option (List (List ℕ))) (first : UnitedGroups) (tables : List SketchTable) → HasNextUnions seed lg_k old mid (Some first) → IfSome mid (λ texts. AreTables seed lg_k texts tables) → length tables ≢ 1 → IfSome old (λ texts. length texts ≢ 2)
  not_two None mid first tables next are other = tt
  not_two (Some texts) mid first tables next are other =
      let left = subst (λ (o : Option (List (List ℕ))). IfSome o (λ ts. AreTables seed lg_k ts tables)) next.leaves are in
      λ two. other (sym (as_many next.texts_left tables left) ∙ (let e : length (next.text ∷ next.texts_left) ≡ 2 = ap length (sym next.parted) ∙ two in omega (arith, e)))

  pub no_two : (old mid : Option (List (List ℕ))) → HasNextUnions seed lg_k old mid None → IfSome old (λ texts. length texts ≢ 2)
  no_two None mid next = tt
  no_two (Some texts) mid next = λ two. let e : 0 ≡ 2 = ap (λ (ts : List (List ℕ)). length ts) (sym next) ∙ two in absurd (omega (arith, e))
