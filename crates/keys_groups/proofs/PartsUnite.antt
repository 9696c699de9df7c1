-- Groups of lines that are sketched in parts, and united.
use Rattle.std.proofs.Common.{ℕ, ◌≡◌, ◌<◌, ◌≤◌, Bool, true, false, cond, eqb, List, [], ◌∷◌, ◌++◌, map, None, refl, sym, ap, subst, ◌∙◌, inl, inr, arith, append_assoc, append-nil, get_or, zero, suc, length}
use Rattle.std.specs.Prelude.{◌⊎◌, ⊤, flat_map, unwrap_or}
use Rattle.std.specs.List.{AllByRecursion, filter, onto_first}
use Rattle.std.specs.List.Sorted.{IsStrictlySortedBy}
use Rattle.std.specs.Ordering.{nat_cmp}
use Rattle.std.specs.Str.{bytes_eq}
use Rattle.std.specs.Cmp.Lexicographic.{slice_cmp, bytes_decides, nat_list_cmp_total, nat_list_eq_equiv}
use Rattle.std.specs.declared.cmp.Ordering.TheVariants.{Less}
use Rattle.std.proofs.lemmas.Bool.Decides.{nat_tests}
use Rattle.std.proofs.lemmas.Cmp.{tied_itself}
use Rattle.std.proofs.lemmas.List.{map-append}
use Rattle.sketch_base.specs.Seed.{seed_hash}
use Rattle.core_compact.specs.CompactState.{Compact, compact_value}
use Rattle.core_laws.specs.Entries.{hash_key}
use Rattle.core_laws.specs.Settings.{settings_refusal}
use Rattle.core_laws.specs.declared.TheConstants.{MAX_THETA}
use Rattle.theta_sketches.specs.Image.{written}
use Rattle.keys_lines.specs.Keys.{fields_of, key_of}
use Rattle.keys_lines.specs.Lines.{lines_of, lines_of_all}
use Rattle.keys_lines.specs.declared.key.Hashing.{Hashing}
use Rattle.keys_lines.specs.declared.key.Key.{Key}
use Rattle.keys_lines.specs.declared.key.Key.TheVariants.{Line, Field}
use Rattle.keys_sketches.specs.Hex.{hex_of, bytes_of_hex}
use Rattle.keys_sketches.specs.Keys.{IsAmong, HaveSameLines, value_of_lines, sketch_of_value, image_of_lines}
use Rattle.keys_sketches.specs.Shards.{values_of_sketches, AreRead}
use Rattle.keys_sketches.specs.Unions.{IsUnitedImage}
use Rattle.keys_sketches.proofs.Compacts.{image_read}
use Rattle.keys_sketches.proofs.Rereads.{ReadsOne, ReadsAgain, value_again}
use Rattle.keys_sketches.proofs.Shards.{all_lines, AreValues, united_values}
use Rattle.keys_sketches.proofs.Unions.{seeded}
use Rattle.keys_groups.specs.Tabs.{before_tab}
use Rattle.keys_groups.specs.Groups.{lines_in, AreGroups, group_sketch}
use Rattle.keys_groups.specs.United.{image_line, image_in, images_in, of_size, AreUnitedLines, IsUnitedText, IsSketchedText, AreSketchedTexts}
use Rattle.keys_groups.specs.declared.groups.Grouping.{Grouping}
use Rattle.keys_groups.proofs.LastTabs.{before_last, behind_last}
use Rattle.keys_groups.proofs.UnitedInTurn.{among_front, among_back}
use Rattle.keys_groups.proofs.WrittenImages.{AreBytes, all_joined, written_bytes, hex_read, hex_high, high_lacks_tab}

-- ---- lines and keys have no LF

abbrev LacksLf : List ℕ → Type 0
LacksLf text = AllByRecursion (λ byte. eqb byte 10 ≡ false) text

abbrev AllLackLf : List (List ℕ) → Type 0
AllLackLf texts = AllByRecursion LacksLf texts

onto_lacks : (byte : ℕ) (texts : List (List ℕ)) → eqb byte 10 ≡ false → AllLackLf texts → AllLackLf (onto_first byte texts)
onto_lacks byte [] other lacks = ((other, tt), tt)
onto_lacks byte (text ∷ texts) other lacks = ((other, lacks.0), lacks.1)

lines_lack : (text : List ℕ) → AllLackLf (lines_of text)
lines_lack [] = tt
lines_lack (byte ∷ text) =
    (elim (eqb byte 10) as (λ b. eqb byte 10 ≡ b → AllLackLf (cond b ([] ∷ lines_of text) (onto_first byte (lines_of text)))) [
      | true ↦ λ same. (tt, lines_lack text)
      | false ↦ λ other. onto_lacks byte (lines_of text) other (lines_lack text)
    ]) refl

all_lines_lack : (texts : List (List ℕ)) → AllLackLf (lines_of_all texts)
all_lines_lack [] = tt
all_lines_lack (text ∷ texts) = all_joined LacksLf (lines_of text) (lines_of_all texts) (lines_lack text) (all_lines_lack texts)

fields_lack : (separator : ℕ) (line : List ℕ) → LacksLf line → AllLackLf (fields_of separator line)
fields_lack separator [] lacks = (tt, tt)
fields_lack separator (byte ∷ line) lacks =
    elim (eqb byte separator) as (λ b. AllLackLf (cond b ([] ∷ fields_of separator line) (onto_first byte (fields_of separator line)))) [
      | true ↦ (tt, fields_lack separator line lacks.1)
      | false ↦ onto_lacks byte (fields_of separator line) lacks.0 (fields_lack separator line lacks.1)
    ]

field_lacks : (fields : List (List ℕ)) (before : ℕ) → AllLackLf fields → LacksLf (get_or fields before [])
field_lacks [] zero lacks = tt
field_lacks [] (suc before) lacks = tt
field_lacks (field ∷ fields) zero lacks = lacks.0
field_lacks (field ∷ fields) (suc before) lacks = field_lacks fields before lacks.1

key_lacks : (key : Key) (line : List ℕ) → LacksLf line → LacksLf (key_of key line)
key_lacks Line line lacks = lacks
key_lacks (Field before separator) line lacks =
    elim (eqb (length (fields_of separator line)) 1) as (λ b. LacksLf (cond b line (get_or (fields_of separator line) before []))) [
      | true ↦ lacks
      | false ↦ field_lacks (fields_of separator line) before (fields_lack separator line lacks)
    ]

keys_lack : (key : Key) (lines : List (List ℕ)) → AllLackLf lines → AllLackLf (map (key_of key) lines)
keys_lack key [] lacks = tt
keys_lack key (line ∷ lines) lacks = (key_lacks key line lacks.0, keys_lack key lines lacks.1)

one_lacks : (text : List ℕ) (texts : List (List ℕ)) → AllLackLf texts → IsAmong text texts → LacksLf text
one_lacks text [] lacks among = absurd among
one_lacks text (first ∷ texts) lacks (inl same) = subst LacksLf (sym same) lacks.0
one_lacks text (first ∷ texts) lacks (inr later) = one_lacks text texts lacks.1 later

each_lacks : (names : List (List ℕ)) → ((name : List ℕ) → IsAmong name names → LacksLf name) → AllLackLf names
each_lacks [] each = tt
each_lacks (name ∷ names) each = (each name (inl refl), each_lacks names (λ n among. each n (inr among)))

not_lf : (letter : ℕ) → 47 < letter → eqb letter 10 ≡ false
not_lf letter high = grind (arith, nat_tests)

high_lacks_lf : (text : List ℕ) → AllByRecursion (λ letter. 47 < letter) text → LacksLf text
high_lacks_lf [] high = tt
high_lacks_lf (letter ∷ text) high = (not_lf letter high.0, high_lacks_lf text high.1)

-- ---- the lines of groups, read again

-- a line that ends in an LF, and the others
line_ends : (front rest : List ℕ) → LacksLf front → lines_of (front ++ 10 ∷ rest) ≡ front ∷ lines_of rest
line_ends [] rest lacks = refl
line_ends (byte ∷ front) rest lacks =
    ap (λ b. cond b ([] ∷ lines_of (front ++ 10 ∷ rest)) (onto_first byte (lines_of (front ++ 10 ∷ rest)))) lacks.0
    ∙ ap (onto_first byte) (line_ends front rest lacks.1)

module _ (image_of : List ℕ → List ℕ) (bytes : (name : List ℕ) → AreBytes (image_of name)) where
  -- the line of a group without its LF
  abbrev group_line : List ℕ → List ℕ
  group_line name = name ++ 9 ∷ hex_of (image_of name)

  line_lacks : (name : List ℕ) → LacksLf name → LacksLf (group_line name)
  line_lacks name lacks = all_joined (λ byte. eqb byte 10 ≡ false) name (9 ∷ hex_of (image_of name)) lacks (refl, high_lacks_lf (hex_of (image_of name)) (hex_high (image_of name)))

  lines_again : (names : List (List ℕ)) → AllLackLf names → lines_of (flat_map (λ name. image_line name (image_of name)) names) ≡ map group_line names
  lines_again [] lacks = refl
  lines_again (name ∷ names) lacks =
      let rest = flat_map (λ n. image_line n (image_of n)) names in
      ap lines_of (append_assoc (group_line name) (10 ∷ []) rest)
      ∙ line_ends (group_line name) rest (line_lacks name lacks.0)
      ∙ ap (λ ls. group_line name ∷ ls) (lines_again names lacks.1)

  name_again : (name : List ℕ) → before_tab (group_line name) ≡ name
  name_again name = before_last name (hex_of (image_of name)) (high_lacks_tab (hex_of (image_of name)) (hex_high (image_of name)))

  image_again : (name : List ℕ) → image_in (group_line name) ≡ image_of name
  image_again name =
      ap (λ digits. unwrap_or (bytes_of_hex digits) []) (behind_last name (hex_of (image_of name)) (high_lacks_tab (hex_of (image_of name)) (hex_high (image_of name))))
      ∙ ap (λ o. unwrap_or o []) (hex_read (image_of name) (bytes name))

  names_again : (names : List (List ℕ)) → map before_tab (map group_line names) ≡ names
  names_again [] = refl
  names_again (name ∷ names) = ap (λ n. n ∷ map before_tab (map group_line names)) (name_again name) ∙ ap (λ ns. name ∷ ns) (names_again names)

  images_again : (name : List ℕ) (names : List (List ℕ)) → images_in name (map group_line names) ≡ map image_of (filter (λ n. bytes_eq n name) names)
  images_again name [] = refl
  images_again name (first ∷ names) =
      let others = filter (λ l. bytes_eq (before_tab l) name) (map group_line names) in
      let same = filter (λ n. bytes_eq n name) names in
      ap (λ n. map image_in (cond (bytes_eq n name) (group_line first ∷ others) others)) (name_again first)
      ∙ (elim (bytes_eq first name) as (λ b. map image_in (cond b (group_line first ∷ others) others) ≡ map image_of (cond b (first ∷ same) same)) [
        | true ↦ ap (λ i. i ∷ map image_in others) (image_again first) ∙ ap (λ is. image_of first ∷ is) (images_again name names)
        | false ↦ images_again name names
      ])

-- ---- one name among the names of groups

none_equal : (name : List ℕ) (names : List (List ℕ)) → (IsAmong name names → ⊥) → filter (λ n. bytes_eq n name) names ≡ []
none_equal name [] other = refl
none_equal name (first ∷ names) other =
    (elim (bytes_eq first name) as (λ b. bytes_eq first name ≡ b → cond b (first ∷ filter (λ n. bytes_eq n name) names) (filter (λ n. bytes_eq n name) names) ≡ []) [
      | true ↦ λ same. absurd (other (inl (sym ((bytes_decides first name).0 same))))
      | false ↦ λ apart. none_equal name names (λ among. other (inr among))
    ]) refl

above : (low name : List ℕ) (names : List (List ℕ)) → AllByRecursion (λ n. slice_cmp nat_cmp low n ≡ Less) names → IsAmong name names → slice_cmp nat_cmp low name ≡ Less
above low name [] all among = absurd among
above low name (first ∷ names) all (inl same) = subst (λ (n : List ℕ). slice_cmp nat_cmp low n ≡ Less) (sym same) all.0
above low name (first ∷ names) all (inr later) = above low name names all.1 later

not_itself : (name : List ℕ) → slice_cmp nat_cmp name name ≡ Less → ⊥
not_itself name less = let e = sym (tied_itself nat_list_cmp_total name) ∙ less in cc

one_equal : (name : List ℕ) (names : List (List ℕ)) → IsStrictlySortedBy (slice_cmp nat_cmp) names → IsAmong name names → filter (λ n. bytes_eq n name) names ≡ name ∷ []
unfolding IsStrictlySortedBy
one_equal name [] ascend among = absurd among
one_equal name (first ∷ names) ascend (inl same) =
    let rest = filter (λ n. bytes_eq n name) names in
    let here : bytes_eq first name ≡ true = ap (λ n. bytes_eq n name) (sym same) ∙ nat_list_eq_equiv.refl name in
    ap (λ b. cond b (first ∷ rest) rest) here
    ∙ ap (λ ns. first ∷ ns) (none_equal name names (λ among. not_itself name (subst (λ (n : List ℕ). slice_cmp nat_cmp n name ≡ Less) (sym same) (above first name names ascend.0 among))))
    ∙ ap (λ n. n ∷ []) (sym same)
one_equal name (first ∷ names) ascend (inr later) =
    let rest = filter (λ n. bytes_eq n name) names in
    (elim (bytes_eq first name) as (λ b. bytes_eq first name ≡ b → cond b (first ∷ rest) rest ≡ name ∷ []) [
      | true ↦ λ same. absurd (not_itself name (subst (λ (n : List ℕ). slice_cmp nat_cmp n name ≡ Less) ((bytes_decides first name).0 same) (above first name names ascend.0 later)))
      | false ↦ λ apart. one_equal name names ascend.1 later
    ]) refl

-- ---- lines of a group

module _ (by : Key) where
  lines_among : (name : List ℕ) (lines : List (List ℕ)) → (lines_in by name lines ≡ [] → ⊥) → IsAmong name (map (key_of by) lines)
  lines_among name [] some = absurd (some refl)
  lines_among name (line ∷ lines) some =
      (elim (bytes_eq (key_of by line) name) as (λ b. bytes_eq (key_of by line) name ≡ b → (cond b (line ∷ lines_in by name lines) (lines_in by name lines) ≡ [] → ⊥) → (name ≡ key_of by line) ⊎ IsAmong name (map (key_of by) lines)) [
        | true ↦ λ same here. inl (sym ((bytes_decides (key_of by line) name).0 same))
        | false ↦ λ apart there. inr (lines_among name lines there)
      ]) refl some

  some_cond : (b : Bool) (line : List ℕ) (lines : List (List ℕ)) → (lines ≡ [] → ⊥) → cond b (line ∷ lines) lines ≡ [] → ⊥
  some_cond true line lines some none = cc
  some_cond false line lines some none = some none

  has_line : (name : List ℕ) (lines : List (List ℕ)) → IsAmong name (map (key_of by) lines) → lines_in by name lines ≡ [] → ⊥
  has_line name [] among none = absurd among
  has_line name (line ∷ lines) (inl same) none =
      let here : bytes_eq (key_of by line) name ≡ true = ap (λ n. bytes_eq n name) (sym same) ∙ nat_list_eq_equiv.refl name in
      let e : line ∷ lines_in by name lines ≡ [] = ap (λ b. cond b (line ∷ lines_in by name lines) (lines_in by name lines)) (sym here) ∙ none in cc
  has_line name (line ∷ lines) (inr among) none = some_cond (bytes_eq (key_of by line) name) line (lines_in by name lines) (has_line name lines among) none

  lines_joined : (name : List ℕ) (lines more : List (List ℕ)) → lines_in by name (lines ++ more) ≡ lines_in by name lines ++ lines_in by name more
  lines_joined name [] more = refl
  lines_joined name (line ∷ lines) more =
      ap (λ ls. cond (bytes_eq (key_of by line) name) (line ∷ ls) ls) (lines_joined name lines more)
      ∙ (elim (bytes_eq (key_of by line) name) as (λ b. cond b (line ∷ lines_in by name lines ++ lines_in by name more) (lines_in by name lines ++ lines_in by name more) ≡ cond b (line ∷ lines_in by name lines) (lines_in by name lines) ++ lines_in by name more) [ true ↦ refl | false ↦ refl ])

images_joined : (name : List ℕ) (lines more : List (List ℕ)) → images_in name (lines ++ more) ≡ images_in name lines ++ images_in name more
images_joined name [] more = refl
images_joined name (line ∷ lines) more =
    let found = filter (λ l. bytes_eq (before_tab l) name) in
    (elim (bytes_eq (before_tab line) name) as (λ b. map image_in (cond b (line ∷ found (lines ++ more)) (found (lines ++ more))) ≡ map image_in (cond b (line ∷ found lines) (found lines)) ++ images_in name more) [
      | true ↦ ap (λ is. image_in line ∷ is) (images_joined name lines more)
      | false ↦ images_joined name lines more
    ])

texts_joined : (texts more : List (List ℕ)) → lines_of_all (texts ++ more) ≡ lines_of_all texts ++ lines_of_all more
texts_joined [] more = refl
texts_joined (text ∷ texts) more = ap (λ ls. lines_of text ++ ls) (texts_joined texts more) ∙ sym (append_assoc (lines_of text) (lines_of_all texts) (lines_of_all more))

either_among : {G : Type 0} (line : List ℕ) (front back : List (List ℕ)) → IsAmong line (front ++ back) → (IsAmong line front → G) → (IsAmong line back → G) → G
either_among line [] back among here there = there among
either_among line (first ∷ front) back (inl same) here there = here (inl same)
either_among line (first ∷ front) back (inr later) here there = either_among line front back later (λ among. here (inr among)) there

same_joined : (a b c d : List (List ℕ)) → HaveSameLines a b → HaveSameLines c d → HaveSameLines (a ++ c) (b ++ d)
same_joined a b c d first second = (
  λ line among. either_among line a c among (λ here. among_front line b d (first.0 line here)) (λ there. among_back line b d (second.0 line there)),
  λ line among. either_among line b d among (λ here. among_front line a c (first.1 line here)) (λ there. among_back line a c (second.1 line there)),
)

-- ---- the images of one group in all parts

module _ (one : ReadsOne) (again : ReadsAgain) (grouping : Grouping) (settled : settings_refusal grouping.lg_k MAX_THETA grouping.hashing.seed ≡ None) where
  abbrev hashing : Hashing
  hashing = grouping.hashing

  abbrev image_of : List (List ℕ) → List ℕ
  image_of lines = image_of_lines hashing grouping.lg_k lines

  -- each image is that of the lines of its part, with at least the nominal entries of the union
  abbrev AreOfParts : (images : List (List ℕ)) → (parts : List (List (List ℕ))) → Type 0
  AreOfParts [] [] = ⊤
  AreOfParts (image ∷ images) (part ∷ parts) = ((own : ℕ) × (grouping.lg_k ≤ own) × (own ≤ 26) × (image ≡ image_of_lines hashing own part)) × AreOfParts images parts
  AreOfParts [] (part ∷ parts) = ⊥
  AreOfParts (image ∷ images) [] = ⊥

  of_parts_joined : (images more : List (List ℕ)) (parts others : List (List (List ℕ))) → AreOfParts images parts → AreOfParts more others → AreOfParts (images ++ more) (parts ++ others)
  of_parts_joined [] more [] others are also = also
  of_parts_joined [] more (part ∷ parts) others are also = absurd are
  of_parts_joined (image ∷ images) more [] others are also = absurd are
  of_parts_joined (image ∷ images) more (part ∷ parts) others are also = (are.0, of_parts_joined images more parts others are.1 also)

  values_read : (images : List (List ℕ)) (parts : List (List (List ℕ))) (sketches : List (Compact ℕ)) → AreOfParts images parts → AreRead hashing.seed images sketches → AreValues hashing grouping.lg_k parts (values_of_sketches sketches)
  values_read [] [] [] are read = tt
  values_read [] [] (s ∷ sketches) are read = absurd read
  values_read [] (part ∷ parts) sketches are read = absurd are
  values_read (image ∷ images) [] sketches are read = absurd are
  values_read (image ∷ images) (part ∷ parts) [] are read = absurd read
  values_read (image ∷ images) (part ∷ parts) (s ∷ sketches) are read = (
    (
      are.0.0,
      are.0.1,
      ap (λ (r : Compact ℕ). compact_value hash_key r) (one image (seed_hash hashing.seed) s (sketch_of_value hashing.seed (value_of_lines hashing are.0.0 part)) read.0 (image_read hashing again (seeded hashing.seed grouping.lg_k settled) are.0.0 image part are.0.2 are.0.3))
          ∙ value_again hashing are.0.0 part,
    ),
    values_read images parts sketches are.1 read.1,
  )

  -- the union of the images of parts is the image of all their lines
  parts_united : (images : List (List ℕ)) (parts : List (List (List ℕ))) (image : List ℕ) → AreOfParts images parts → IsUnitedImage hashing.seed grouping.lg_k images image → image ≡ image_of (all_lines hashing parts)
  parts_united images parts image are is =
      is.2 ∙ ap (λ v. written (sketch_of_value hashing.seed v)) (united_values hashing grouping.lg_k parts (values_of_sketches is.0) (values_read images parts is.0 are is.1))

  all_parts_joined : (parts more : List (List (List ℕ))) → all_lines hashing (parts ++ more) ≡ all_lines hashing parts ++ all_lines hashing more
  all_parts_joined [] more = refl
  all_parts_joined (part ∷ parts) more = ap (λ ls. part ++ ls) (all_parts_joined parts more) ∙ sym (append_assoc part (all_lines hashing parts) (all_lines hashing more))

  abbrev group_image : (own : ℕ) → (lines : List (List ℕ)) → List ℕ → List ℕ
  group_image own lines name = written (group_sketch (of_size grouping own) lines name)

  -- the parts of one group, whose images these are
  record IsParted (name : List ℕ) (images lines : List (List ℕ)) : Type 0 where
    parts : List (List (List ℕ))
    are : AreOfParts images parts
    all : all_lines hashing parts ≡ lines_in grouping.by name lines

  not_empty : (line : List ℕ) (others : List (List ℕ)) → line ∷ others ≡ [] → ⊥
  not_empty line others none = cc

  one_part : (own : ℕ) → grouping.lg_k ≤ own → own ≤ 26 → (name : List ℕ) (lines names : List (List ℕ)) (found : List (List ℕ)) → lines_in grouping.by name lines ≡ found → AreGroups grouping.by lines names →
      IsParted name (map (group_image own lines) (filter (λ n. bytes_eq n name) names)) lines
  one_part own least small name lines names [] found groups =
      let none = none_equal name names (λ among. has_line grouping.by name lines (groups.same.0 name among) found) in record {
        parts = [];
        are = subst (λ (images : List (List ℕ)). AreOfParts images []) (sym (ap (map (group_image own lines)) none)) tt;
        all = sym found;
      }
  one_part own least small name lines names (line ∷ others) found groups =
      let here = one_equal name names groups.ascending (groups.same.1 name (lines_among grouping.by name lines (λ none. not_empty line others (sym found ∙ none)))) in record {
        parts = lines_in grouping.by name lines ∷ [];
        are = subst (λ (images : List (List ℕ)). AreOfParts images (lines_in grouping.by name lines ∷ [])) (sym (ap (map (group_image own lines)) here)) ((own, least, small, refl), tt);
        all = append-nil (lines_in grouping.by name lines);
      }

  names_lack : (texts names : List (List ℕ)) → AreGroups grouping.by (lines_of_all texts) names → AllLackLf names
  names_lack texts names groups = each_lacks names (λ name among. one_lacks name (map (key_of grouping.by) (lines_of_all texts)) (keys_lack grouping.by (lines_of_all texts) (all_lines_lack texts)) (groups.same.0 name among))

  -- the lines of a text of groups
  text_lines : (own : ℕ) (texts : List (List ℕ)) (text : List ℕ) (is : IsSketchedText (of_size grouping own) (lines_of_all texts) text) →
      lines_of text ≡ map (group_line (group_image own (lines_of_all texts)) (λ n. written_bytes (group_sketch (of_size grouping own) (lines_of_all texts) n))) is.0
  text_lines own texts text is = ap lines_of is.2 ∙ lines_again (group_image own (lines_of_all texts)) (λ n. written_bytes (group_sketch (of_size grouping own) (lines_of_all texts) n)) is.0 (names_lack texts is.0 is.1)

  grouped_parts : (name : List ℕ) (sources : List (List (List ℕ))) (texts : List (List ℕ)) → AreSketchedTexts grouping sources texts → IsParted name (images_in name (lines_of_all texts)) (lines_of_all (flat_map (λ part. part) sources))
  grouped_parts name [] [] sketched = record { parts = []; are = tt; all = refl }
  grouped_parts name [] (text ∷ texts) sketched = absurd sketched
  grouped_parts name (part ∷ sources) [] sketched = absurd sketched
  grouped_parts name (part ∷ sources) (text ∷ texts) sketched =
      let lines = lines_of_all part in
      let own = sketched.0.0 in
      let is = sketched.0.3 in
      let bytes : (n : List ℕ) → AreBytes (group_image own lines n) = λ n. written_bytes (group_sketch (of_size grouping own) lines n) in
      let names = is.0 in
      let images = map (group_image own lines) (filter (λ n. bytes_eq n name) names) in
      let more = images_in name (lines_of_all texts) in
      let first = one_part own sketched.0.1 sketched.0.2 name lines names (lines_in grouping.by name lines) refl is.1 in
      let others = grouped_parts name sources texts sketched.1 in record {
        parts = first.parts ++ others.parts;
        are = subst (λ (images : List (List ℕ)). AreOfParts images (first.parts ++ others.parts))
            (sym (images_joined name (lines_of text) (lines_of_all texts) ∙ ap (λ is. is ++ more) (ap (images_in name) (text_lines own part text is) ∙ images_again (group_image own lines) bytes name names)))
            (of_parts_joined images more first.parts others.parts first.are others.are);
        all =
            all_parts_joined first.parts others.parts
            ∙ ap (λ ls. ls ++ all_lines hashing others.parts) first.all
            ∙ ap (λ ls. lines_in grouping.by name lines ++ ls) others.all
            ∙ sym (lines_joined grouping.by name lines (lines_of_all (flat_map (λ part. part) sources)))
            ∙ ap (lines_in grouping.by name) (sym (texts_joined part (flat_map (λ part. part) sources)));
      }

  same_names : (sources : List (List (List ℕ))) (texts : List (List ℕ)) → AreSketchedTexts grouping sources texts → HaveSameLines (map before_tab (lines_of_all texts)) (map (key_of grouping.by) (lines_of_all (flat_map (λ part. part) sources)))
  same_names [] [] sketched = (λ line among. among, λ line among. among)
  same_names [] (text ∷ texts) sketched = absurd sketched
  same_names (part ∷ sources) [] sketched = absurd sketched
  same_names (part ∷ sources) (text ∷ texts) sketched =
      let lines = lines_of_all part in
      let own = sketched.0.0 in
      let is = sketched.0.3 in
      let names = is.0 in
      let here : map before_tab (lines_of text) ≡ names = ap (map before_tab) (text_lines own part text is) ∙ names_again (group_image own lines) (λ n. written_bytes (group_sketch (of_size grouping own) lines n)) names in
      subst (λ ks. HaveSameLines (map before_tab (lines_of text ++ lines_of_all texts)) ks) (sym (ap (map (key_of grouping.by)) (texts_joined part (flat_map (λ part. part) sources)) ∙ map-append (key_of grouping.by) lines (lines_of_all (flat_map (λ part. part) sources))))
      (subst (λ ns. HaveSameLines ns (map (key_of grouping.by) lines ++ map (key_of grouping.by) (lines_of_all (flat_map (λ part. part) sources)))) (sym (map-append before_tab (lines_of text) (lines_of_all texts)))
      (same_joined (map before_tab (lines_of text)) (map (key_of grouping.by) lines) (map before_tab (lines_of_all texts)) (map (key_of grouping.by) (lines_of_all (flat_map (λ part. part) sources)))
      (subst (λ ns. HaveSameLines ns (map (key_of grouping.by) lines)) (sym here) is.1.same) (same_names sources texts sketched.1)))

  lines_united : (sources : List (List (List ℕ))) (texts names : List (List ℕ)) (out : List ℕ) → AreSketchedTexts grouping sources texts → AreUnitedLines hashing.seed grouping.lg_k (lines_of_all texts) names out →
      out ≡ flat_map (λ name. image_line name (group_image grouping.lg_k (lines_of_all (flat_map (λ part. part) sources)) name)) names
  lines_united sources texts [] out sketched unions = unions
  lines_united sources texts (name ∷ names) out sketched unions =
      let parted = grouped_parts name sources texts sketched in
      let rest = unions.1 in
      let image : unions.0 ≡ group_image grouping.lg_k (lines_of_all (flat_map (λ part. part) sources)) name =
      parts_united (images_in name (lines_of_all texts)) parted.parts unions.0 parted.are unions.2 ∙ ap image_of parted.all in
      unions.3 ∙ ap (λ i. image_line name i ++ rest) image ∙ ap (λ t. image_line name (group_image grouping.lg_k (lines_of_all (flat_map (λ part. part) sources)) name) ++ t) (lines_united sources texts names rest sketched unions.4)

  -- parts that are sketched by groups, united by groups, are sketched by groups as a whole
  pub groups_united : (sources : List (List (List ℕ))) (texts : List (List ℕ)) (out : List ℕ) → AreSketchedTexts grouping sources texts → IsUnitedText hashing.seed grouping.lg_k (lines_of_all texts) out → IsSketchedText grouping (lines_of_all (flat_map (λ part. part) sources)) out
  groups_united sources texts out sketched unions =
      let same = same_names sources texts sketched in (
        unions.0,
        record {
          ascending = unions.1.ascending;
          same = (λ name among. same.0 name (unions.1.same.0 name among), λ name among. unions.1.same.1 name (same.1 name among));
        },
        lines_united sources texts unions.0 out sketched unions.2,
      )
