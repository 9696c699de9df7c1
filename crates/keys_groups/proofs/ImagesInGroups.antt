-- Images in groups: one line more, and the groups in their order.
use Rattle.std.proofs.Common.{ℕ, ◌≡◌, ◌<◌, length, arith, Bool, true, false, cond, List, [], ◌∷◌, ◌++◌, map, Option, Some, None, Vec, refl, sym, ap, ◌∙◌, subst, inl, inr}
use Rattle.std.specs.Prelude.{◌⊎◌, ⊤, IsSome, IfSome}
use Rattle.std.specs.List.{filter, AllByRecursion}
use Rattle.std.specs.List.Sorted.{IsStrictlySortedBy}
use Rattle.std.specs.Option.{option_map_or}
use Rattle.std.specs.Str.{bytes_eq}
use Rattle.std.specs.Cmp.Lexicographic.{slice_cmp, bytes_decides, nat_list_eq_equiv}
use Rattle.std.specs.Ordering.{nat_cmp}
use Rattle.std.specs.Map.{keys_of}
use Rattle.std.specs.BTreeMap.{BTreeMap}
use Rattle.std.proofs.lemmas.List.{map-append}
use Rattle.sketch_base.specs.Seed.{seed_hash}
use Rattle.core_compact.specs.CompactState.{Compact, ordered_sketch}
use Rattle.core_operators.specs.Union.{Union}
use Rattle.theta_sketches.specs.Image.{IsReadable}
use Rattle.keys_sketches.specs.Keys.{IsAmong, sketch_of_value}
use Rattle.keys_sketches.specs.Shards.{united, values_of_sketches, AreRead}
use Rattle.keys_sketches.specs.Unions.{IsReady, HasUnited}
use Rattle.keys_groups.specs.Tabs.{before_tab}
use Rattle.keys_groups.specs.United.{image_in, images_in, AreNames, union_at, IsGroupUnion, IsUniting, AreReady, SetsUnion, UpdatesUnion, BeginsUnion}
use Rattle.keys_groups.specs.United.{sketch_of_union, IsUnitedSketch, AreUnionSketches, AreUnionsOf}
use Rattle.keys_groups.specs.Names.{texts_of}
use Rattle.keys_groups.proofs.Entries.{value_at, same_itself, texts_ascend, among_texts, has_value, not_below}
use Rattle.keys_groups.proofs.LinesInGroups.{filter_more}

-- the images of one line more
mapped_cond : (b : Bool) (lines : List (List ℕ)) (line : List ℕ) → map image_in (cond b (lines ++ line ∷ []) lines) ≡ cond b (map image_in lines ++ image_in line ∷ []) (map image_in lines)
mapped_cond true lines line = map-append image_in lines (line ∷ [])
mapped_cond false lines line = refl

images_more : (name : List ℕ) (lines : List (List ℕ)) (line : List ℕ) → images_in name (lines ++ line ∷ []) ≡ cond (bytes_eq (before_tab line) name) (images_in name lines ++ image_in line ∷ []) (images_in name lines)
images_more name lines line =
    ap (map image_in) (filter_more (λ l. bytes_eq (before_tab l) name) lines line)
    ∙ mapped_cond (bytes_eq (before_tab line) name) (filter (λ l. bytes_eq (before_tab l) name) lines) line

some_more : (images : List (List ℕ)) (image : List ℕ) → images ++ image ∷ [] ≡ [] → ⊥
some_more [] image none = cc
some_more (first ∷ images) image none = cc

-- a group with an image is that of a line, and the other way round
image_among : (name : List ℕ) (lines : List (List ℕ)) → (images_in name lines ≡ [] → ⊥) → IsAmong name (map before_tab lines)
image_among name [] some = absurd (some refl)
image_among name (line ∷ lines) some =
    (elim (bytes_eq (before_tab line) name) as (λ b. bytes_eq (before_tab line) name ≡ b → (map image_in (cond b (line ∷ filter (λ l. bytes_eq (before_tab l) name) lines) (filter (λ l. bytes_eq (before_tab l) name) lines)) ≡ [] → ⊥) → (name ≡ before_tab line) ⊎ IsAmong name (map before_tab lines)) [
      | true ↦ λ same here. inl (sym ((bytes_decides (before_tab line) name).0 same))
      | false ↦ λ apart there. inr (image_among name lines there)
    ]) refl some

image_cond : (b : Bool) (line : List ℕ) (lines : List (List ℕ)) → (map image_in lines ≡ [] → ⊥) → map image_in (cond b (line ∷ lines) lines) ≡ [] → ⊥
image_cond true line lines some none = cc
image_cond false line lines some none = some none

has_image : (name : List ℕ) (lines : List (List ℕ)) → IsAmong name (map before_tab lines) → images_in name lines ≡ [] → ⊥
has_image name [] among none = absurd among
has_image name (line ∷ lines) (inl same) none =
    let here : bytes_eq (before_tab line) name ≡ true = ap (λ n. bytes_eq n name) (sym same) ∙ nat_list_eq_equiv.refl name in
    let rest = filter (λ l. bytes_eq (before_tab l) name) lines in
    let e : image_in line ∷ map image_in rest ≡ [] = ap (λ b. map image_in (cond b (line ∷ rest) rest)) (sym here) ∙ none in cc
has_image name (line ∷ lines) (inr among) none =
    image_cond (bytes_eq (before_tab line) name) line (filter (λ l. bytes_eq (before_tab l) name) lines) (has_image name lines among) none

-- what holds of the value at each name holds of each entry
module _ {A X : Type 0} (Q : List ℕ → Option X → Type 0) where
  abbrev pub EachEntry : List (Vec ℕ A × X) → Type 0
  EachEntry [] = ⊤
  EachEntry (entry ∷ entries) = Q entry.0.items (Some entry.1) × EachEntry entries

  pub each_entry : (entries : List (Vec ℕ A × X)) → IsStrictlySortedBy (λ x y. slice_cmp nat_cmp x.items y.items) (keys_of entries) → ((name : List ℕ) → IsSome (value_at name entries) → Q name (value_at name entries)) → EachEntry entries
  unfolding IsStrictlySortedBy
  each_entry [] ascend all = tt
  each_entry (entry ∷ entries) ascend all =
      let own = entry.0.items in
      let here : value_at own (entry ∷ entries) ≡ Some entry.1 = ap (λ b. cond b (Some entry.1) (value_at own entries)) (same_itself own) in (
        subst (Q own) here (all own (subst (λ (o : Option X). IsSome o) (sym here) refl)),
        each_entry entries ascend.1
            (λ name some.
            let past : value_at name (entry ∷ entries) ≡ value_at name entries = ap (λ b. cond b (Some entry.1) (value_at name entries)) (not_below own name entries ascend.0 some) in
            subst (Q name) past (all name (subst (λ (o : Option X). IsSome o) (sym past) some))),
      )

-- a group has a union exactly if it has an image
some_union : {P : Type 0} (seed lg_k : ℕ) (images : List (List ℕ)) (o : Option (Union ℕ P)) → IsGroupUnion seed lg_k images o → (images ≡ [] → ⊥) → IsSome o
some_union seed lg_k images None is some = absurd (some is)
some_union seed lg_k images (Some u) is some = refl

some_images : {P : Type 0} (seed lg_k : ℕ) (images : List (List ℕ)) (o : Option (Union ℕ P)) → IsGroupUnion seed lg_k images o → IsSome o → images ≡ [] → ⊥
some_images seed lg_k images None is some none = cc
some_images seed lg_k images (Some u) is some none = is.0 none

-- the last of the images of a group was read
last_image : (seed : ℕ) (images : List (List ℕ)) (image : List ℕ) (sketches : List (Compact ℕ)) → AreRead seed (images ++ image ∷ []) sketches → IsReadable image (seed_hash seed)
last_image seed [] image [] read = absurd read
last_image seed [] image (s ∷ sketches) read = (s, read.0)
last_image seed (first ∷ images) image [] read = absurd read
last_image seed (first ∷ images) image (s ∷ sketches) read = last_image seed images image sketches read.1

united_read : {P : Type 0} (seed lg_k : ℕ) (images : List (List ℕ)) (image : List ℕ) (o : Option (Union ℕ P)) → IsGroupUnion seed lg_k (images ++ image ∷ []) o → IsReadable image (seed_hash seed)
united_read seed lg_k images image None is = absurd (some_more images image is)
united_read seed lg_k images image (Some u) is = last_image seed images image is.1.sketches is.1.are_read

module _ {P : Type 0} (seed lg_k : ℕ) where
  -- the sketch of a union; that of no images if there is none
  abbrev sketch_or_none : Option (Union ℕ P) → Compact ℕ
  sketch_or_none o = option_map_or sketch_of_union o (sketch_of_value seed (united lg_k []))

  sketch_is : (images : List (List ℕ)) (o : Option (Union ℕ P)) → IsGroupUnion seed lg_k images o → IsUnitedSketch seed lg_k images (sketch_or_none o)
  sketch_is images None none = subst (λ (is : List (List ℕ)). IsUnitedSketch seed lg_k is (sketch_of_value seed (united lg_k []))) (sym none) ([], tt, refl)
  sketch_is images (Some u) is = (
    is.1.sketches,
    is.1.are_read,
    ap (λ v. ordered_sketch v u.seed_hash) is.1.value ∙ ap (ordered_sketch (united lg_k (values_of_sketches is.1.sketches))) (ap (λ (w : Union ℕ P). w.seed_hash) is.1.made),
  )

module _ {A P : Type 0} (seed lg_k : ℕ) where
  -- the union of one group was set
  uniting_more : (lines : List (List ℕ)) (line : List ℕ) (m n : BTreeMap (Vec ℕ A) (Union ℕ P)) (w : Union ℕ P) → IsUniting seed lg_k lines m → SetsUnion (before_tab line) w m n →
      HasUnited seed lg_k (images_in (before_tab line) lines ++ image_in line ∷ []) w → IsUniting seed lg_k (lines ++ line ∷ []) n
  uniting_more lines line m n w uniting sets has name =
      let own = before_tab line in
      let image = image_in line in
      subst (IsGroupUnion seed lg_k (images_in name (lines ++ line ∷ []))) (sym (sets name))
      ((elim (bytes_eq own name) as (λ b. bytes_eq own name ≡ b → IsGroupUnion seed lg_k (images_in name (lines ++ line ∷ [])) (cond b (Some w) (union_at m name))) [
        | true ↦ λ same.
            let is : images_in name (lines ++ line ∷ []) ≡ images_in own lines ++ image ∷ [] =
            images_more name lines line ∙ ap (λ b. cond b (images_in name lines ++ image ∷ []) (images_in name lines)) same ∙ ap (λ k. images_in k lines ++ image ∷ []) (sym ((bytes_decides own name).0 same)) in
            (λ none. some_more (images_in own lines) image (sym is ∙ none), subst (λ images. HasUnited seed lg_k images w) (sym is) has)
        | false ↦ λ apart.
            subst (λ images. IsGroupUnion seed lg_k images (union_at m name)) (sym (images_more name lines line ∙ ap (λ b. cond b (images_in name lines ++ image ∷ []) (images_in name lines)) apart)) (uniting name)
      ]) refl)

  -- an image was united into a group that was there
  pub updated_more : (lines : List (List ℕ)) (line : List ℕ) (m n : BTreeMap (Vec ℕ A) (Union ℕ P)) → IsUniting seed lg_k lines m → UpdatesUnion seed (before_tab line) (image_in line) m n true → IsUniting seed lg_k (lines ++ line ∷ []) n
  updated_more lines line m n uniting updated =
      let was = subst (IsGroupUnion seed lg_k (images_in (before_tab line) lines)) updated.2 (uniting (before_tab line)) in
      uniting_more lines line m n updated.1 uniting updated.4 (updated.3.0 lg_k (images_in (before_tab line) lines) was.1)

  -- an image began a group
  pub begun_more : (lines : List (List ℕ)) (line : List ℕ) (m k n : BTreeMap (Vec ℕ A) (Union ℕ P)) → IsUniting seed lg_k lines m → UpdatesUnion seed (before_tab line) (image_in line) m k false → BeginsUnion seed lg_k (before_tab line) (image_in line) k n → IsUniting seed lg_k (lines ++ line ∷ []) n
  begun_more lines line m k n uniting same begun =
      let none : images_in (before_tab line) lines ≡ [] = subst (IsGroupUnion seed lg_k (images_in (before_tab line) lines)) same.1 (uniting (before_tab line)) in
      uniting_more lines line k n begun.0 (subst (IsUniting seed lg_k lines) (sym same.0) uniting) begun.3
      (subst (λ images. HasUnited seed lg_k images begun.0) (ap (λ images. images ++ image_in line ∷ []) (sym none)) begun.1)

  -- the image of the last line was read
  pub last_read : (lines : List (List ℕ)) (line : List ℕ) (m : BTreeMap (Vec ℕ A) (Union ℕ P)) → IsUniting seed lg_k (lines ++ line ∷ []) m → IsReadable (image_in line) (seed_hash seed)
  last_read lines line m uniting =
      let own = before_tab line in
      let is : images_in own (lines ++ line ∷ []) ≡ images_in own lines ++ image_in line ∷ [] =
      images_more own lines line ∙ ap (λ b. cond b (images_in own lines ++ image_in line ∷ []) (images_in own lines)) (nat_list_eq_equiv.refl own) in
      united_read seed lg_k (images_in own lines) (image_in line) (union_at m own) (subst (λ images. IsGroupUnion seed lg_k images (union_at m own)) is (uniting own))

  -- all groups stay ready
  pub ready_more : (m n : BTreeMap (Vec ℕ A) (Union ℕ P)) (name : List ℕ) (w : Union ℕ P) → AreReady seed m → SetsUnion name w m n → IsReady seed w → AreReady seed n
  ready_more m n name w ready sets is other =
      subst (λ o. IfSome o (IsReady seed)) (sym (sets other))
      ((elim (bytes_eq name other) as (λ b. IfSome (cond b (Some w) (union_at m other)) (IsReady seed)) [ true ↦ is | false ↦ ready other ]))

  pub ready_at : (m : BTreeMap (Vec ℕ A) (Union ℕ P)) (name : List ℕ) (u : Union ℕ P) → AreReady seed m → Some u ≡ union_at m name → IsReady seed u
  ready_at m name u ready is = subst (λ o. IfSome o (IsReady seed)) (sym is) (ready name)

  -- ---- all groups in their order

  -- the sketch of the group of a name
  abbrev sketch_at : BTreeMap (Vec ℕ A) (Union ℕ P) → List ℕ → Compact ℕ
  sketch_at m name = sketch_or_none seed lg_k (union_at m name)

  listed_entries : (m : BTreeMap (Vec ℕ A) (Union ℕ P)) (entries : List (Vec ℕ A × Union ℕ P)) → EachEntry (λ name o. o ≡ union_at m name) entries → AreUnionsOf (sketch_at m) (texts_of entries) entries
  listed_entries m [] each = tt
  listed_entries m (entry ∷ entries) each = (
    refl,
    ap (λ (o : Option (Union ℕ P)). sketch_or_none seed lg_k o) each.0,
    listed_entries m entries each.1,
  )

  pub all_unions : (lines : List (List ℕ)) (m : BTreeMap (Vec ℕ A) (Union ℕ P)) → IsStrictlySortedBy (λ x y. slice_cmp nat_cmp x.items y.items) (keys_of m.entries) → IsUniting seed lg_k lines m →
      (names : List (List ℕ)) × (sketch : List ℕ → Compact ℕ) × AreNames lines names × AreUnionSketches seed lg_k lines sketch × AreUnionsOf sketch names m.entries
  all_unions lines m ascend uniting = (
    texts_of m.entries,
    sketch_at m,
    record {
      ascending = texts_ascend m.entries ascend;
      same = (
        λ name among. image_among name lines (some_images seed lg_k (images_in name lines) (union_at m name) (uniting name) (has_value name m.entries among)),
        λ name among. among_texts name m.entries (some_union seed lg_k (images_in name lines) (union_at m name) (uniting name) (has_image name lines among)),
      );
    },
    λ name. sketch_is seed lg_k (images_in name lines) (union_at m name) (uniting name),
    listed_entries m m.entries (each_entry (λ name o. o ≡ union_at m name) m.entries ascend (λ name some. refl)),
  )

  sound_entries : (entries : List (Vec ℕ A × Union ℕ P)) → EachEntry (λ name o. IfSome o (IsReady seed)) entries → AllByRecursion (λ entry. IsReady seed entry.1) entries
  sound_entries [] each = tt
  sound_entries (entry ∷ entries) each = (each.0, sound_entries entries each.1)

  pub all_sound : (m : BTreeMap (Vec ℕ A) (Union ℕ P)) → IsStrictlySortedBy (λ x y. slice_cmp nat_cmp x.items y.items) (keys_of m.entries) → AreReady seed m → AllByRecursion (λ entry. IsReady seed entry.1) m.entries
  all_sound m ascend ready = sound_entries m.entries (each_entry (λ name o. IfSome o (IsReady seed)) m.entries ascend (λ name some. ready name))

  pub first_sound : (old new : List (Vec ℕ A × Union ℕ P)) (entry : Vec ℕ A × Union ℕ P) → old ≡ entry ∷ new → AllByRecursion (λ e. IsReady seed e.1) old → IsReady seed entry.1 × AllByRecursion (λ e. IsReady seed e.1) new
  first_sound old new entry parted sound = subst (λ entries. AllByRecursion (λ (e : Vec ℕ A × Union ℕ P). IsReady seed e.1) entries) parted sound

-- the first of the groups that are left
module _ {A P : Type 0} (sketch : List ℕ → Compact ℕ) where
  pub first_listed : (names : List (List ℕ)) (old new : List (Vec ℕ A × Union ℕ P)) (entry : Vec ℕ A × Union ℕ P) → old ≡ entry ∷ new → AreUnionsOf sketch names old →
      (others : List (List ℕ)) × (names ≡ entry.0.items ∷ others) × (sketch_of_union entry.1 ≡ sketch entry.0.items) × AreUnionsOf sketch others new
  first_listed [] old new entry parted listed = absurd (subst (AreUnionsOf sketch []) parted listed)
  first_listed (name ∷ names) old new entry parted listed =
      let all : AreUnionsOf sketch (name ∷ names) (entry ∷ new) = subst (AreUnionsOf sketch (name ∷ names)) parted listed in
      (names, ap (λ n. n ∷ names) all.0, all.1 ∙ ap sketch all.0, all.2)

  pub none_listed : (names : List (List ℕ)) (entries : List (Vec ℕ A × Union ℕ P)) → (0 < length entries → ⊥) → AreUnionsOf sketch names entries → names ≡ []
  none_listed [] entries none listed = refl
  none_listed (name ∷ names) [] none listed = absurd listed
  none_listed (name ∷ names) (entry ∷ entries) none listed = absurd (none (omega arith))
