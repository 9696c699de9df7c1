-- Sketches that wait, and are united at once.
use Rattle.std.proofs.Common.{◌≡◌, ℕ, ◌^◌, ◌+◌, ◌<◌, Bool, true, false, eqb, List, [], ◌∷◌, ◌++◌, map, length, take, get_or, Option, Some, None, inl, inr, refl, sym, ap, subst, ◌∙◌, append_assoc, append-nil, arith}
use Rattle.std.specs.Prelude.{◌||◌, ◌==◌}
use Rattle.std.specs.List.{AllByRecursion, list_all}
use Rattle.std.proofs.lemmas.List.{map_more, map-append}
use Rattle.std.proofs.lemmas.Bool.Decides.{nat_tests}
use Rattle.sketch_base.specs.Seed.{seed_hash}
use Rattle.sketch_base.specs.declared.error.ErrorKind.{ErrorKind}
use Rattle.sketch_base.specs.declared.error.ErrorKind.TheVariants.{OutOfMemory}
use Rattle.core_compact.specs.CompactState.{Compact, compact_value, shown_of}
use Rattle.core_laws.specs.Entries.{hash_key, first_hash, KeepsKey}
use Rattle.core_laws.specs.Operators.{unite, unite_nonempty}
use Rattle.core_laws.specs.Shown.{Shown}
use Rattle.core_laws.specs.Values.{Sketch, Empty}
use Rattle.core_laws.specs.declared.TheConstants.{MAX_THETA}
use Rattle.core_laws.proofs.operators.Unions.{nonempties-more, union_of_union}
use Rattle.core_operators.specs.Union.{Union, union_value, all_empty, share_seed, update_all_refusal, IsHashUpdateAllError}
use Rattle.keys_sketches.specs.Batches.{HasRead, IsReadyFor}
use Rattle.keys_sketches.specs.Refusals.{IsImageRefusal, IsMergeError}
use Rattle.keys_sketches.specs.Shards.{AreRead, AreReadBy, ReadsUnder, values_of_sketches}
use Rattle.keys_sketches.specs.Unions.{HasUnited, IsReady}
use Rattle.keys_sketches.proofs.Refused.{memory_of}
use Rattle.keys_sketches.proofs.Unions.{are_read-more, made_same}

-- one more element, where others are mapped to the same
pub mapped_more : {V W T : Type 0} (f : V → T) (g : W → T) (new vs : List V) (v : V) (ws : List W) (i : ℕ) (d : W) → new ≡ vs ++ v ∷ [] → i < length ws → map f vs ≡ map g (take i ws) → f v ≡ g (get_or ws i d) →
    map f new ≡ map g (take (i + 1) ws)
mapped_more f g new vs v ws i d made lt so_far is =
    ap (map f) made ∙ map-append f vs (v ∷ []) ∙ ap (λ ys. ys ++ f v ∷ []) so_far ∙ ap (λ y. map g (take i ws) ++ y ∷ []) is ∙ sym (map_more g ws i d lt)

-- ---- the value of a union after many values more

module _ {Y : Type 0} (key : Y → ℕ) (merges : Y → Y → Y) (keeps : KeepsKey key merges) (k start : ℕ) (values : List (Sketch Y)) where
  abbrev IsUnited : List (Sketch Y) → Type 0
  IsUnited more = unite key merges k start (unite key merges k start values ∷ more) ≡ unite key merges k start (values ++ more)

  none_more : IsUnited []
  none_more =
      ap (unite_nonempty key merges k start) (sym (nonempties-more (unite key merges k start values ∷ [])))
      ∙ sym (union_of_union key merges keeps k start values Empty)
      ∙ ap (unite_nonempty key merges k start) (nonempties-more values)
      ∙ ap (unite key merges k start) (sym (append-nil values))

  one_more : (more : List (Sketch Y)) (v : Sketch Y) → IsUnited more → IsUnited (more ++ v ∷ [])
  one_more more v so_far =
      union_of_union key merges keeps k start (unite key merges k start values ∷ more) v
      ∙ ap (λ u. unite key merges k start (u ∷ v ∷ [])) so_far
      ∙ sym (union_of_union key merges keeps k start (values ++ more) v)
      ∙ ap (unite key merges k start) (append_assoc values more (v ∷ []))

  rest_more : (more rest : List (Sketch Y)) → IsUnited more → IsUnited (more ++ rest)
  rest_more more [] so_far = subst IsUnited (sym (append-nil more)) so_far
  rest_more more (v ∷ rest) so_far = subst IsUnited (append_assoc more (v ∷ []) rest) (rest_more (more ++ v ∷ []) rest (one_more more v so_far))

  pub many_more : (more : List (Sketch Y)) → IsUnited more
  many_more more = rest_more [] more none_more

-- more images
pub are_read-append : {S : Type 0} (Reads : List ℕ → S → Type 0) (first others : List (List ℕ)) (read waiting : List S) → AreReadBy Reads first read → AreReadBy Reads others waiting → AreReadBy Reads (first ++ others) (read ++ waiting)
are_read-append Reads [] others [] waiting all more = more
are_read-append Reads [] others (s ∷ read) waiting all more = absurd all
are_read-append Reads (b ∷ first) others [] waiting all more = absurd all
are_read-append Reads (b ∷ first) others (s ∷ read) waiting all more = (all.0, are_read-append Reads first others read waiting all.1 more)

-- the value of a union after many values more, where the values of unions are those of hashes, or of folds
pub all_joined : {X Y P : Type 0} (key : Y → ℕ) (merges : Y → Y → Y) (keeps : KeepsKey key merges) (value_of : Union X P → Sketch Y) (lg_k start : ℕ) (old new : Union X P) (values more : List (Sketch Y)) → old.lg_k ≡ lg_k → old.start ≡ start →
    value_of old ≡ unite key merges (2 ^ lg_k) start values → value_of new ≡ unite key merges (2 ^ old.lg_k) old.start (value_of old ∷ more) → value_of new ≡ unite key merges (2 ^ lg_k) start (values ++ more)
all_joined {Y = Y} key merges keeps value_of lg_k start old new values more lg from so_far joins =
    let by : ℕ → ℕ → Sketch Y = λ l t. unite key merges (2 ^ l) t (value_of old ∷ more) in
    joins
    ∙ ap (λ l. by l old.start) lg
    ∙ ap (λ t. by lg_k t) from
    ∙ ap (λ v. unite key merges (2 ^ lg_k) start (v ∷ more)) so_far
    ∙ many_more key merges keeps (2 ^ lg_k) start values more

-- many images more
pub images_more : {P : Type 0} (seed lg_k : ℕ) (first others : List (List ℕ)) (waiting : List (Compact ℕ)) (old new : Union ℕ P) → HasUnited seed lg_k first old → AreRead seed others waiting →
    union_value hash_key new ≡ unite hash_key first_hash (2 ^ old.lg_k) old.start (union_value hash_key old ∷ values_of_sketches waiting) → new ≡ record old { empty = new.empty; content = new.content } → HasUnited seed lg_k (first ++ others) new
images_more seed lg_k first others waiting old new has reads joins made = record {
  sketches = has.sketches ++ waiting;
  are_read = are_read-append (ReadsUnder seed) first others has.sketches waiting has.are_read reads;
  value =
      all_joined hash_key first_hash (λ x y same. same) (union_value hash_key) lg_k MAX_THETA old new (values_of_sketches has.sketches) (values_of_sketches waiting) (ap (λ u. u.lg_k) has.made) (ap (λ u. u.start) has.made) has.value joins
      ∙ ap (unite hash_key first_hash (2 ^ lg_k) MAX_THETA) (sym (map-append (λ s. compact_value hash_key s) has.sketches waiting));
  made = made_same seed lg_k old new has.made made;
}

-- the union stays ready
pub ready_after : {X P : Type 0} (seed : ℕ) (old new : Union X P) → IsReady seed old → new ≡ record old { empty = new.empty; content = new.content } → IsReady seed new
ready_after seed old new ready made = record {
  sound = ap (λ u. u.failed) made ∙ ready.sound;
  seeded = ap (λ u. u.seed_hash) made ∙ ready.seeded;
}

-- ---- what waits

module _ {U S : Type 0} (HasUnited : List (List ℕ) → U → Type 0) (Reads : List ℕ → S → Type 0) where
  -- one sketch more waits
  pub waits_more : (images : List (List ℕ)) (image : List ℕ) (u : U) (waiting : List S) (s : S) → HasRead HasUnited Reads images u waiting → Reads image s → HasRead HasUnited Reads (images ++ image ∷ []) u (waiting ++ s ∷ [])
  waits_more images image u waiting s has reads = record {
    first = has.first;
    others = has.others ++ image ∷ [];
    parted = ap (λ is. is ++ image ∷ []) has.parted ∙ append_assoc has.first has.others (image ∷ []);
    united = has.united;
    are_read = are_read-more Reads has.others waiting image s has.are_read reads;
  }

  -- nothing waits
  pub none_waits : (images : List (List ℕ)) (u : U) (waiting : List S) → HasUnited images u → waiting ≡ [] → HasRead HasUnited Reads images u waiting
  none_waits images u waiting has none =
      subst (HasRead HasUnited Reads images u) (sym none) (record { first = images; others = []; parted = sym (append-nil images); united = has; are_read = tt })

module _ {U S : Type 0} (IsReady : U → Type 0) (Reads : List ℕ → S → Type 0) where
  pub ready_more : (image : List ℕ) (u : U) (waiting : List S) (s : S) → IsReadyFor IsReady Reads u waiting → Reads image s → IsReadyFor IsReady Reads u (waiting ++ s ∷ [])
  ready_more image u waiting s ready reads = record { ready = ready.ready; others = ready.others ++ image ∷ []; are_read = are_read-more Reads ready.others waiting image s ready.are_read reads }

  pub ready_none : (u : U) (waiting : List S) → IsReady u → waiting ≡ [] → IsReadyFor IsReady Reads u waiting
  ready_none u waiting ready none = subst (IsReadyFor IsReady Reads u) (sym none) (record { ready = ready; others = []; are_read = tt })

-- an error of a merge is one of adding an image
pub merge_refused : (refusal : Option ErrorKind) (Fault : Type 0) (kind : ErrorKind) → IsMergeError refusal kind → IsImageRefusal refusal Fault kind
merge_refused refusal Fault kind (inl memory) = inl memory
merge_refused None Fault kind (inr is) = absurd (cc)
merge_refused (Some other) Fault kind (inr is) = let same : kind ≡ other = cc in inr (inl same)

-- if no merge is refused, memory ran out
pub merge_memory : (kind : ErrorKind) → IsMergeError None kind → kind ≡ OutOfMemory
merge_memory kind (inl memory) = memory
merge_memory kind (inr is) = absurd (cc)

-- an error of a reading is one of adding an image
pub read_refused : (refusal : Option ErrorKind) (Fault : Type 0) (kind : ErrorKind) → IsImageRefusal None Fault kind → IsImageRefusal refusal Fault kind
read_refused refusal Fault kind (inl memory) = inl memory
read_refused None Fault kind (inr fault) = inr fault
read_refused (Some other) Fault kind (inr fault) = inr (inr fault)

-- ---- what a ready union refuses

-- an input is empty, or has the seed
abbrev has_seed : ℕ → Shown → Bool
has_seed h s = s.empty || h == s.seed_hash

all-map : {V : Type 0} (shows : V → Shown) (h : ℕ) (vs : List V) → share_seed shows h vs ≡ list_all (has_seed h) (map shows vs)
all-map shows h [] = refl
all-map shows h (v ∷ vs) = rw (all-map shows h vs) refl

or_true : (b : Bool) → (b || true) ≡ true
or_true true = refl
or_true false = refl

-- sketches have a seed hash, if each that is read has it
pub read_seeded : {X : Type 0} (Reads : List ℕ → Compact X → Type 0) (h : ℕ) → ((image : List ℕ) (s : Compact X) → Reads image s → s.seed_hash ≡ h) → (images : List (List ℕ)) (sketches : List (Compact X)) → AreReadBy Reads images sketches →
    AllByRecursion (λ s. s.seed_hash ≡ h) sketches
read_seeded Reads h one [] [] all = tt
read_seeded Reads h one [] (s ∷ sketches) all = absurd all
read_seeded Reads h one (b ∷ images) [] all = absurd all
read_seeded Reads h one (b ∷ images) (s ∷ sketches) all = (one b s all.0, read_seeded Reads h one images sketches all.1)

module _ {X : Type 0} (key : X → ℕ) where
  seed_is : (h : ℕ) (s : Compact X) → s.seed_hash ≡ h → has_seed h (shown_of key s) ≡ true
  seed_is h s is = let same : eqb h s.seed_hash ≡ true = grind (arith, nat_tests) in rw same (or_true s.empty)

  all_seeded : (h : ℕ) (sketches : List (Compact X)) → AllByRecursion (λ s. s.seed_hash ≡ h) sketches → list_all (has_seed h) (map (shown_of key) sketches) ≡ true
  all_seeded h [] all = refl
  all_seeded h (s ∷ sketches) all = rw (seed_is h s all.0) (all_seeded h sketches all.1)

  -- a ready union accepts sketches of its seed
  pub all_accepted : {V P : Type 0} (shows : V → Shown) (seed : ℕ) (u : Union X P) (views : List V) (sketches : List (Compact X)) → map shows views ≡ map (shown_of key) sketches → IsReady seed u → AllByRecursion (λ s. s.seed_hash ≡ seed_hash seed) sketches →
      update_all_refusal u shows views ≡ None
  all_accepted shows seed u views sketches are ready seeded =
      let share : share_seed shows u.seed_hash views ≡ true =
      all-map shows u.seed_hash views ∙ ap (list_all (has_seed u.seed_hash)) are ∙ ap (λ h. list_all (has_seed h) (map (shown_of key) sketches)) ready.seeded ∙ all_seeded (seed_hash seed) sketches seeded in
      rw (ready.sound, share) refl

pub all_memory : {V P : Type 0} (shows : V → Shown) (old new : Union ℕ P) (views : List V) (e : ErrorKind) → update_all_refusal old shows views ≡ None → IsHashUpdateAllError old new shows views e → e ≡ OutOfMemory
all_memory shows old new views e none refused =
    memory_of (all_empty shows views ≡ false) (new ≡ record old { failed = true; content = new.content }) (new ≡ old) (update_all_refusal old shows views) e none refused
