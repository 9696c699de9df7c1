-- When operators on sketches of lines refuse.
use Rattle.std.proofs.Common.{◌≡◌, ℕ, ◌<◌, ◌≤◌, ◌+◌, Bool, true, false, cond, List, [], ◌∷◌, ◌++◌, length, get_or, drop, Option, Some, None, Result, Err, refl, ap, sym, subst, ◌∙◌, arith, inl, inr, add-one, drop-cons}
use Rattle.std.proofs.lemmas.List.{drop_all}
use Rattle.std.proofs.lemmas.Bool.Decides.{nat_tests}
use Rattle.std.specs.Prelude.{◌⊎◌, ◌==◌, ◌||◌, not, IsTrue, IfSome, MatchOption}
use Rattle.sketch_base.specs.Seed.{seed_hash}
use Rattle.sketch_base.specs.declared.error.ErrorKind.{ErrorKind}
use Rattle.sketch_base.specs.declared.error.ErrorKind.TheVariants.{OutOfMemory, InvalidArgument, Failed}
use Rattle.core_compact.specs.CompactState.{Compact, compact_value, shown_of}
use Rattle.core_images.specs.Entry.{SpellsHash}
use Rattle.core_images.specs.declared.preamble.Preamble.{Preamble}
use Rattle.core_images.specs.Read.{IsRefused, ReadsFlagged, empty_image, single_image, exact_image, estimating_image}
use Rattle.core_laws.specs.Entries.{hash_key, first_hash}
use Rattle.core_laws.specs.Operators.{meet_next}
use Rattle.core_laws.specs.Refusal.{Refuses}
use Rattle.core_laws.specs.Shown.{Shown}
use Rattle.core_laws.specs.Values.{Sketch}
use Rattle.core_operators.specs.Intersection.{Intersection, is_settled, intersect_refusal, seed_refusal}
use Rattle.core_operators.specs.Union.{Union, update_refusal}
use Rattle.theta_sketches.specs.Image.{Reads, IsReadable, ReadsUnflagged, vacant_image, filled_image, version_3, version_2_empty, version_2_exact, version_2_estimating, version_1}
use Rattle.keys_sketches.specs.Meeting.{one_refusal, first_refusal, meet_refusal}
use Rattle.core_laws.specs.declared.TheConstants.{MAX_THETA, MIN_LG_K}
use Rattle.core_laws.specs.Settings.{settings_refusal}
use Rattle.keys_lines.specs.Lines.{lines_of}
use Rattle.keys_lines.specs.declared.key.Hashing.{Hashing}
use Rattle.keys_sketches.specs.Keys.{value_of_lines, sketch_of_value, image_of_text}
use Rattle.keys_sketches.specs.Refusals.{HasFault, IsImageRefusal, IsImageFailure}
use Rattle.keys_sketches.specs.Shards.{AreRead, sketches_of_texts, images_of_texts}
use Rattle.keys_sketches.proofs.Compacts.{images_read}
use Rattle.keys_sketches.proofs.Rereads.{ReadsAgain}
use Rattle.keys_sketches.proofs.Unions.{size_small, seeded}
use Rattle.keys_sketches.specs.declared.sketching.ReadError.{ReadError}
use Rattle.keys_sketches.specs.declared.sketching.ReadError.TheVariants as read_error
use Rattle.keys_sketches.specs.Sources.{GivesNext, Continues, IsFirst}
use Rattle.keys_sketches.specs.Unions.{IsReady}

-- ---- refusals in general

-- if nothing is refused, only memory can be
pub only_memory : (refusal : Option ErrorKind) (takes_memory : Bool) (e : ErrorKind) → refusal ≡ None → (refusal ≡ Some e) ⊎ ((e ≡ OutOfMemory) × IsTrue takes_memory) → (e ≡ OutOfMemory) × IsTrue takes_memory
only_memory refusal takes_memory e none (inl is) = let both : None ≡ Some e = sym none ∙ is in absurd (cc)
only_memory refusal takes_memory e none (inr memory) = memory

-- a call that takes no memory returns its refusal
pub only_kind : (refusal : Option ErrorKind) (e : ErrorKind) → (refusal ≡ Some e) ⊎ ((e ≡ OutOfMemory) × IsTrue false) → refusal ≡ Some e
only_kind refusal e (inl is) = is
only_kind refusal e (inr memory) = let wrong : false ≡ true = memory.1 in absurd (cc)

pub refuses_memory : {T : Type 0} (r : Result T ErrorKind) (refusal : Option ErrorKind) (e : ErrorKind) → r ≡ Err e → e ≡ OutOfMemory → Refuses r refusal true
refuses_memory r refusal e is memory = subst (λ s. Refuses s refusal true) (sym is) (inr (memory, refl))

pub refuses_kind : {T : Type 0} (r : Result T ErrorKind) (refusal : Option ErrorKind) (e : ErrorKind) → r ≡ Err e → refusal ≡ Some e → Refuses r refusal true
refuses_kind r refusal e is kind = subst (λ s. Refuses s refusal true) (sym is) (inl kind)

pub refuses_same : {T : Type 0} (r : Result T ErrorKind) (a b : Option ErrorKind) → a ≡ b → Refuses r b true → Refuses r a true
refuses_same r a b same refuses = subst (λ o. Refuses r o true) (sym same) refuses

-- the first of two refusals
pub first_none : (a b : Option ErrorKind) → a ≡ None → first_refusal a b ≡ b
first_none a b none = ap (λ o. first_refusal o b) none

pub first_some : (a b : Option ErrorKind) (kind : ErrorKind) → a ≡ Some kind → first_refusal a b ≡ Some kind
first_some a b kind is = ap (λ o. first_refusal o b) is

-- the least size is accepted with each seed that is
accepted_by : (t : Bool) → cond t (Some InvalidArgument) None ≡ None → cond (not t) None (Some InvalidArgument) ≡ None
accepted_by true accepted = accepted
accepted_by false accepted = refl

pub least_size : (seed : ℕ) → seed_refusal seed ≡ None → settings_refusal MIN_LG_K MAX_THETA seed ≡ None
least_size seed accepted = accepted_by (seed_hash seed == 0) accepted

-- ---- a sketch that is read has the reader's seed

pub flagged_seed : {X : Type 0} (key : X → ℕ) (bytes : List ℕ) (longs h : ℕ) (s : Compact X) (Spells : List ℕ → X → Type 0) → ReadsFlagged key Spells bytes longs h s → s.seed_hash ≡ h
flagged_seed key bytes longs h s Spells reads = elim reads as (λ s reads. s.seed_hash ≡ h) [
  | empty_image e ↦ refl
  | single_image xs e reported n has ↦ refl
  | exact_image xs e reported n has ↦ refl
  | estimating_image xs e reported n has ↦ refl
]

unflagged_seed : (bytes : List ℕ) (p : Preamble) (reported h : ℕ) (s : Compact ℕ) → ReadsUnflagged bytes p reported h s → s.seed_hash ≡ h
unflagged_seed bytes p reported h s reads = elim reads as (λ s reads. s.seed_hash ≡ h) [
  | vacant_image small vacant ↦ refl
  | filled_image xs filled same has ↦ refl
]

-- a sketch that is read has the reader's seed hash
pub read_seed : (bytes : List ℕ) (h : ℕ) (s : Compact ℕ) → Reads bytes h s → s.seed_hash ≡ h
read_seed bytes h s reads = elim reads.spelled as (λ s spelled. s.seed_hash ≡ h) [
  | version_3 longs s begins flagged ↦ flagged_seed hash_key bytes longs h s SpellsHash flagged
  | version_2_empty begins ↦ refl
  | version_2_exact s begins unflagged ↦ unflagged_seed bytes _ _ h s unflagged
  | version_2_estimating s begins unflagged ↦ unflagged_seed bytes _ _ h s unflagged
  | version_1 longs s begins unflagged ↦ unflagged_seed bytes _ _ h s unflagged
]

-- ---- intersections

one_of : {P : Type 0} (seed : ℕ) (i : Intersection ℕ P) (s : Compact ℕ) (shows : Shown) → i.seed_hash ≡ seed_hash seed → shows ≡ shown_of hash_key s → intersect_refusal i shows ≡ one_refusal seed i.result s
one_of seed i s shows same is = ap (intersect_refusal i) is ∙ ap (λ h. cond (is_settled i.result || s.empty) None (cond (h == s.seed_hash) None (Some InvalidArgument))) same

-- the refusal of the sketch at a place
pub one_at : {P : Type 0} (seed : ℕ) (now : Intersection ℕ P) (sketches : List (Compact ℕ)) (i : ℕ) (s : Compact ℕ) (shows : Shown) → now.seed_hash ≡ seed_hash seed → s ≡ get_or sketches i s → shows ≡ shown_of hash_key s →
    one_refusal seed now.result (get_or sketches i s) ≡ intersect_refusal now shows
one_at seed now sketches i s shows same there is = ap (one_refusal seed now.result) (sym there) ∙ sym (one_of seed now s shows same is)

split_at : (sketches : List (Compact ℕ)) (i : ℕ) (d : Compact ℕ) → i < length sketches → drop i sketches ≡ get_or sketches i d ∷ drop (i + 1) sketches
split_at sketches i d lt = rw add-one (drop-cons sketches i d lt)

-- one more sketch
pub met_further : (seed : ℕ) (old now next : Option (Sketch ℕ)) (sketches : List (Compact ℕ)) (i : ℕ) (d : Compact ℕ) → i < length sketches → meet_refusal seed old sketches ≡ meet_refusal seed now (drop i sketches) → one_refusal seed now (get_or sketches i d) ≡ None →
    next ≡ Some (meet_next hash_key first_hash now (compact_value hash_key (get_or sketches i d))) → meet_refusal seed old sketches ≡ meet_refusal seed next (drop (i + 1) sketches)
met_further seed old now next sketches i d lt so_far accepted is =
    so_far ∙ ap (meet_refusal seed now) (split_at sketches i d lt) ∙ ap (λ o. first_refusal o (meet_refusal seed (Some (meet_next hash_key first_hash now (compact_value hash_key (get_or sketches i d)))) (drop (i + 1) sketches))) accepted
    ∙ ap (λ o. meet_refusal seed o (drop (i + 1) sketches)) (sym is)

-- a sketch that is refused
pub met_refused : (seed : ℕ) (old now : Option (Sketch ℕ)) (sketches : List (Compact ℕ)) (i : ℕ) (d : Compact ℕ) (kind : ErrorKind) → i < length sketches → meet_refusal seed old sketches ≡ meet_refusal seed now (drop i sketches) → one_refusal seed now (get_or sketches i d) ≡ Some kind → meet_refusal seed old sketches ≡ Some kind
met_refused seed old now sketches i d kind lt so_far refused =
    so_far ∙ ap (meet_refusal seed now) (split_at sketches i d lt) ∙ ap (λ o. first_refusal o (meet_refusal seed (Some (meet_next hash_key first_hash now (compact_value hash_key (get_or sketches i d)))) (drop (i + 1) sketches))) refused

pub met_all : (seed : ℕ) (old now : Option (Sketch ℕ)) (sketches : List (Compact ℕ)) (i : ℕ) → length sketches ≤ i → meet_refusal seed old sketches ≡ meet_refusal seed now (drop i sketches) → meet_refusal seed old sketches ≡ None
met_all seed old now sketches i le so_far = so_far ∙ ap (meet_refusal seed now) (drop_all i sketches le)

memory_or_kind : (A B : Type 0) (o : Option ErrorKind) (e : ErrorKind) → MatchOption o (A × B × (e ≡ OutOfMemory)) (λ kind. e ≡ kind) → (o ≡ Some e) ⊎ (e ≡ OutOfMemory)
memory_or_kind A B None e refused = inr refused.2
memory_or_kind A B (Some kind) e refused = inl (ap (λ (k : ErrorKind). Some k) (sym refused))

pub update_kind : {P : Type 0} (i : Intersection ℕ P) (shows : Shown) (e : ErrorKind) → MatchOption (intersect_refusal i shows) ((shows.empty ≡ false) × (is_settled i.result ≡ false) × (e ≡ OutOfMemory)) (λ kind. e ≡ kind) →
    (intersect_refusal i shows ≡ Some e) ⊎ (e ≡ OutOfMemory)
update_kind i shows e refused = memory_or_kind (shows.empty ≡ false) (is_settled i.result ≡ false) (intersect_refusal i shows) e refused

-- ---- unions

accepts_of : (failed empty : Bool) (x y : ℕ) → failed ≡ false → x ≡ y → cond failed (Some Failed) (cond empty None (cond (x == y) None (Some InvalidArgument))) ≡ None
accepts_of failed true x y sound same = rw sound refl
accepts_of failed false x y sound same = grind (arith, nat_tests)

pub memory_of : (A B C : Type 0) (o : Option ErrorKind) (e : ErrorKind) → o ≡ None → MatchOption o (A × (e ≡ OutOfMemory) × B) (λ kind. (e ≡ kind) × C) → e ≡ OutOfMemory
memory_of A B C None e none refused = refused.1
memory_of A B C (Some kind) e none refused = absurd (cc)

pub union_memory : {P : Type 0} (old new : Union ℕ P) (shows : Shown) (e : ErrorKind) → update_refusal old shows ≡ None →
    MatchOption (update_refusal old shows) ((shows.empty ≡ false) × (e ≡ OutOfMemory) × (new ≡ record old { failed = true; content = new.content })) (λ kind. (e ≡ kind) × (new ≡ old)) → e ≡ OutOfMemory
union_memory old new shows e none refused = memory_of (shows.empty ≡ false) (new ≡ record old { failed = true; content = new.content }) (new ≡ old) (update_refusal old shows) e none refused

-- a union that has not failed accepts a sketch of its seed
pub ready_accepts : {X P : Type 0} (key : X → ℕ) (seed : ℕ) (u : Union X P) (s : Compact X) (shows : Shown) → IsReady seed u → s.seed_hash ≡ seed_hash seed → shows ≡ shown_of key s → update_refusal u shows ≡ None
ready_accepts key seed u s shows ready same is = ap (update_refusal u) is ∙ accepts_of u.failed s.empty u.seed_hash s.seed_hash ready.sound (ready.seeded ∙ sym same)

-- ---- images one after another

-- some text after those that were read has a fault
pub faulty_next : {S : Type 0} (IsFaulty : List ℕ → Type 0) (remaining : S → Option (List ℕ)) (old now new : Option (List (List ℕ))) (o : Option S) (source : S) → Continues old now (λ taken. Unit {0}) → GivesNext remaining now new o → o ≡ Some source → IfSome (remaining source) IsFaulty → IfSome old (HasFault IsFaulty)
faulty_next IsFaulty remaining None now new o source so_far gives is faulty = tt
faulty_next IsFaulty remaining (Some texts) None new o source so_far gives is faulty = absurd so_far
faulty_next IsFaulty remaining (Some texts) (Some left) new o source so_far gives is faulty =
    let first : IsFirst remaining left source new = subst (GivesNext remaining (Some left) new) is gives in record {
      front = so_far.0;
      faulty = first.text;
      back = first.texts_left;
      parted = so_far.1 ∙ ap (λ ts. so_far.0 ++ ts) first.parted;
      is_faulty = subst (λ (t : Option (List ℕ)). IfSome t IsFaulty) first.has faulty;
    }

-- a refusal for a fault is one for each fault that follows from it
fault_refused : (refusal : Option ErrorKind) (F G : Type 0) (kind : ErrorKind) → (F → G) → IsImageRefusal refusal F kind → IsImageRefusal refusal G kind
fault_refused refusal F G kind step (inl memory) = inl memory
fault_refused None F G kind step (inr none) = inr (none.0, step none.1)
fault_refused (Some other) F G kind step (inr (inl merge)) = inr (inl merge)
fault_refused (Some other) F G kind step (inr (inr none)) = inr (inr (none.0, step none.1))

pub fault_failed : (refusal : Option ErrorKind) (F G : Type 0) (u : ReadError) → (F → G) → IsImageFailure refusal F u → IsImageFailure refusal G u
fault_failed refusal F G (read_error.Refused kind) step refused = fault_refused refusal F G kind step refused
fault_failed refusal F G (read_error.Failed error) step refused = tt

-- ---- images of texts

-- the image of a text is read, so only memory is refused
pub text_refused : (again : ReadsAgain) (hashing : Hashing) (lg_k : ℕ) (text image : List ℕ) (e : ErrorKind) → settings_refusal lg_k MAX_THETA hashing.seed ≡ None → image ≡ image_of_text hashing lg_k text →
    IsRefused e (IsReadable image (seed_hash hashing.seed)) → e ≡ OutOfMemory
text_refused again hashing lg_k text image e none is (inl memory) = memory
text_refused again hashing lg_k text image e none is (inr invalid) =
    let read : AreRead hashing.seed (images_of_texts hashing lg_k (text ∷ [])) (sketches_of_texts hashing lg_k (text ∷ [])) = images_read hashing again (seeded hashing.seed lg_k none) lg_k (size_small hashing.seed lg_k none) (text ∷ []) in
    absurd (invalid.1 (subst (λ (bytes : List ℕ). IsReadable bytes (seed_hash hashing.seed)) (sym is) (sketch_of_value hashing.seed (value_of_lines hashing lg_k (lines_of text)), read.0)))
