-- Two sketches combined, and when that is refused.
use Rattle.std.proofs.Common.{◌≡◌, ℕ, ◌^◌, Bool, true, false, cond, List, [], ◌∷◌, ◌++◌, Option, Some, None, Result, Ok, Err, refl, ap, sym, subst, ◌∙◌, arith, inl, inr}
use Rattle.std.specs.Prelude.{◌⊎◌, ◌==◌, ◌||◌, IsTrue, IfOk, IfErr, MatchOption}
use Rattle.std.proofs.lemmas.Bool.Decides.{nat_tests}
use Rattle.sketch_base.specs.Seed.{seed_hash}
use Rattle.sketch_base.specs.declared.error.ErrorKind.{ErrorKind}
use Rattle.sketch_base.specs.declared.error.ErrorKind.TheVariants.{OutOfMemory, InvalidArgument, Failed, Policy}
use Rattle.core_compact.specs.CompactState.{Compact, shown_of, IsAnswer, compact_value}
use Rattle.core_laws.specs.Maps.{map_of}
use Rattle.core_laws.specs.Entries.{KeepsKey, hash_key}
use Rattle.core_laws.specs.Operators.{unite, unite_nonempty, meet_next, minus}
use Rattle.core_laws.specs.Refusal.{Refuses}
use Rattle.core_laws.specs.Settings.{settings_refusal}
use Rattle.core_laws.specs.Shown.{Shown, shown_value}
use Rattle.core_laws.specs.Values.{Sketch, Empty, NonEmpty}
use Rattle.core_laws.specs.declared.TheConstants.{MAX_THETA}
use Rattle.core_laws.proofs.operators.Unions.{nonempties-more, union_of_union}
use Rattle.core_operators.specs.Intersection.{Intersection, is_settled, intersect_refusal, seed_refusal, IsAnswerIfAny}
use Rattle.core_operators.specs.Union.{Union, union_value, empty_union, update_refusal}
use Rattle.core_operators.proofs.DifferencesByKeys.{minus_of_keys}
use Rattle.core_streams.proofs.WholeMaps.{meet-one}
use Rattle.expression_evaluation.specs.Running.{is_accepted, IsEvaluationError, IsMergeError}

-- ---- refusals

-- if nothing is refused, only memory can be
pub only_memory : (refusal : Option ErrorKind) (takes_memory : Bool) (e : ErrorKind) → refusal ≡ None → (refusal ≡ Some e) ⊎ ((e ≡ OutOfMemory) × IsTrue takes_memory) → (e ≡ OutOfMemory) × IsTrue takes_memory
only_memory refusal takes_memory e none (inl is) = let both : None ≡ Some e = sym none ∙ is in absurd (cc)
only_memory refusal takes_memory e none (inr memory) = memory

pub refuses_memory : {T : Type 0} (r : Result T ErrorKind) (refusal : Option ErrorKind) (e : ErrorKind) → r ≡ Err e → e ≡ OutOfMemory → Refuses r refusal true
refuses_memory r refusal e is memory = subst (λ s. Refuses s refusal true) (sym is) (inr (memory, refl))

pub refuses_kind : {T : Type 0} (r : Result T ErrorKind) (refusal : Option ErrorKind) (e : ErrorKind) → r ≡ Err e → refusal ≡ Some e → Refuses r refusal true
refuses_kind r refusal e is kind = subst (λ s. Refuses s refusal true) (sym is) (inl kind)

-- errors of an evaluation
pub error_of_memory : {T : Type 0} (r : Result T ErrorKind) (refusal : Option ErrorKind) (may : Type 0) (e : ErrorKind) → r ≡ Err e → e ≡ OutOfMemory → IfErr r (IsEvaluationError refusal may)
error_of_memory r refusal may e is memory = subst (λ s. IfErr s (IsEvaluationError refusal may)) (sym is) (inr (inl memory))

pub error_of_kind : {T : Type 0} (r : Result T ErrorKind) (refusal : Option ErrorKind) (may : Type 0) (e : ErrorKind) → r ≡ Err e → refusal ≡ Some e → IfErr r (IsEvaluationError refusal may)
error_of_kind r refusal may e is kind = subst (λ s. IfErr s (IsEvaluationError refusal may)) (sym is) (inl kind)

pub error_of_merge : {T : Type 0} (r : Result T ErrorKind) (refusal : Option ErrorKind) (may : Type 0) (e : ErrorKind) → r ≡ Err e → e ≡ Policy → may → IfErr r (IsEvaluationError refusal may)
error_of_merge r refusal may e is policy refused = subst (λ s. IfErr s (IsEvaluationError refusal may)) (sym is) (inr (inr (policy, refused)))

-- the error of a merge, if another merge is refused for it
pub merge_error : {P Q : Type 0} (e : ErrorKind) → (P → Q) → IsMergeError P e → IsMergeError Q e
merge_error e other (inl memory) = inl memory
merge_error e other (inr policy) = inr (policy.0, other policy.1)

-- if no merge is refused, an evaluation is refused for its refusal or for memory
pub error_alone : (refusal : Option ErrorKind) (may : Type 0) (e : ErrorKind) → (may → ⊥) → IsEvaluationError refusal may e → (refusal ≡ Some e) ⊎ ((e ≡ OutOfMemory) × IsTrue true)
error_alone refusal may e never (inl kind) = inl kind
error_alone refusal may e never (inr (inl memory)) = inr (memory, refl)
error_alone refusal may e never (inr (inr policy)) = absurd (never policy.1)

-- settings in range have a seed that is accepted
pub seed_accepted : (lg_k seed : ℕ) → settings_refusal lg_k MAX_THETA seed ≡ None → seed_refusal seed ≡ None
seed_accepted lg_k seed none = let h : ℕ = seed_hash seed in grind (arith, nat_tests)

memory_of_update : (A B : Type 0) (o : Option ErrorKind) (e : ErrorKind) → o ≡ None → MatchOption o (A × B × (e ≡ OutOfMemory)) (λ kind. e ≡ kind) → e ≡ OutOfMemory
memory_of_update A B None e none refused = refused.2
memory_of_update A B (Some kind) e none refused = absurd (cc)

accepts_one : (settled empty : Bool) (x y : ℕ) → (empty || x == y) ≡ true → cond (settled || empty) None (cond (x == y) None (Some InvalidArgument)) ≡ None
accepts_one true empty x y accepted = refl
accepts_one false true x y accepted = refl
accepts_one false false x y accepted = rw accepted refl

-- an intersection accepts a sketch that is empty or of its seed
pub intersection_accepts : {X P : Type 0} (key : X → ℕ) (i : Intersection X P) (s : Compact X) (shows : Shown) (h : ℕ) → i.seed_hash ≡ h → shows ≡ shown_of key s → is_accepted h s ≡ true → intersect_refusal i shows ≡ None
intersection_accepts key i s shows h seed is accepted = ap (intersect_refusal i) is ∙ ap (λ k. cond (is_settled i.result || s.empty) None (cond (k == s.seed_hash) None (Some InvalidArgument))) seed ∙ accepts_one (is_settled i.result) s.empty h s.seed_hash accepted

pub intersection_memory : {X P : Type 0} (i : Intersection X P) (shows : Shown) (e : ErrorKind) → intersect_refusal i shows ≡ None → MatchOption (intersect_refusal i shows) ((shows.empty ≡ false) × (is_settled i.result ≡ false) × (e ≡ OutOfMemory)) (λ kind. e ≡ kind) → e ≡ OutOfMemory
intersection_memory i shows e none refused = memory_of_update (shows.empty ≡ false) (is_settled i.result ≡ false) (intersect_refusal i shows) e none refused

union_one : (failed empty : Bool) (x y : ℕ) → failed ≡ false → x ≡ y → cond failed (Some Failed) (cond empty None (cond (x == y) None (Some InvalidArgument))) ≡ None
union_one failed true x y sound same = rw sound refl
union_one failed false x y sound same = grind (arith, nat_tests)

-- a union accepts a sketch of its seed
pub union_accepts : {X P : Type 0} (key : X → ℕ) (u : Union X P) (s : Compact X) (shows : Shown) (h : ℕ) → u.failed ≡ false → u.seed_hash ≡ h → s.seed_hash ≡ h → shows ≡ shown_of key s → update_refusal u shows ≡ None
union_accepts key u s shows h sound seed own is = ap (update_refusal u) is ∙ union_one u.failed s.empty u.seed_hash s.seed_hash sound (seed ∙ sym own)

memory_of_union : (A B C : Type 0) (o : Option ErrorKind) (e : ErrorKind) → o ≡ None → MatchOption o (A × (e ≡ OutOfMemory) × B) (λ kind. (e ≡ kind) × C) → e ≡ OutOfMemory
memory_of_union A B C None e none refused = refused.1
memory_of_union A B C (Some kind) e none refused = absurd (cc)

pub union_memory : {X P : Type 0} (old new : Union X P) (shows : Shown) (e : ErrorKind) → update_refusal old shows ≡ None →
    MatchOption (update_refusal old shows) ((shows.empty ≡ false) × (e ≡ OutOfMemory) × (new ≡ record old { failed = true; content = new.content })) (λ kind. (e ≡ kind) × (new ≡ old)) → e ≡ OutOfMemory
union_memory old new shows e none refused = memory_of_union (shows.empty ≡ false) (new ≡ record old { failed = true; content = new.content }) (new ≡ old) (update_refusal old shows) e none refused

-- ---- values

module _ {X : Type 0} (key : X → ℕ) where
  some_answer : (o : Option (Sketch X)) (v : Sketch X) (h : ℕ) (s : Compact X) → o ≡ Some v → IsAnswerIfAny key o h true (Some s) → IsAnswer key v h true s
  some_answer o v h s is answer = let A : Option (Sketch X) → Type 0 = λ p. IsAnswerIfAny key p h true (Some s) in subst A is answer

  -- the sketch of an intersection's result
  pub result_answer : (o : Option (Sketch X)) (h : ℕ) (r : Option (Compact X)) (s : Compact X) → r ≡ Some s → IsAnswerIfAny key o h true r → (v : Sketch X) → o ≡ Some v → IsAnswer key v h true s
  result_answer o h r s has answer v is =
      let R : Option (Compact X) → Type 0 = λ q. IsAnswerIfAny key o h true q in
      some_answer o v h s is (subst R has answer)

  -- the sketch of a value that is another's
  pub same_answer : (v w : Sketch X) (own h : ℕ) (s : Compact X) → v ≡ w → own ≡ h → IsAnswer key v own true s → IsAnswer key w h true s
  same_answer v w own h s same seed answer = subst (λ (k : ℕ). IsAnswer key w k true s) seed (subst (λ u. IsAnswer key u own true s) same answer)

  pub same_answers : (r : Result (Compact X) ErrorKind) (v w : Sketch X) (own h : ℕ) → v ≡ w → own ≡ h → IfOk r (λ s. IsAnswer key v own true s) → IfOk r (λ s. IsAnswer key w h true s)
  same_answers (Ok s) v w own h same seed answer = same_answer v w own h s same seed answer
  same_answers (Err e) v w own h same seed answer = tt

  -- ---- differences

  -- the difference of a value and the keys of a sketch is that of their values
  pub difference_value : (a : Sketch X) (b : Shown) (first second : Compact X) → a ≡ compact_value key first → b ≡ shown_of key second →
      minus key hash_key a (shown_value hash_key b b.hashes) ≡ minus key key (compact_value key first) (compact_value key second)
  difference_value a b first second is_a is_b =
      ap (λ (s : Shown). minus key hash_key a (shown_value hash_key s s.hashes)) is_b ∙ minus_of_keys key second.empty second.theta a second.entries ∙ ap (λ u. minus key key u (compact_value key second)) is_a

module _ {X : Type 0} (key : X → ℕ) (merges : X → X → X) where
  -- the result of an intersection with one sketch
  pub met_one : (o now : Option (Sketch X)) (v w : Sketch X) → o ≡ None → now ≡ Some (meet_next key merges o v) → v ≡ w → now ≡ Some w
  met_one o now v w none met same = met ∙ ap (λ (p : Option (Sketch X)). Some (meet_next key merges p v)) none ∙ ap (λ (u : Sketch X). Some u) (meet-one key merges v ∙ same)

-- ---- unions

module _ {X : Type 0} (key : X → ℕ) (merges : X → X → X) (keeps : KeepsKey key merges) where
  abbrev by : (lg_k start : ℕ) → List (Sketch X) → Sketch X
  by lg_k start values = unite key merges (2 ^ lg_k) start values

  module _ {P : Type 0} where
    abbrev Joins : (old new : Union X P) → Sketch X → Type 0
    Joins old new Empty = new ≡ old
    Joins old new (NonEmpty v) = union_value key new ≡ unite key merges (2 ^ old.lg_k) old.start (union_value key old ∷ NonEmpty v ∷ [])

    joins_shown : (old new : Union X P) (s : Shown) (listing : List X) → (s.empty ≡ true → new ≡ old) →
        (s.empty ≡ false → union_value key new ≡ unite key merges (2 ^ old.lg_k) old.start (union_value key old ∷ shown_value key s listing ∷ [])) → Joins old new (shown_value key s listing)
    joins_shown old new s listing skipped united =
        (elim s.empty as (λ b. s.empty ≡ b → Joins old new (cond b Empty (NonEmpty (record { entries = map_of key listing; theta = s.theta })))) [
          | true ↦ λ e. skipped e
          | false ↦ λ e. united e ∙ ap (λ b. unite key merges (2 ^ old.lg_k) old.start (union_value key old ∷ cond b Empty (NonEmpty (record { entries = map_of key listing; theta = s.theta })) ∷ [])) e
        ]) refl

    joined_next : (old new : Union X P) (values : List (Sketch X)) (v : Sketch X) → union_value key old ≡ unite key merges (2 ^ old.lg_k) old.start values → Joins old new v →
        union_value key new ≡ unite key merges (2 ^ old.lg_k) old.start (values ++ v ∷ [])
    joined_next old new values Empty so_far join = ap (union_value key) join ∙ so_far ∙ sym (ap (unite_nonempty key merges (2 ^ old.lg_k) old.start) (nonempties-more values))
    joined_next old new values (NonEmpty v) so_far join =
        join ∙ ap (λ u. unite key merges (2 ^ old.lg_k) old.start (u ∷ NonEmpty v ∷ [])) so_far
        ∙ sym (union_of_union key merges keeps (2 ^ old.lg_k) old.start values (NonEmpty v))

    -- the value of a union after one more sketch
    pub one_more : (old new : Union X P) (s : Shown) (listing : List X) (w : Sketch X) → (s.empty ≡ true → new ≡ old) →
        (s.empty ≡ false → union_value key new ≡ unite key merges (2 ^ old.lg_k) old.start (union_value key old ∷ shown_value key s listing ∷ [])) → shown_value key s listing ≡ w →
        (values : List (Sketch X)) → union_value key old ≡ unite key merges (2 ^ old.lg_k) old.start values → union_value key new ≡ unite key merges (2 ^ old.lg_k) old.start (values ++ w ∷ [])
    one_more old new s listing w skipped united is values so_far =
        joined_next old new values (shown_value key s listing) so_far (joins_shown old new s listing skipped united) ∙ ap (λ u. by old.lg_k old.start (values ++ u ∷ [])) is

    -- a new union has united nothing
    pub nothing_united : (lg_k h : ℕ) (u : Union X P) → u ≡ empty_union lg_k MAX_THETA h u.policy → union_value key u ≡ unite key merges (2 ^ u.lg_k) u.start []
    nothing_united lg_k h u made = ap (union_value key) made

    -- the value of a new union after two sketches, and its seed
    module _ (lg_k h : ℕ) (empty one : Union X P) (made : empty ≡ empty_union lg_k MAX_THETA h empty.policy) (made_one : one ≡ record empty { empty = one.empty; content = one.content }) where
      pub one_seed : one.seed_hash ≡ h
      one_seed = ap (λ u. u.seed_hash) made_one ∙ ap (λ u. u.seed_hash) made

      pub one_united : (a : Sketch X) → union_value key one ≡ unite key merges (2 ^ empty.lg_k) empty.start (a ∷ []) → union_value key one ≡ unite key merges (2 ^ one.lg_k) one.start (a ∷ [])
      one_united a first = first ∙ ap (λ l. by l empty.start (a ∷ [])) (sym (ap (λ u. u.lg_k) made_one)) ∙ ap (λ x. by one.lg_k x (a ∷ [])) (sym (ap (λ u. u.start) made_one))

      pub two_united : (two : Union X P) (a b : Sketch X) → union_value key two ≡ unite key merges (2 ^ one.lg_k) one.start (a ∷ b ∷ []) → union_value key two ≡ unite key merges (2 ^ lg_k) MAX_THETA (a ∷ b ∷ [])
      two_united two a b second =
          second ∙ ap (λ l. by l one.start (a ∷ b ∷ [])) (ap (λ u. u.lg_k) made_one ∙ ap (λ u. u.lg_k) made) ∙ ap (λ x. by lg_k x (a ∷ b ∷ [])) (ap (λ u. u.start) made_one ∙ ap (λ u. u.start) made)
