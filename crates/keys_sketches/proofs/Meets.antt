-- Sketches that are intersected one after another.
use Rattle.std.proofs.Common.{◌≡◌, ℕ, ◌+◌, ◌<◌, true, List, [], ◌∷◌, ◌++◌, length, get_or, take, Option, Some, None, refl, sym, ap, subst, ◌∙◌}
use Rattle.std.proofs.lemmas.List.{map_more}
use Rattle.sketch_base.specs.Seed.{seed_hash}
use Rattle.core_laws.specs.Entries.{hash_key, first_hash}
use Rattle.core_laws.specs.Operators.{meet, meet_next}
use Rattle.core_laws.specs.Values.{Sketch, Empty}
use Rattle.core_laws.proofs.operators.Meets.{meet_of_meet}
use Rattle.core_operators.specs.Intersection.{IsAnswerIfAny}
use Rattle.core_compact.specs.CompactState.{Compact, compact_value, ordered_sketch}
use Rattle.keys_sketches.specs.Keys.{sketch_of_value}
use Rattle.keys_sketches.specs.Meeting.{result_or_empty, met_of}
use Rattle.keys_sketches.specs.Shards.{values_of_sketches}
use Rattle.keys_sketches.proofs.Worth.{ordered_answer}

met_more : (vs : List (Sketch ℕ)) (last : Sketch ℕ) → ◌≡◌ {A = Option (Sketch ℕ)} (Some (meet_next hash_key first_hash (met_of vs) last)) (met_of (vs ++ last ∷ []))
met_more [] last = refl
met_more (v ∷ vs) last = ap (λ (u : Sketch ℕ). Some u) (sym (meet_of_meet hash_key first_hash v vs last))

pub met_next : (was now : Option (Sketch ℕ)) (sketches : List (Compact ℕ)) (i : ℕ) (d : Compact ℕ) (v : Sketch ℕ) → i < length sketches → was ≡ met_of (values_of_sketches (take i sketches)) → now ≡ Some (meet_next hash_key first_hash was v) →
    v ≡ compact_value hash_key (get_or sketches i d) → now ≡ met_of (values_of_sketches (take (i + 1) sketches))
met_next was now sketches i d v lt so_far met is =
    met ∙ ap (λ (o : Option (Sketch ℕ)). Some (meet_next hash_key first_hash o v)) so_far ∙ met_more (values_of_sketches (take i sketches)) v
    ∙ ap (λ (u : Sketch ℕ). met_of (values_of_sketches (take i sketches) ++ u ∷ [])) is
    ∙ ap met_of (sym (map_more (λ s. compact_value hash_key s) sketches i d lt))

pub result_or_empty-met : (vs : List (Sketch ℕ)) → result_or_empty (met_of vs) ≡ meet hash_key first_hash vs
result_or_empty-met [] = refl
result_or_empty-met (v ∷ vs) = refl

-- the result of an intersection, if there is one
some_of : (seed : ℕ) (o : Option (Sketch ℕ)) (h : ℕ) (s : Compact ℕ) → h ≡ seed_hash seed → IsAnswerIfAny hash_key o h true (Some s) → s ≡ sketch_of_value seed (result_or_empty o)
some_of seed None h s same is = absurd is
some_of seed (Some v) h s same is = ordered_answer hash_key v h s is ∙ ap (ordered_sketch v) same

pub some_answer : (seed : ℕ) (o : Option (Sketch ℕ)) (h : ℕ) (r : Option (Compact ℕ)) (s : Compact ℕ) → r ≡ Some s → h ≡ seed_hash seed → IsAnswerIfAny hash_key o h true r → s ≡ sketch_of_value seed (result_or_empty o)
some_answer seed o h r s is same answer = some_of seed o h s same (subst (IsAnswerIfAny hash_key o h true) is answer)

none_of : (o : Option (Sketch ℕ)) (h : ℕ) → IsAnswerIfAny hash_key o h true None → Empty ≡ result_or_empty o
none_of None h is = refl
none_of (Some v) h is = absurd is

pub no_answer : (o : Option (Sketch ℕ)) (h : ℕ) (r : Option (Compact ℕ)) → r ≡ None → IsAnswerIfAny hash_key o h true r → Empty ≡ result_or_empty o
no_answer o h r is answer = none_of o h (subst (IsAnswerIfAny hash_key o h true) is answer)

pub same_item : (sketches : List (Compact ℕ)) (i : ℕ) (d : Compact ℕ) → d ≡ get_or sketches i d → compact_value hash_key d ≡ compact_value hash_key (get_or sketches i d)
same_item sketches i d is = ap (λ s. compact_value hash_key s) is
