-- What an object was given, in folds: sketches are given values, and operators what their sketches were given.
use Rattle.std.specs.Prelude.{ℕ, ◌&&◌, ◌||◌, Bool, true, false, Option, List, [], ◌∷◌, map}
use Rattle.core_laws.specs.Folds.{Fold, fold_key, fold_merges, folded_of}
use Rattle.core_laws.specs.Leaf.{whole, whole_step}
use Rattle.core_laws.specs.Operators.{joined, common, lacking}
use Rattle.core_laws.specs.declared.leaf.LeafStep.TheVariants.{Add}
use Rattle.core_policies.specs.Summaries.{update_step, combined, combine_refused}
use Rattle.core_slots.specs.Entry.{tuple_key}
use Rattle.core_slots.specs.declared.entry.TupleEntry.{TupleEntry}

-- what an object was given: the whole map of it, which has the fold of each key, and whether it was given anything. A
-- value whose hash is 0, or the greatest theta or more, is in no whole map
pub record Given (S : Type 0) : Type 0 where
  pub whole : List (Fold (TupleEntry S))
  pub any : Bool

-- nothing, as after `build` and after `reset`
abbrev pub nothing : {S : Type 0} → Given S
nothing = record { whole = []; any = false }

-- and one value more at a hash: a policy creates the summary of a new hash, then updates the summary there with the
-- value, or refuses, which leaves a mark
abbrev pub with_value : {S U : Type 0} → (creates : Option S) → (updates : S → U → Option S) → (hash : ℕ) → (value : U) → Given S → Given S
with_value creates updates hash value given =
    record { whole = whole_step (fold_key tuple_key) (folded_of tuple_key (update_step creates updates)) (Add hash value) given.whole; any = true }

-- whether a list has an element
abbrev pub has_any : {X : Type 0} → List X → Bool
has_any [] = false
has_any (x ∷ xs) = true

-- a stream of values, each with its hash, under a policy that creates summaries and updates them
unfoldable pub given_values : {S U : Type 0} → (creates : Option S) → (updates : S → U → Option S) → (stream : List (ℕ × U)) → Given S
given_values creates updates stream =
    record {
      whole = whole (fold_key tuple_key) (folded_of tuple_key (update_step creates updates)) (map (λ p. Add p.0 p.1) stream);
      any = has_any stream;
    }

-- the hashes of a stream
abbrev pub hashes_of : {U : Type 0} → (stream : List (ℕ × U)) → List ℕ
hashes_of stream = map (λ p. p.0) stream

-- a fold combined with another of its key, by a policy that combines summaries
abbrev pub combined_folds : {S : Type 0} → (combines : S → S → Option S) → Fold (TupleEntry S) → Fold (TupleEntry S) → Fold (TupleEntry S)
combined_folds combines = fold_merges tuple_key (combined combines) (combine_refused combines)

-- what one was given and then what another was given; a policy combines the summaries of a key, or leaves a mark
abbrev pub united : {S : Type 0} → (combines : S → S → Option S) → Given S → Given S → Given S
united combines given more =
    record { whole = joined (fold_key tuple_key) (combined_folds combines) given.whole more.whole; any = given.any || more.any }

-- and what many others were given, in turn
abbrev pub united_all : {S : Type 0} → (combines : S → S → Option S) → Given S → List (Given S) → Given S
united_all combines given [] = given
united_all combines given (more ∷ others) = united_all combines (united combines given more) others

-- the folds of the keys that both were given; a policy combines their summaries, or refuses, which leaves a mark. No
-- clause observes `any` of this
abbrev pub shared : {S : Type 0} → (combines : S → S → Option S) → Given S → Given S → Given S
shared combines given more =
    record { whole = common (fold_key tuple_key) (combined_folds combines) given.whole more.whole; any = given.any && more.any }

-- the folds of the keys that each of some others was given too
abbrev pub shared_by_all : {S : Type 0} → (combines : S → S → Option S) → Given S → List (Given S) → Given S
shared_by_all combines given [] = given
shared_by_all combines given (more ∷ others) = shared_by_all combines (shared combines given more) others

-- the folds of the keys that all of these were given
abbrev pub shared_by : {S : Type 0} → (combines : S → S → Option S) → List (Given S) → Given S
shared_by combines [] = nothing
shared_by combines (given ∷ others) = shared_by_all combines given others

-- the folds of the keys that one was given and another wasn't. No clause observes `any` of this
abbrev pub without : {S T : Type 0} → Given S → Given T → Given S
without given others = record { whole = lacking (fold_key tuple_key) (fold_key tuple_key) given.whole others.whole; any = given.any }
