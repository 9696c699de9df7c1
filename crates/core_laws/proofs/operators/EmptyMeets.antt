-- When a meet is Empty.
use Rattle.std.proofs.Common.{◌≡◌, ℕ, ◌<◌, ◌≤◌, min, Bool, true, false, cond, eqb, ltb, not, IsSome, is_some, List, [], ◌∷◌, ◌++◌, map, length, Option, Some, None, refl, sym, ap, ◌∙◌, arith}
use Rattle.std.specs.Prelude.{◌&&◌}
use Rattle.std.specs.List.{AllByRecursion}
use Rattle.std.proofs.lemmas.List.{append_assoc}
use Rattle.std.proofs.lemmas.Bool.Decides.{nat_tests}
use Rattle.core_laws.specs.declared.TheConstants.{MAX_THETA}
use Rattle.core_laws.specs.Cuts.{Retained, IsRetained}
use Rattle.core_laws.specs.Maps.{entry_at}
use Rattle.core_laws.specs.Operators.{shared, is_disjoint, meet, meet_from, both, HaveKey, BecomesDisjoint}
use Rattle.core_laws.specs.Values.{Sketch, Empty, NonEmpty}
use Rattle.core_laws.proofs.maps.LookUps.{entry_at_head}
use Rattle.core_laws.proofs.operators.Meets.{shared_look, empty_nonempty}
use Rattle.core_laws.specs.Entries.{KeepsKey}

module _ {Y : Type 0} (P : Y → Type 0) where
  all-more : (ys : List Y) (y : Y) → AllByRecursion P ys → P y → AllByRecursion P (ys ++ y ∷ [])
  all-more [] y all one = (one, tt)
  all-more (z ∷ ys) y all one = (all.0, all-more ys y all.1 one)

  all-begin : (ys zs : List Y) → AllByRecursion P (ys ++ zs) → AllByRecursion P ys
  all-begin [] zs all = tt
  all-begin (y ∷ ys) zs all = (all.0, all-begin ys zs all.1)

  all-end : (ys zs : List Y) → AllByRecursion P (ys ++ zs) → AllByRecursion P zs
  all-end [] zs all = all
  all-end (y ∷ ys) zs all = all-end ys zs all.1

  -- an element may be at the end of the one list or at the beginning of the other
  all-over : (ys zs : List Y) (y : Y) → AllByRecursion P (ys ++ y ∷ zs) → AllByRecursion P ((ys ++ y ∷ []) ++ zs)
  all-over ys zs y all = rw (append_assoc ys (y ∷ []) zs) all

  all-back : (ys zs : List Y) (y : Y) → AllByRecursion P ((ys ++ y ∷ []) ++ zs) → AllByRecursion P (ys ++ y ∷ zs)
  all-back ys zs y all = rw (append_assoc ys (y ∷ []) zs) at all

four_true : (a b c d : Bool) → a ≡ true → b ≡ false → c ≡ false → d ≡ true → (a && (not b && (not c && d))) ≡ true
four_true a b c d ea eb ec ed = rw (ea, eb, ec, ed) refl

-- the four facts of a test
record AllFour (a b c d : Bool) : Type 0 where
  first : a ≡ true
  second : b ≡ false
  third : c ≡ false
  fourth : d ≡ true

all_four : (a b c d : Bool) → (a && (not b && (not c && d))) ≡ true → AllFour a b c d
all_four false b c d e = absurd (cc)
all_four true true c d e = absurd (cc)
all_four true false true d e = absurd (cc)
all_four true false false false e = absurd (cc)
all_four true false false true e = record { first = refl; second = refl; third = refl; fourth = refl }

module _ {X : Type 0} (key : X → ℕ) where
  head_key : (x : X) (xs : List X) → IsSome (entry_at key (x ∷ xs) (key x))
  head_key x xs = ap is_some (entry_at_head key x xs (key x) refl)

  some_key : (xs : List X) → eqb (length xs) 0 ≡ false → (q : ℕ) × IsSome (entry_at key xs q)
  some_key [] e = absurd (cc)
  some_key (x ∷ xs) e = (key x, head_key x xs)

  key_some : (xs : List X) (q : ℕ) → IsSome (entry_at key xs q) → eqb (length xs) 0 ≡ false
  key_some [] q found = absurd (cc)
  key_some (x ∷ xs) q found = grind (arith, nat_tests)

  no_key : (xs : List X) → ((q : ℕ) → IsSome (entry_at key xs q) → ⊥) → eqb (length xs) 0 ≡ true
  no_key [] none = refl
  no_key (x ∷ xs) none = absurd (none (key x) (head_key x xs))

  key_below : (t : ℕ) (xs : List X) (q : ℕ) → AllByRecursion (λ x. key x < t) xs → IsSome (entry_at key xs q) → q < t
  key_below t [] q all found = absurd (cc)
  key_below t (x ∷ xs) q all found =
      (elim (eqb (key x) q) as (λ b. eqb (key x) q ≡ b → IsSome (cond b (Some x) (entry_at key xs q)) → q < t) [
        | true ↦ λ e f. let same : key x ≡ q = grind (arith, nat_tests) in rw (← same) all.0
        | false ↦ λ e f. key_below t xs q all.1 f
      ]) refl found

module _ {X : Type 0} (merges : X → X → X) where
  some_both : (o p : Option X) → IsSome (both merges o p) → IsSome o × IsSome p
  some_both None p found = absurd (cc)
  some_both (Some x) None found = absurd (cc)
  some_both (Some x) (Some y) found = (refl, refl)

  both_some : (o p : Option X) → IsSome o → IsSome p → IsSome (both merges o p)
  both_some None p a b = absurd (cc)
  both_some (Some x) None a b = absurd (cc)
  both_some (Some x) (Some y) a b = refl

  some_if : (b : Bool) (o : Option X) → IsSome (cond b o None) → IsSome o
  some_if true o found = found
  some_if false o found = absurd (cc)

module _ {X : Type 0} (key : X → ℕ) (merges : X → X → X) where
  with_empty_from : (front back : List (Sketch X)) (u : Retained X) → meet_from key merges u (front ++ Empty ∷ back) ≡ Empty
  with_empty_from [] back u = refl
  with_empty_from (Empty ∷ front) back u = refl
  with_empty_from (NonEmpty v ∷ front) back u =
      elim (is_disjoint key merges u v) as (λ b. cond b Empty (meet_from key merges (shared key merges u v) (front ++ Empty ∷ back)) ≡ Empty) [
        | true ↦ refl
        | false ↦ with_empty_from front back (shared key merges u v)
      ]

-- a meet is Empty if one of the values is
pub with_empty : {X : Type 0} (key : X → ℕ) (merges : X → X → X) (before after : List (Sketch X)) → meet key merges (before ++ Empty ∷ after) ≡ Empty
with_empty key merges [] after = refl
with_empty key merges (Empty ∷ before) after = refl
with_empty key merges (NonEmpty v ∷ before) after = with_empty_from key merges before after v

-- the facts on the meet so far of the values that are done
record Stands {X : Type 0} (key : X → ℕ) (done : List (Retained X)) (met : Retained X) : Type 0 where
  theta_high : met.theta ≤ MAX_THETA
  keys_low : (q : ℕ) → IsSome (entry_at key met.entries q) → q < MAX_THETA
  uncut : met.theta ≡ MAX_THETA → AllByRecursion (λ v. v.theta ≡ MAX_THETA) done
  uncut_if : AllByRecursion (λ v. v.theta ≡ MAX_THETA) done → met.theta ≡ MAX_THETA
  shows : (q : ℕ) → IsSome (entry_at key met.entries q) → HaveKey key q done
  shows_if : met.theta ≡ MAX_THETA → (q : ℕ) → HaveKey key q done → IsSome (entry_at key met.entries q)

module _ {X : Type 0} (key : X → ℕ) (merges : X → X → X) (keeps : KeepsKey key merges) where
  in_shared : (u v : Retained X) (q : ℕ) → IsSome (entry_at key (shared key merges u v).entries q) → IsSome (entry_at key u.entries q) × IsSome (entry_at key v.entries q)
  in_shared u v q found = some_both merges _ _ (some_if merges (ltb q (min u.theta v.theta)) _ (rw (shared_look key merges keeps u v q) at found))

  shared_if : (u v : Retained X) (q : ℕ) → q < min u.theta v.theta → IsSome (entry_at key u.entries q) → IsSome (entry_at key v.entries q) → IsSome (entry_at key (shared key merges u v).entries q)
  shared_if u v q lt a b =
      let low : ltb q (min u.theta v.theta) ≡ true = grind (arith, nat_tests) in
      rw (shared_look key merges keeps u v q, low) (both_some merges _ _ a b)

  stands-one : (u : Retained X) → IsRetained key u → Stands key (u ∷ []) u
  stands-one u kept = record {
    theta_high = kept.theta_high;
    keys_low = λ q found. (let low = key_below key u.theta u.entries q kept.below_theta found in omega (arith, low, kept.theta_high));
    uncut = λ e. (e, tt);
    uncut_if = λ all. all.0;
    shows = λ q found. (found, tt);
    shows_if = λ e q have. have.0;
  }

  stands-more : (done : List (Retained X)) (met v : Retained X) → Stands key done met → v.theta ≤ MAX_THETA → Stands key (done ++ v ∷ []) (shared key merges met v)
  stands-more done met v s high =
      let one : min met.theta v.theta ≡ MAX_THETA → met.theta ≡ MAX_THETA = λ (e : min met.theta v.theta ≡ MAX_THETA). omega (arith, e, s.theta_high, high) in
      let two : min met.theta v.theta ≡ MAX_THETA → v.theta ≡ MAX_THETA = λ (e : min met.theta v.theta ≡ MAX_THETA). omega (arith, e, s.theta_high, high) in
      record {
        theta_high = omega (arith, s.theta_high);
        keys_low = λ q found. s.keys_low q (in_shared met v q found).0;
        uncut = λ e. all-more _ done v (s.uncut (one e)) (two e);
        uncut_if = λ all. omega (arith, s.uncut_if (all-begin _ done (v ∷ []) all), (all-end _ done (v ∷ []) all).0);
        shows = λ q found. all-more _ done v (s.shows q (in_shared met v q found).0) (in_shared met v q found).1;
        shows_if = λ e q have.
            (let content = s.shows_if (one e) q (all-begin _ done (v ∷ []) have) in
            shared_if met v q (omega (arith, e, s.keys_low q content)) content (all-end _ done (v ∷ []) have).0);
      }

  stops : (done : List (Retained X)) (met v : Retained X) (after values : List (Retained X)) → Stands key done met → v.theta ≤ MAX_THETA → values ≡ done ++ v ∷ after → is_disjoint key merges met v ≡ true → BecomesDisjoint key values
  stops done met v after values s high there disjoint =
      let four = all_four (eqb (min met.theta v.theta) MAX_THETA) (eqb (length met.entries) 0) (eqb (length v.entries) 0) (eqb (length (shared key merges met v).entries) 0) disjoint in
      let first = four.first in
      let least : min met.theta v.theta ≡ MAX_THETA = grind (arith, nat_tests) in
      let one : met.theta ≡ MAX_THETA = omega (arith, least, s.theta_high, high) in
      let two : v.theta ≡ MAX_THETA = omega (arith, least, s.theta_high, high) in
      let content = some_key key met.entries four.second in
      record {
        before = done;
        last = v;
        after = after;
        there = there;
        uncut = all-more _ done v (s.uncut one) two;
        has_keys = some_key key v.entries four.third;
        shared_before = (content.0, s.shows content.0 content.1);
        none_shared = λ q have.
            (let at_met = s.shows_if one q (all-begin _ done (v ∷ []) have) in
            let some = key_some key (shared key merges met v).entries q (shared_if met v q (omega (arith, least, s.keys_low q at_met)) at_met (all-end _ done (v ∷ []) have).0) in
            let none = four.fourth in
            absurd (cc));
      }

  goes_on : (vs done : List (Retained X)) (met : Retained X) (values : List (Retained X)) → Stands key done met → AllByRecursion (IsRetained key) vs → values ≡ done ++ vs → meet_from key merges met (map NonEmpty vs) ≡ Empty → BecomesDisjoint key values
  goes_on [] done met values s all there empty = absurd (empty_nonempty key merges keeps met (sym empty))
  goes_on (v ∷ vs) done met values s all there empty =
      (elim (is_disjoint key merges met v) as (λ b. is_disjoint key merges met v ≡ b → cond b Empty (meet_from key merges (shared key merges met v) (map NonEmpty vs)) ≡ Empty → BecomesDisjoint key values) [
        | true ↦ λ e rest. stops done met v vs values s all.0.theta_high there e
        | false ↦ λ e rest. goes_on vs (done ++ v ∷ []) (shared key merges met v) values (stands-more done met v s all.0.theta_high) all.1 (there ∙ sym (append_assoc done (v ∷ []) vs)) rest
      ]) refl empty

  is_stopped : (done : List (Retained X)) (met last : Retained X) (p q : ℕ) → Stands key done met → AllByRecursion (λ v. v.theta ≡ MAX_THETA) (done ++ last ∷ []) → IsSome (entry_at key last.entries p) → HaveKey key q done → ((r : ℕ) → HaveKey key r (done ++ last ∷ []) → ⊥) → is_disjoint key merges met last ≡ true
  is_stopped done met last p q s uncut has content none =
      let one : met.theta ≡ MAX_THETA = s.uncut_if (all-begin _ done (last ∷ []) uncut) in
      let two : last.theta ≡ MAX_THETA = (all-end _ done (last ∷ []) uncut).0 in
      let least : min met.theta last.theta ≡ MAX_THETA = omega (arith, one, two) in
      let first : eqb (min met.theta last.theta) MAX_THETA ≡ true = grind (arith, nat_tests) in
      four_true _ _ _ _ first (key_some key met.entries q (s.shows_if one q content)) (key_some key last.entries p has)
      (no_key key (shared key merges met last).entries (λ r found. none r (all-more _ done last (s.shows r (in_shared met last r found).0) (in_shared met last r found).1)))

  stopped : (bs done : List (Retained X)) (met last : Retained X) (after : List (Retained X)) (p q : ℕ) → Stands key done met → AllByRecursion (λ v. v.theta ≡ MAX_THETA) (done ++ (bs ++ last ∷ [])) → IsSome (entry_at key last.entries p) → HaveKey key q (done ++ bs) → ((r : ℕ) → HaveKey key r (done ++ (bs ++ last ∷ [])) → ⊥) → meet_from key merges met (map NonEmpty (bs ++ last ∷ after)) ≡ Empty
  stopped [] done met last after p q s uncut has content none = rw (is_stopped done met last p q s uncut has (all-begin _ done [] content) none) refl
  stopped (b ∷ bs) done met last after p q s uncut has content none =
      let same : b.theta ≡ MAX_THETA = (all-end _ done (b ∷ (bs ++ last ∷ [])) uncut).0 in
      elim (is_disjoint key merges met b) as (λ t. cond t Empty (meet_from key merges (shared key merges met b) (map NonEmpty (bs ++ last ∷ after))) ≡ Empty) [
        | true ↦ refl
        | false ↦ stopped bs (done ++ b ∷ []) (shared key merges met b) last after p q (stands-more done met b s (omega (arith, same))) (all-over _ done (bs ++ last ∷ []) b uncut) has (all-over _ done bs b content) (λ r have. none r (all-back _ done (bs ++ last ∷ []) b have))
      ]

  begins : (before : List (Retained X)) (last u : Retained X) (after vs : List (Retained X)) (p q : ℕ) → IsRetained key u → u ∷ vs ≡ before ++ last ∷ after → AllByRecursion (λ v. v.theta ≡ MAX_THETA) (before ++ last ∷ []) → IsSome (entry_at key last.entries p) → HaveKey key q before → ((r : ℕ) → HaveKey key r (before ++ last ∷ []) → ⊥) → meet_from key merges u (map NonEmpty vs) ≡ Empty
  begins [] last u after vs p q kept there uncut has content none = absurd (none p (has, tt))
  begins (b ∷ bs) last u after vs p q kept there uncut has content none =
      let first : u ≡ b = cc in
      let rest : vs ≡ bs ++ last ∷ after = cc in
      rw (first, rest) (stopped bs (b ∷ []) b last after p q (stands-one b (rw (← first) kept)) uncut has content none)

-- if a meet is Empty, `BecomesDisjoint` holds of its values
pub becomes_disjoint : {X : Type 0} (key : X → ℕ) (merges : X → X → X) → KeepsKey key merges → (u : Retained X) (vs : List (Retained X)) → AllByRecursion (IsRetained key) (u ∷ vs) → meet key merges (NonEmpty u ∷ map NonEmpty vs) ≡ Empty → BecomesDisjoint key (u ∷ vs)
becomes_disjoint key merges keeps u vs all empty = goes_on key merges keeps vs (u ∷ []) u (u ∷ vs) (stands-one key merges keeps u all.0) all.1 refl empty

-- and if `BecomesDisjoint` holds of values, their meet is Empty
pub empty_meet : {X : Type 0} (key : X → ℕ) (merges : X → X → X) → KeepsKey key merges → (u : Retained X) (vs : List (Retained X)) → AllByRecursion (IsRetained key) (u ∷ vs) → BecomesDisjoint key (u ∷ vs) → meet key merges (NonEmpty u ∷ map NonEmpty vs) ≡ Empty
empty_meet key merges keeps u vs all n = begins key merges keeps n.before n.last u n.after vs n.has_keys.0 n.shared_before.0 all.0 n.there n.uncut n.has_keys.1 n.shared_before.1 n.none_shared
