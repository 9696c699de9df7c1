-- The retained map of a leaf, against the whole map of what was added.
use Rattle.std.proofs.Common.{◌≡◌, ℕ, ◌<◌, ◌≤◌, Bool, true, false, cond, List, [], ◌∷◌, ◌++◌, Some, None, inl, refl, ap, ◌∙◌, arith}
use Rattle.std.specs.List.{AllByRecursion}
use Rattle.std.specs.Option.{option_map_or}
use Rattle.std.proofs.lemmas.Bool.Decides.{nat_tests}
use Rattle.core_laws.specs.declared.TheConstants.{MAX_THETA}
use Rattle.core_laws.specs.Cuts.{Retained, cut, none_below}
use Rattle.core_laws.specs.Maps.{entry_at, with_entry}
use Rattle.core_laws.specs.Entries.{is_carried, hash_key}
use Rattle.core_laws.specs.Lawful.{IsWithin}
use Rattle.core_laws.specs.Insertion.{whole_upsert, after_upsert, is_screened}
use Rattle.core_laws.specs.declared.leaf.LeafStep.{LeafStep}
use Rattle.core_laws.specs.declared.leaf.LeafStep.TheVariants.{Add, Trim, Reset}
use Rattle.core_laws.specs.Leaf.{leaf_step, leaf_from, leaf, updated_step, is_updated, whole_step, whole_from, whole, hash_step_of, KeepsHashes}
use Rattle.core_laws.specs.Samples.{IsAllBelow, IsSample, IsLawfulValue}
use Rattle.core_laws.specs.Values.{Empty, NonEmpty}
use Rattle.core_laws.specs.Step.{Step}
use Rattle.core_laws.proofs.maps.Ascending.{ascending-nil, each-with_entry}
use Rattle.core_laws.proofs.cuts.LawfulThetas.{cut_lawful}
use Rattle.core_laws.proofs.insertions.Cases.{screened_case}
use Rattle.core_laws.proofs.cuts.WithinWholeMaps.{within-upsert, within-cut, cut_below, lawful-le, found_key}

pub is_updated-append : {V : Type 0} (xs ys : List (LeafStep V)) (b : Bool) → is_updated (xs ++ ys) b ≡ is_updated ys (is_updated xs b)
is_updated-append [] ys b = refl
is_updated-append (x ∷ xs) ys b = is_updated-append xs ys (updated_step x b)

module _ {X V : Type 0} (key : X → ℕ) (step_of : ℕ → V → Step X) (keeps : KeepsHashes key step_of) where
  within-add : (k start h : ℕ) (x : V) (v : Retained X) (w : List X) → start ≤ MAX_THETA → IsWithin key k start v w → IsWithin key k start (after_upsert key k h (step_of h x) v) (whole_step key step_of (Add h x) w)
  within-add k start h x v w high within =
      (elim (is_carried h) as (λ b. is_carried h ≡ b → IsWithin key k start (after_upsert key k h (step_of h x) v) (cond b (whole_upsert key h (step_of h x) w) w)) [
        | true ↦ λ e. let low : 0 < h = grind (arith, nat_tests) in within-upsert key k start h (step_of h x) v w low (keeps.writes h x) (keeps.makes h x) within
        | false ↦ λ e.
            let below_start : v.theta ≤ start = lawful-le key w k start v.theta within.lawful in
            let screened : is_screened h v.theta ≡ true = grind (arith, nat_tests) in
            rw (screened_case key k h (step_of h x) v screened).after_is within
      ]) refl

  within-step : (k start : ℕ) (step : LeafStep V) (v : Retained X) (w : List X) → start ≤ MAX_THETA → IsWithin key k start v w → IsWithin key k start (leaf_step key step_of k start step v) (whole_step key step_of step w)
  within-step k start (Add h x) v w high within = within-add k start h x v w high within
  within-step k start Trim v w high within = rw (within.entries_are, cut_below key k w v.theta within.ascending) (within-cut key k start v.theta w within.ascending within.lawful)
  within-step k start Reset v w high within = record { ascending = ascending-nil key; entries_are = refl; lawful = inl refl }

  within-from : (k start : ℕ) (steps : List (LeafStep V)) (v : Retained X) (w : List X) → start ≤ MAX_THETA → IsWithin key k start v w → IsWithin key k start (leaf_from key step_of k start steps v) (whole_from key step_of steps w)
  within-from k start [] v w high within = within
  within-from k start (step ∷ steps) v w high within = within-from k start steps (leaf_step key step_of k start step v) (whole_step key step_of step w) high (within-step k start step v w high within)

  pub within-leaf : (k start : ℕ) (steps : List (LeafStep V)) → start ≤ MAX_THETA → IsWithin key k start (leaf_from key step_of k start steps (none_below start)) (whole key step_of steps)
  within-leaf k start steps high = within-from k start steps (none_below start) [] high (record { ascending = ascending-nil key; entries_are = refl; lawful = inl refl })

  -- a whole map has carried keys alone
  carried-upsert : (h : ℕ) (x : V) (w : List X) → h < MAX_THETA → AllByRecursion (λ e. key e < MAX_THETA) w → AllByRecursion (λ e. key e < MAX_THETA) (whole_upsert key h (step_of h x) w)
  carried-upsert h x w high all =
      (elim (entry_at key w h) as (λ o. entry_at key w h ≡ o → AllByRecursion (λ e. key e < MAX_THETA) (option_map_or (λ e. with_entry key w ((step_of h x).writes e)) o (option_map_or (λ e. with_entry key w e) (step_of h x).makes w))) [
        | Some e ↦ λ found. let same : key ((step_of h x).writes e) ≡ h = keeps.writes h x e (found_key key w h e found) in each-with_entry key (λ z. key z < MAX_THETA) w ((step_of h x).writes e) all (omega arith)
        | None ↦ λ found.
            (elim (step_of h x).makes as (λ m. (step_of h x).makes ≡ m → AllByRecursion (λ e. key e < MAX_THETA) (option_map_or (λ e. with_entry key w e) m w)) [
              | Some e ↦ λ made. let same : key e ≡ h = keeps.makes h x e made in each-with_entry key (λ z. key z < MAX_THETA) w e all (omega arith)
              | None ↦ λ made. all
            ]) refl
      ]) refl

  carried-step : (step : LeafStep V) (w : List X) → AllByRecursion (λ e. key e < MAX_THETA) w → AllByRecursion (λ e. key e < MAX_THETA) (whole_step key step_of step w)
  carried-step (Add h x) w all =
      (elim (is_carried h) as (λ b. is_carried h ≡ b → AllByRecursion (λ e. key e < MAX_THETA) (cond b (whole_upsert key h (step_of h x) w) w)) [
        | true ↦ λ e. let high : h < MAX_THETA = grind (arith, nat_tests) in carried-upsert h x w high all
        | false ↦ λ e. all
      ]) refl
  carried-step Trim w all = all
  carried-step Reset w all = tt

  carried-from : (steps : List (LeafStep V)) (w : List X) → AllByRecursion (λ e. key e < MAX_THETA) w → AllByRecursion (λ e. key e < MAX_THETA) (whole_from key step_of steps w)
  carried-from [] w all = all
  carried-from (step ∷ steps) w all = carried-from steps (whole_step key step_of step w) (carried-step step w all)

  -- if nothing was added since the last reset, the whole map is empty
  not_updated : (steps : List (LeafStep V)) (b : Bool) (w : List X) → (b ≡ false → w ≡ []) → is_updated steps b ≡ false → whole_from key step_of steps w ≡ []
  not_updated [] b w none e = none e
  not_updated (Add h x ∷ steps) b w none e = not_updated steps true (whole_step key step_of (Add h x) w) (λ f. absurd (cc)) e
  not_updated (Trim ∷ steps) b w none e = not_updated steps b w none e
  not_updated (Reset ∷ steps) b w none e = not_updated steps false [] (λ _. refl) e

  pub leaf-sample : (k start : ℕ) (steps : List (LeafStep V)) → start ≤ MAX_THETA → IsSample key (leaf key step_of k start steps) (whole key step_of steps)
  leaf-sample k start steps high = record {
    ascending = (within-leaf k start steps high).ascending;
    carried = carried-from steps [] tt;
    all_below = (elim (is_updated steps false) as (λ b. is_updated steps false ≡ b → IsAllBelow key (cond b (NonEmpty (leaf_from key step_of k start steps (none_below start))) Empty) (whole key step_of steps)) [
      | true ↦ λ e. (within-leaf k start steps high).entries_are
      | false ↦ λ e. not_updated steps false [] (λ _. refl) e
    ]) refl;
  }

  pub leaf-lawful : (k start : ℕ) (steps : List (LeafStep V)) → start ≤ MAX_THETA → IsLawfulValue key k start (leaf key step_of k start steps) (whole key step_of steps)
  leaf-lawful k start steps high =
      elim (is_updated steps false) as (λ b. IsLawfulValue key k start (cond b (NonEmpty (leaf_from key step_of k start steps (none_below start))) Empty) (whole key step_of steps)) [
        | true ↦ (within-leaf k start steps high).lawful
        | false ↦ tt
      ]

  pub leaf_from-append : (k start : ℕ) (xs ys : List (LeafStep V)) (v : Retained X) → leaf_from key step_of k start (xs ++ ys) v ≡ leaf_from key step_of k start ys (leaf_from key step_of k start xs v)
  leaf_from-append k start [] ys v = refl
  leaf_from-append k start (x ∷ xs) ys v = leaf_from-append k start xs ys (leaf_step key step_of k start x v)

  -- a leaf that is updated and then trimmed is the cut of its whole map at its start
  pub trimmed : (k start : ℕ) (steps : List (LeafStep V)) → start ≤ MAX_THETA → is_updated steps false ≡ true → leaf key step_of k start (steps ++ Trim ∷ []) ≡ NonEmpty (cut key k (whole key step_of steps) start)
  trimmed k start steps high updated =
      let within = within-leaf k start steps high in
      let v : Retained X = leaf_from key step_of k start steps (none_below start) in
      let kept : leaf_from key step_of k start (steps ++ Trim ∷ []) (none_below start) ≡ cut key k (whole key step_of steps) start =
      leaf_from-append k start steps (Trim ∷ []) (none_below start)
      ∙ ap (λ ys. cut key k ys v.theta) within.entries_are
      ∙ cut_below key k (whole key step_of steps) v.theta within.ascending
      ∙ cut_lawful key (whole key step_of steps) k start v.theta within.ascending within.lawful in
      ap (λ b. cond b (NonEmpty (leaf_from key step_of k start (steps ++ Trim ∷ []) (none_below start))) Empty) (is_updated-append steps (Trim ∷ []) false ∙ updated) ∙ ap NonEmpty kept

-- steps of hashes keep hashes
pub hash_keeps : {V : Type 0} → KeepsHashes {V = V} hash_key hash_step_of
hash_keeps = record { writes = λ h x e same. same; makes = λ h x e made. cc }
