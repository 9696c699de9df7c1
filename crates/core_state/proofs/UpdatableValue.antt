-- The view of a sketch that takes updates, and its invariant after a call.
use Rattle.std.proofs.Common.{◌≡◌, ℕ, ◌≤◌, ◌^◌, true, false, cond, List, [], length, map, refl, sym, ap, ◌∙◌, arith}
use Rattle.std.proofs.Math.Pow.{pow_mono}
use Rattle.std.proofs.lemmas.List.Sorted.{length_permutation}
use Rattle.core_laws.specs.declared.TheConstants.{MAX_THETA}
use Rattle.core_laws.specs.Cuts.{cut, none_below}
use Rattle.core_laws.specs.Maps.{map_of, IsListing}
use Rattle.core_laws.specs.Values.{Empty, NonEmpty, theta_of, count_of}
use Rattle.core_table.specs.HashTable.{MapTable, IsTable}
use Rattle.core_state.specs.Updatable.{Updatable, IsUpdatable, sketch_shows, sketch_value}
use Rattle.core_laws.specs.Shown.{IsShown, shown_value}
use Rattle.core_laws.proofs.maps.Ascending.{ascending-nil}
use Rattle.core_laws.proofs.cuts.Cuts.{cut_few}
use Rattle.core_compact.proofs.LawsOfShown.{IsShown-none, shown-iterated}
use Rattle.core_laws.proofs.maps.MapsOfLists.{nothing}

module _ {X : Type 0} (key : X → ℕ) where
  -- what a sketch shows meets the laws
  pub shown-sketch : (s : Updatable X) → IsUpdatable s → IsTable key s.map → IsListing key s.map.kept.entries s.sequence → IsShown (sketch_shows key s)
  shown-sketch s sound table iterated =
      (elim s.empty as (λ b. s.empty ≡ b → IsShown (record { empty = b; theta = theta_of (cond b Empty (NonEmpty s.map.kept)); seed_hash = s.map.seed_hash; ordered = false; hashes = map key s.sequence })) [
        | true ↦ λ e.
            let entries : s.map.kept.entries ≡ [] = ap (λ v. v.entries) (sound.none_yet e) in
            let sequence : s.sequence ≡ [] = nothing key s.sequence (length_permutation s.map.kept.entries s.sequence iterated.each_once ∙ ap length entries) in
            rw sequence (IsShown-none MAX_THETA s.map.seed_hash true false (omega arith) (omega arith) (λ _. refl))
        | false ↦ λ e.
            let low : 2 ^ 4 ≤ 2 ^ s.map.lg_nom = pow_mono {i = 4} {j = s.map.lg_nom} sound.lg_k_low in
            let high : 2 ^ s.map.lg_nom ≤ 2 ^ 26 = pow_mono {i = s.map.lg_nom} {j = 26} sound.lg_k_high in
            shown-iterated key s.map.kept s.sequence s.map.seed_hash table.kept iterated (omega (arith, table.limited (omega (arith, low)), high))
      ]) refl

  -- a sketch has as many entries as its table
  pub count-sketch : (s : Updatable X) → IsUpdatable s → length s.map.kept.entries ≡ count_of (sketch_value s)
  count-sketch s sound =
      (elim s.empty as (λ b. s.empty ≡ b → length s.map.kept.entries ≡ count_of (cond b Empty (NonEmpty s.map.kept))) [ true ↦ λ e. ap (λ v. length v.entries) (sound.none_yet e) | false ↦ λ e. refl ]) refl

  -- a trim keeps the invariant
  pub updatable-trimmed : (s : Updatable X) (m : MapTable X) (sequence : List X) → IsUpdatable s → m ≡ record s.map { kept = cut key (2 ^ s.map.lg_nom) s.map.kept.entries s.map.kept.theta } → IsUpdatable (record { empty = s.empty; map = m; sequence = sequence })
  updatable-trimmed s m sequence sound after = record {
    lg_k_low = rw (ap (λ t. t.lg_nom) after) sound.lg_k_low;
    lg_k_high = rw (ap (λ t. t.lg_nom) after) sound.lg_k_high;
    none_yet = λ e.
        ap (λ t. t.kept) after
        ∙ ap (λ v. cut key (2 ^ s.map.lg_nom) v.entries v.theta) (sound.none_yet e)
        ∙ cut_few key (2 ^ s.map.lg_nom) [] s.map.start (ascending-nil key) (omega arith)
        ∙ sym (ap (λ t. none_below t.start) after);
  }

  -- and so does a call that doesn't change the map
  pub updatable-same : (s : Updatable X) (m : MapTable X) (sequence : List X) → IsUpdatable s → m ≡ s.map → IsUpdatable (record { empty = s.empty; map = m; sequence = sequence })
  updatable-same s m sequence sound same = record {
    lg_k_low = rw same sound.lg_k_low;
    lg_k_high = rw same sound.lg_k_high;
    none_yet = λ e. ap (λ t. t.kept) same ∙ sound.none_yet e ∙ sym (ap (λ t. none_below t.start) same);
  }

  -- the value that a sketch shows is its value
  pub shown-sketch_value : (s : Updatable X) → IsListing key s.map.kept.entries s.sequence → shown_value key (sketch_shows key s) s.sequence ≡ sketch_value s
  shown-sketch_value s iterated =
      elim s.empty as (λ b. cond b Empty (NonEmpty (record { entries = map_of key s.sequence; theta = theta_of (cond b Empty (NonEmpty s.map.kept)) })) ≡ cond b Empty (NonEmpty s.map.kept)) [
        | true ↦ refl
        | false ↦ ap (λ xs. NonEmpty (record { entries = xs; theta = s.map.kept.theta })) iterated.same_map
      ]
