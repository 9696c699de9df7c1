-- The keys of a merge's whole map are the hashes that were added.
use Rattle.std.proofs.Common.{◌≡◌, ℕ, true, false, is_some, Option, Some, None, List, map, refl, sym, ap, ◌∙◌}
use Rattle.std.specs.Option.{option_map}
use Rattle.core_laws.specs.Entries.{hash_key, is_carried}
use Rattle.core_laws.specs.Leaf.{whole, added}
use Rattle.core_laws.specs.Maps.{entry_at}
use Rattle.core_laws.specs.declared.leaf.LeafStep.{LeafStep}
use Rattle.core_laws.proofs.cuts.WithinWholeMaps.{found_key}
use Rattle.core_laws.proofs.maps.LookUps.{same_map}
use Rattle.core_laws.proofs.maps.MappedEntries.{entry_at-map}
use Rattle.core_laws.proofs.maps.MapsOfLists.{ascending-map}
use Rattle.plan_text.specs.declared.plan.Plan.{Plan}
use Rattle.plan_text.specs.declared.plan.Plan.TheVariants as plan
use Rattle.plan_values.specs.Family.{Family, IsFamily, hashes, tuple_folds}
use Rattle.plan_values.specs.MergePlan.{only_unites}
use Rattle.plan_values.specs.WholeStreams.{whole_in, whole_hashes}
use Rattle.plan_values.proofs.AddedValues.{unites_leaf, merge_ascends, merge_has, merge_lacks}
use Rattle.plan_values.proofs.KnownFamilies.{hashes_keep, tuple_folds_keep}
use Rattle.plan_values.proofs.MergedSums.{makes_fold}
use Rattle.plan_values.proofs.NodeEquations.{whole_leaf}

module _ {X V : Type 0} (f : Family X V) (lawful : IsFamily f) (makes_some : (h : ℕ) (u : V) → is_some (f.step_of h u).makes ≡ true) where
  -- an entry and a hash found at one key
  same_hash : (q : ℕ) (o : Option X) (p : Option ℕ) → is_some o ≡ is_some p → ((x : X) → o ≡ Some x → f.key x ≡ q) → ((h : ℕ) → p ≡ Some h → h ≡ q) → option_map f.key o ≡ p
  same_hash q None None same one two = refl
  same_hash q None (Some h) same one two = absurd (cc)
  same_hash q (Some x) None same one two = absurd (cc)
  same_hash q (Some x) (Some h) same one two = ap Some (one x refl ∙ sym (two h refl))

  module _ {Z : Type 0} (p : Plan V Z) (unites : only_unites p ≡ true) where
    found_alike : (q : ℕ) → is_some (entry_at f.key (whole_in f p) q) ≡ is_some (entry_at hash_key (whole_hashes p) q)
    found_alike q =
        (elim (is_carried q) as (λ b. is_carried q ≡ b → is_some (entry_at f.key (whole_in f p) q) ≡ is_some (entry_at hash_key (whole_hashes p) q)) [
          | true ↦ λ carried. merge_has f lawful makes_some q p carried unites ∙ sym (merge_has hashes hashes_keep (λ g u. refl) q p carried unites)
          | false ↦ λ uncarried. ap is_some (merge_lacks f lawful q p uncarried unites) ∙ sym (ap is_some (merge_lacks hashes hashes_keep q p uncarried unites))
        ]) refl

    pub keys_are_hashes : map f.key (whole_in f p) ≡ whole_hashes p
    keys_are_hashes =
        same_map hash_key (map f.key (whole_in f p)) (whole_hashes p) (ascending-map f.key (whole_in f p) (merge_ascends f lawful p unites)) (merge_ascends hashes hashes_keep p unites)
        (λ q. entry_at-map f.key f.key hash_key (λ x. refl) (whole_in f p) q
        ∙ same_hash q (entry_at f.key (whole_in f p) q) (entry_at hash_key (whole_hashes p) q) (found_alike q) (λ x e. found_key f.key (whole_in f p) q x e) (λ h e. found_key hash_key (whole_hashes p) q h e))

  -- a leaf's keys
  pub leaf_keys : (Z : Type 0) (steps : List (LeafStep V)) → map f.key (whole f.key f.step_of steps) ≡ added steps
  leaf_keys Z steps =
      ap (map f.key) (sym (whole_leaf Z f 0 0 steps)) ∙ keys_are_hashes {Z = Z} (plan.Leaf 0 0 steps) (unites_leaf Z 0 0 steps) ∙ whole_leaf Z hashes 0 0 steps

module _ {S U : Type 0} (creates : Option S) (updates : S → U → Option S) (combines : S → S → Option S) where
  -- the keys of the whole map of tuples are the hashes that were added, whatever the policies
  pub tuple_keys : {Z : Type 0} (p : Plan U Z) → only_unites p ≡ true → map (tuple_folds creates updates combines).key (whole_in (tuple_folds creates updates combines) p) ≡ whole_hashes p
  tuple_keys p unites = keys_are_hashes (tuple_folds creates updates combines) (tuple_folds_keep creates updates combines) (makes_fold creates updates combines) p unites

  -- so are those of a leaf of tuples
  pub tuple_leaf_keys : (Z : Type 0) (steps : List (LeafStep U)) → map (tuple_folds creates updates combines).key (whole (tuple_folds creates updates combines).key (tuple_folds creates updates combines).step_of steps) ≡ added steps
  tuple_leaf_keys Z steps = leaf_keys (tuple_folds creates updates combines) (tuple_folds_keep creates updates combines) (makes_fold creates updates combines) Z steps
