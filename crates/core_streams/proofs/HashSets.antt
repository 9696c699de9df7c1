-- The set of a stream of hashes, at each hash.
use Rattle.std.proofs.Common.{◌≡◌, ℕ, ◌<◌, Bool, true, false, cond, List, [], ◌∷◌, None, refl, ap, ◌∙◌, arith}
use Rattle.std.specs.Prelude.{filter}
use Rattle.std.specs.List.{AllByRecursion}
use Rattle.std.proofs.lemmas.Bool.Decides.{nat_tests}
use Rattle.core_laws.specs.declared.TheConstants.{MAX_THETA}
use Rattle.core_laws.specs.Entries.{is_carried, hash_key}
use Rattle.core_laws.specs.Maps.{IsAscending, entry_at, map_of}
use Rattle.core_laws.proofs.maps.Ascending.{each-with_entry, each-passes}
use Rattle.core_laws.proofs.maps.LookUps.{entry_at-filter_in, entry_at-filter_out}
use Rattle.core_laws.proofs.maps.MapsOfLists.{ascending-map_of, entry_at-map_of}
use Rattle.core_streams.specs.HashSets.{set_of}

pub at-filter : (p : ℕ → Bool) (xs : List ℕ) (q : ℕ) → entry_at hash_key (filter p xs) q ≡ cond (p q) (entry_at hash_key xs q) None
at-filter p xs q =
    (elim (p q) as (λ b. p q ≡ b → entry_at hash_key (filter p xs) q ≡ cond b (entry_at hash_key xs q) None) [
      | true ↦ λ e. entry_at-filter_in hash_key p xs q (λ x same. ap p same ∙ e)
      | false ↦ λ e. entry_at-filter_out hash_key p xs q (λ x same. ap p same ∙ e)
    ]) refl

pub at-set_of : (hs : List ℕ) (q : ℕ) → entry_at hash_key (set_of hs) q ≡ cond (is_carried q) (entry_at hash_key hs q) None
unfolding set_of
at-set_of hs q = entry_at-map_of hash_key (filter is_carried hs) q ∙ at-filter is_carried hs q

pub ascending-set_of : (hs : List ℕ) → IsAscending hash_key (set_of hs)
unfolding set_of
ascending-set_of hs = ascending-map_of hash_key (filter is_carried hs)

carried-map_of : (P : ℕ → Type 0) (xs : List ℕ) → AllByRecursion P xs → AllByRecursion P (map_of hash_key xs)
carried-map_of P [] all = tt
carried-map_of P (x ∷ xs) all = each-with_entry hash_key P (map_of hash_key xs) x (carried-map_of P xs all.1) all.0

pub carried-set_of : (hs : List ℕ) → AllByRecursion (λ h. h < MAX_THETA) (set_of hs)
unfolding set_of
carried-set_of hs = carried-map_of (λ h. h < MAX_THETA) (filter is_carried hs) (each-passes (λ h. h < MAX_THETA) is_carried (λ x e. grind (arith, nat_tests)) hs)

pub none-set_of : set_of [] ≡ []
unfolding set_of
none-set_of = refl
