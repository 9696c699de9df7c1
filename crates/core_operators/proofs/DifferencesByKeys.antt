-- Differences: only the keys of the second operand matter.
use Rattle.std.proofs.Common.{◌≡◌, ℕ, Bool, true, false, cond, is_none, List, [], ◌∷◌, map, min, Option, Some, None, refl, sym, ap, ◌∙◌}
use Rattle.std.specs.Option.{option_map}
use Rattle.core_laws.specs.Cuts.{retained}
use Rattle.core_laws.specs.Entries.{hash_key}
use Rattle.core_laws.specs.Maps.{entry_at, map_of}
use Rattle.core_laws.specs.Operators.{minus, lacking, unless_nothing}
use Rattle.core_laws.specs.Values.{Sketch, Empty, NonEmpty}
use Rattle.core_laws.proofs.maps.MappedEntries.{entry_at-map}
use Rattle.core_laws.proofs.maps.MapsOfLists.{entry_at-map_of}

module _ {X : Type 0} (key : X → ℕ) where
  same_lack : (xs ys : List X) (hs : List ℕ) → ((q : ℕ) → is_none (entry_at hash_key hs q) ≡ is_none (entry_at key ys q)) → lacking key hash_key xs hs ≡ lacking key key xs ys
  same_lack [] ys hs same = refl
  same_lack (x ∷ xs) ys hs same =
      ap (λ (b : Bool). cond b (x ∷ lacking key hash_key xs hs) (lacking key hash_key xs hs)) (same (key x))
      ∙ ap (λ zs. cond (is_none (entry_at key ys (key x))) (x ∷ zs) zs) (same_lack xs ys hs same)

  none_mapped : {Y : Type 0} (f : X → Y) (o : Option X) → is_none (option_map f o) ≡ is_none o
  none_mapped f None = refl
  none_mapped f (Some x) = refl

  -- the entries of the second are its keys alone
  pub minus_of_keys : (empty : Bool) (theta : ℕ) (a : Sketch X) (listing : List X) →
      minus key hash_key a (cond empty Empty (NonEmpty (record { entries = map_of hash_key (map key listing); theta = theta }))) ≡ minus key key a (cond empty Empty (NonEmpty (record { entries = map_of key listing; theta = theta })))
  minus_of_keys empty theta Empty listing = refl
  minus_of_keys true theta (NonEmpty v) listing = refl
  minus_of_keys false theta (NonEmpty v) listing =
      let same : (q : ℕ) → is_none (entry_at hash_key (map_of hash_key (map key listing)) q) ≡ is_none (entry_at key (map_of key listing) q) =
      λ q. ap is_none (entry_at-map_of hash_key (map key listing) q ∙ entry_at-map key key hash_key (λ x. refl) listing q) ∙ none_mapped key (entry_at key listing q) ∙ ap is_none (sym (entry_at-map_of key listing q)) in
      ap (λ ys. unless_nothing (retained key ys (min v.theta theta))) (same_lack v.entries (map_of key listing) (map_of hash_key (map key listing)) same)
