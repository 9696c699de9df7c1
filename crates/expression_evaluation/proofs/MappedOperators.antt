-- Operators on maps whose entries are turned into others of the same keys, by a function that keeps merges.
use Rattle.std.proofs.Common.{◌≡◌, ℕ, true, false, cond, eqb, not, List, [], ◌∷◌, map, length, min, Option, Some, None, refl, ap, ◌∙◌}
use Rattle.std.specs.Prelude.{◌&&◌}
use Rattle.std.specs.Option.{option_map, option_map_or}
use Rattle.std.proofs.lemmas.List.{length-map}
use Rattle.core_laws.specs.declared.TheConstants.{MAX_THETA}
use Rattle.core_laws.specs.Cuts.{Retained, cut}
use Rattle.core_laws.specs.Maps.{below, entry_at, with_entry}
use Rattle.core_laws.specs.Values.{Sketch, Empty, NonEmpty}
use Rattle.core_laws.specs.Operators.{join, joined, common, shared, is_disjoint, unite, meet_next}
use Rattle.core_laws.proofs.maps.MappedEntries.{below-map, entry_at-map, with_entry-map, cut-map}

-- a value whose entries are turned
abbrev pub turned_value : {X Y : Type 0} → (X → Y) → Sketch X → Sketch Y
turned_value f Empty = Empty
turned_value f (NonEmpty v) = NonEmpty (record { entries = map f v.entries; theta = v.theta })

module _ {X Y : Type 0} (f : X → Y) (key : X → ℕ) (other : Y → ℕ) (alike : (x : X) → other (f x) ≡ key x) (merges : X → X → X) (others : Y → Y → Y) (same : (x y : X) → others (f x) (f y) ≡ f (merges x y)) where
  turned_or : (o : Option X) (x : X) → option_map_or (λ w. others w (f x)) (option_map f o) (f x) ≡ f (option_map_or (λ w. merges w x) o x)
  turned_or None x = refl
  turned_or (Some w) x = same w x

  join-map : (whole : List X) (x : X) → join other others (map f whole) (f x) ≡ map f (join key merges whole x)
  join-map whole x =
      let found : entry_at other (map f whole) (other (f x)) ≡ option_map f (entry_at key whole (key x)) = ap (λ (h : ℕ). entry_at other (map f whole) h) (alike x) ∙ entry_at-map f key other alike whole (key x) in
      ap (λ o. with_entry other (map f whole) (option_map_or (λ w. others w (f x)) o (f x))) found
      ∙ ap (λ y. with_entry other (map f whole) y) (turned_or (entry_at key whole (key x)) x)
      ∙ with_entry-map f key other alike whole (option_map_or (λ w. merges w x) (entry_at key whole (key x)) x)

  joined-map : (xs whole : List X) → joined other others (map f whole) (map f xs) ≡ map f (joined key merges whole xs)
  joined-map [] whole = refl
  joined-map (x ∷ xs) whole = ap (λ ys. joined other others ys (map f xs)) (join-map whole x) ∙ joined-map xs (join key merges whole x)

  cut_turned : (k : ℕ) (ys : List Y) (xs : List X) (t : ℕ) → ys ≡ map f xs → ◌≡◌ {A = Sketch Y} (NonEmpty (cut other k ys t)) (turned_value f (NonEmpty (cut key k xs t)))
  cut_turned k ys xs t is = ap (λ zs. NonEmpty (cut other k zs t)) is ∙ ap NonEmpty (cut-map f key other alike k xs t)

  -- the union of two values
  pub unite-map : (k start : ℕ) (a b : Sketch X) → unite other others k start (turned_value f a ∷ turned_value f b ∷ []) ≡ turned_value f (unite key merges k start (a ∷ b ∷ []))
  unite-map k start Empty Empty = refl
  unite-map k start (NonEmpty a) Empty = cut_turned k (joined other others [] (map f a.entries)) (joined key merges [] a.entries) (min start a.theta) (joined-map a.entries [])
  unite-map k start Empty (NonEmpty b) = cut_turned k (joined other others [] (map f b.entries)) (joined key merges [] b.entries) (min start b.theta) (joined-map b.entries [])
  unite-map k start (NonEmpty a) (NonEmpty b) =
      cut_turned k (joined other others (joined other others [] (map f a.entries)) (map f b.entries)) (joined key merges (joined key merges [] a.entries) b.entries) (min (min start a.theta) b.theta)
      (ap (λ ys. joined other others ys (map f b.entries)) (joined-map a.entries []) ∙ joined-map b.entries (joined key merges [] a.entries))

  common-map : (xs ys : List X) → common other others (map f xs) (map f ys) ≡ map f (common key merges xs ys)
  common-map [] ys = refl
  common-map (x ∷ xs) ys =
      let found : entry_at other (map f ys) (other (f x)) ≡ option_map f (entry_at key ys (key x)) = ap (λ (h : ℕ). entry_at other (map f ys) h) (alike x) ∙ entry_at-map f key other alike ys (key x) in
      (elim (entry_at key ys (key x)) as (λ o. entry_at key ys (key x) ≡ o → common other others (map f (x ∷ xs)) (map f ys) ≡ map f (common key merges (x ∷ xs) ys)) [
        | Some y ↦ λ e. rw (found, e) (ap (λ z. z ∷ common other others (map f xs) (map f ys)) (same x y) ∙ ap (λ zs. f (merges x y) ∷ zs) (common-map xs ys))
        | None ↦ λ e. rw (found, e) (common-map xs ys)
      ]) refl

  abbrev turned : Retained X → Retained Y
  turned v = record { entries = map f v.entries; theta = v.theta }

  shared-map : (u v : Retained X) → shared other others (turned u) (turned v) ≡ turned (shared key merges u v)
  shared-map u v =
      ap (λ ys. record { entries = below other ys (min u.theta v.theta); theta = min u.theta v.theta }) (common-map u.entries v.entries)
      ∙ ap (λ ys. record { entries = ys; theta = min u.theta v.theta }) (below-map f key other alike (common key merges u.entries v.entries) (min u.theta v.theta))

  disjoint-map : (u v : Retained X) → is_disjoint other others (turned u) (turned v) ≡ is_disjoint key merges u v
  disjoint-map u v =
      let most = eqb (min u.theta v.theta) MAX_THETA in
      let left : length (shared other others (turned u) (turned v)).entries ≡ length (shared key merges u v).entries = ap (λ r. length r.entries) (shared-map u v) ∙ length-map (shared key merges u v).entries f in
      ap (λ (n : ℕ). most && (not (eqb n 0) && (not (eqb (length (map f v.entries)) 0) && eqb (length (shared other others (turned u) (turned v)).entries) 0))) (length-map u.entries f)
      ∙ ap (λ (n : ℕ). most && (not (eqb (length u.entries) 0) && (not (eqb n 0) && eqb (length (shared other others (turned u) (turned v)).entries) 0))) (length-map v.entries f)
      ∙ ap (λ (n : ℕ). most && (not (eqb (length u.entries) 0) && (not (eqb (length v.entries) 0) && eqb n 0))) left

  -- an intersection after one more value
  pub meet-map : (o : Option (Sketch X)) (v : Sketch X) → meet_next other others (option_map (turned_value f) o) (turned_value f v) ≡ turned_value f (meet_next key merges o v)
  meet-map None Empty = refl
  meet-map None (NonEmpty v) = refl
  meet-map (Some Empty) v = refl
  meet-map (Some (NonEmpty u)) Empty = refl
  meet-map (Some (NonEmpty u)) (NonEmpty v) =
      rw (disjoint-map u v) (elim (is_disjoint key merges u v) as (λ b. ◌≡◌ {A = Sketch Y} (cond b Empty (NonEmpty (shared other others (turned u) (turned v)))) (turned_value f (cond b Empty (NonEmpty (shared key merges u v))))) [
        | true ↦ refl
        | false ↦ ap NonEmpty (shared-map u v)
      ])
