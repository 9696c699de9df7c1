-- The entries of views.
use Rattle.std.proofs.Common.{◌≡◌, ℕ, map, refl}
use Rattle.core_laws.specs.Maps.{IsApart}
use Rattle.core_laws.specs.Shown.{IsShown}
use Rattle.core_laws.proofs.maps.MapsOfLists.{apart-distinct}
use Rattle.core_state.specs.View.{viewed_shows, viewed_lending}
use Rattle.core_state.specs.declared.view.Viewed.{Viewed}
use Rattle.core_state.specs.declared.view.Viewed.TheVariants.{Mutable, Compact}

module _ {X Z S : Type 0} (key : X → ℕ) where
  -- the hashes of a view are those of its entries
  pub hashes_lent : (v : Viewed X Z S) → (viewed_shows key v).hashes ≡ map key (viewed_lending v).rest
  hashes_lent (Mutable sketch) = refl
  hashes_lent (Compact sketch) = refl

  -- a view has each key once
  pub apart_lent : (v : Viewed X Z S) → IsShown (viewed_shows key v) → IsApart key (viewed_lending v).rest
  apart_lent (Mutable sketch) sound = apart-distinct key sketch.now.sequence sound.distinct
  apart_lent (Compact sketch) sound = apart-distinct key sketch.now.entries sound.distinct
