-- Searches that have passed slots of other entries.
use Rattle.std.proofs.Common.{◌≡◌, ℕ, ◌<◌, ◌≤◌, ◌^◌, List, Option, length, sym, arith}
use Rattle.core_slots.specs.SlotLayout.{filled, HasOthers, IsOnPath}
use Rattle.core_slots.specs.Probe.{probe}
use Rattle.core_slots.proofs.SlotLayouts.{few_others}

-- a search that passed n slots of other entries
module _ {X : Type 0} (key : X → ℕ) (lg h n : ℕ) (slots : List (Option X)) where
  pub passed : n ≤ 2 ^ lg → HasOthers key lg slots h n → n ≤ length (filled slots)
  passed most others = few_others key lg h n slots most others

  -- where it ends then
  pub ends_on_path : (at : ℕ) → at ≡ probe h lg n → n ≤ 2 ^ lg → HasOthers key lg slots h n → length (filled slots) < 2 ^ lg → IsOnPath key lg slots h at
  ends_on_path at is most others room = record { step = n; in_range = omega (arith, passed most others, room); present = sym is; others = others }
