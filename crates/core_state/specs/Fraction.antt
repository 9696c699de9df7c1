-- The fraction that a compact sketch estimates.
use Rattle.std.specs.Prelude.{ℕ, if◌then◌else◌}
use Rattle.core_compact.specs.CompactState.{Compact}
use Rattle.core_laws.specs.Values.{Empty, NonEmpty, fraction_of}

-- the fraction that a compact sketch estimates
abbrev pub compact_fraction : {X : Type 0} → Compact X → ℕ × ℕ
compact_fraction s = fraction_of (if s.empty then Empty else NonEmpty (record { entries = s.entries; theta = s.theta }))
