-- The metadata of a view.
use Rattle.std.specs.Prelude.{if◌then◌else◌, length}
use Rattle.core_laws.specs.Shown.{Shown}
use Rattle.core_operators.specs.declared.view.ThetaFamilySketchMetadata.{ThetaFamilySketchMetadata}
use Rattle.core_operators.specs.declared.view.ThetaFamilySketchMetadata.TheVariants.{Empty, NonEmpty}

-- the metadata of a sketch that shows this
abbrev pub metadata_of : Shown → ThetaFamilySketchMetadata
metadata_of s = if s.empty then Empty s.seed_hash else NonEmpty s.seed_hash s.theta s.ordered (length s.hashes)
