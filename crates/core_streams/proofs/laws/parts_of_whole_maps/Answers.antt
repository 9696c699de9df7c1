use Rattle.core_streams.proofs.WholeMaps.{part-of, fewer-part, least-part}
use Rattle.core_streams.proofs.laws.parts_of_whole_maps.Goals as goal

pub returns-clause-sketch : goal.returns-clause-sketch
returns-clause-sketch g c = part-of

pub returns-clause-fewer : goal.returns-clause-fewer
returns-clause-fewer g c = fewer-part

pub returns-clause-least : goal.returns-clause-least
returns-clause-least g c = least-part
