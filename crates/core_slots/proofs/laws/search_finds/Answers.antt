use Rattle.core_slots.proofs.SlotLayouts.{search_finds}
use Rattle.core_slots.proofs.laws.search_finds.Goals as goal

pub returns : goal.returns
returns g c = λ key. search_finds key
