use Rattle.std.proofs.Common.{◌-◌, ap, ◌∙◌}
use lib.Bits.{bit_and}
use Rattle.std.proofs.lemmas.Nat.{and_mask}
use Rattle.core_slots.proofs.slots.slot_among.Goals as goal

pub returns-clause-value : goal.returns-clause-value
returns-clause-value c = ap (λ m. bit_and c.args.number (m - 1)) c.requires.size ∙ and_mask c.args.number c.args.lg
