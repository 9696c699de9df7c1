use Rattle.std.proofs.Common.{◌-◌, ap, ◌∙◌}
use lib.Bits.{bit_and}
use Rattle.std.proofs.lemmas.Nat.{and_mask, one_shl}
use Rattle.core_slots.proofs.slots.slot_of.Goals as goal

pub returns-clause-value : goal.returns-clause-value
returns-clause-value c = ap (λ m. bit_and c.args.number (m - 1)) (one_shl c.args.lg 64 c.requires) ∙ and_mask c.args.number c.args.lg
