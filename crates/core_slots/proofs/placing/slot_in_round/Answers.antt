use Rattle.std.proofs.Common.{ℕ, sym, ap, ◌∙◌}
use Rattle.core_slots.specs.Probe.{probe}
use Rattle.core_slots.proofs.SlotLayouts.{probe_start}
use Rattle.core_slots.proofs.placing.slot_in_round.Goals as goal

pub returns-then-round-eq0-clause-value : goal.returns-then-round-eq0-clause-value
returns-then-round-eq0-clause-value c = c.slot_of.ensures.value ∙ sym (probe_start c.args.hash c.args.lg) ∙ ap (λ (n : ℕ). probe c.args.hash c.args.lg n) (sym c.if-round-eq0.true)
