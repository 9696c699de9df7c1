use Rattle.core_laws.specs.Insertion.{is_screened}
use Rattle.core_slots.proofs.Lookups.{IsPacking}
use Rattle.core_slots.proofs.lookup.pack_unscreened.Given as goal

-- of the hashes so far
abbrev pub invariant-loop-i : goal.invariant-loop-i
invariant-loop-i l = IsPacking (λ h. is_screened h l.theta) l.initial.hashes l.hashes l.i l.count
