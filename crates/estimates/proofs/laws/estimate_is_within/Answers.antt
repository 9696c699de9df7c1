use Rattle.estimates.proofs.NearCounts.{lower_times, upper_times, lower_nearest, upper_nearest}
use Rattle.estimates.proofs.laws.estimate_is_within.Goals as goal

pub returns-clause-from_lower : goal.returns-clause-from_lower
returns-clause-from_lower c = λ z r t low high. lower_times z r t high

pub returns-clause-to_upper : goal.returns-clause-to_upper
returns-clause-to_upper c = upper_times

pub returns-clause-from_lower_rounded : goal.returns-clause-from_lower_rounded
returns-clause-from_lower_rounded c = lower_nearest

pub returns-clause-to_upper_rounded : goal.returns-clause-to_upper_rounded
returns-clause-to_upper_rounded c = upper_nearest
