use Rattle.std.proofs.Common.{sym, subst, refl}
use Rattle.estimates.specs.Bounds.{deviation_count}
use Rattle.keys_reports.specs.Reports.{IsConsistent, report_of}
use Rattle.keys_reports.proofs.Consistency.{report_consistent, some_deviations}
use Rattle.keys_reports.proofs.report.report_of.Goals as goal

pub returns-clause-made : goal.returns-clause-made
unfolding report_of
returns-clause-made g c = rw (c.nearest.ensures, c.count_bounds.ensures, c.is_exact.ensures, c.estimate_fraction-over.ensures, c.num_retained-retained.ensures.count, c.theta64-theta.ensures) refl

pub returns-clause-consistent : goal.returns-clause-consistent
returns-clause-consistent g c =
    subst IsConsistent (sym (returns-clause-made g c))
    (report_consistent (deviation_count c.args.deviations) c.args.sketch.now (some_deviations c.args.deviations) c.num_retained-retained.ensures.sound)
