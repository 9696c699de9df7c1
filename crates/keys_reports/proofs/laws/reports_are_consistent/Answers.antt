use Rattle.keys_reports.proofs.Consistency.{report_consistent}
use Rattle.keys_reports.proofs.laws.reports_are_consistent.Goals as goal

pub returns : goal.returns
returns c = report_consistent
