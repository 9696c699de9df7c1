use Rattle.keys_reports.proofs.human.+unit_from.Given as goal

abbrev pub decreases-unit_from : goal.decreases-unit_from
decreases-unit_from l = l.more
