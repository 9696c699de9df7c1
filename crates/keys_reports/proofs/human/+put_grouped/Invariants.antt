use Rattle.keys_reports.proofs.human.+put_grouped.Given as goal

abbrev pub decreases-put_grouped : goal.decreases-put_grouped
decreases-put_grouped g l = l.groups
