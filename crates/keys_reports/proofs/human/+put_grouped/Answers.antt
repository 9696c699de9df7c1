use Rattle.std.proofs.Common.{◌-◌, append_assoc, refl, arith}
use Rattle.keys_reports.proofs.HumanCases.{grouped_last, grouped_few, grouped_more}
use Rattle.keys_reports.proofs.human.+put_grouped.Goals as goal

pub returns-then-groups-eq0 : goal.returns-then-groups-eq0
returns-then-groups-eq0 g t c = rw (grouped_last c.args.groups c.args.number c.if-groups-eq0.true) c.write.ensures.bytes

pub returns-then-number-lt1000 : goal.returns-then-number-lt1000
returns-then-number-lt1000 g t c = rw (grouped_few c.args.groups c.args.number c.if-number-lt1000.true) c.write-then-number-lt1000.ensures.bytes

pub returns : goal.returns
returns g t c =
    rw (
      grouped_more c.args.groups (c.args.groups - 1) c.args.number (omega (arith, c.if-groups-eq0.false)) c.if-number-lt1000.false,
      c.in_ok-put_three.ensures,
      c.in_ok-push_str.ensures.bytes,
      c.in_ok-put_grouped.ensures,
    ) (simp append_assoc refl)
