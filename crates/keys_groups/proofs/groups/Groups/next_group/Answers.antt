use Rattle.std.proofs.Common.{arith}
use mathlib.Core.Bool.{false≢true}
use Rattle.keys_groups.proofs.LinesInGroups.{first_left, none_left}
use Rattle.keys_groups.proofs.groups.Groups.next_group.Goals as goal

pub returns-in_default-clause-next : goal.returns-in_default-clause-next
returns-in_default-clause-next c = λ grouping lines names left. none_left grouping lines names c.args.self.now.left.items (λ some. absurd (false≢true (c.in_default.ensures.variant.1 (omega (arith, some, c.args.self.now.left.ok))))) left

pub returns-clause-next : goal.returns-clause-next
returns-clause-next c = λ grouping lines names left.
    let first = first_left grouping lines names c.args.self.now.left.items c.pop_front.new.self.items (c.in-Some.name, c.in-Some.sketch) c.in-Some.ensures.items left in
    (first.0, first.1, c.in_ok-sketch.ensures.sketch grouping.hashing grouping.lg_k _ first.2, first.3)
