use mathlib.Core.Bool.{false≢true}
use Rattle.keys_totals.proofs.OwnTotals.{first_listed, none_listed}
use Rattle.keys_totals.proofs.grouped.GroupTotals.next_total.Goals as goal

pub returns-in_default : goal.returns-in_default
returns-in_default c = λ total names left. none_listed total names c.args.self.now.map.entries (λ some. absurd (false≢true (c.in_default.ensures.variant.1 some))) left

pub returns : goal.returns
returns c = λ total names left. first_listed total names c.args.self.now.map.entries c.pop_first.new.self.entries (c.in-Some.name, c.in-Some.total) c.in-Some.ensures.removal left
