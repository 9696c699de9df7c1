use Rattle.std.proofs.lemmas.Result.{IfOk-weaker}
use Rattle.keys_groups.specs.Groups.{IsNext, IsFirst, ListsLines}
use Rattle.keys_groups.proofs.LinesInGroups.{next_listed}
use Rattle.keys_groups.proofs.groups.GroupsSketchedGroups.take_group.Goals as goal

pub returns-clause-next : goal.returns-clause-next
returns-clause-next c = λ sketch names listed.
    IfOk-weaker c.next_group.result (IsNext listed.0 listed.1 names c.next_group.new.self) (IsFirst (ListsLines sketch) sketch names c.next_group.new.self)
    (next_listed listed.0 listed.1 sketch listed.2 names c.next_group.new.self) (c.next_group.ensures.next listed.0 listed.1 names listed.3)
