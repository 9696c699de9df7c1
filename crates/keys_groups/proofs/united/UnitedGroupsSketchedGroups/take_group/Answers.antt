use Rattle.std.proofs.Common.{◌∙◌}
use mathlib.Core.Bool.{false≢true}
use Rattle.core_laws.specs.Entries.{hash_key}
use Rattle.core_operators.specs.Union.{union_value}
use Rattle.keys_sketches.proofs.Worth.{ordered_answer}
use Rattle.keys_groups.proofs.ImagesInGroups.{first_listed, none_listed, first_sound}
use Rattle.keys_groups.proofs.united.UnitedGroupsSketchedGroups.take_group.Goals as goal

pub returns-in_default-clause-next : goal.returns-in_default-clause-next
returns-in_default-clause-next c = λ sketch names left. none_listed sketch names c.args.self.now.map.entries (λ some. absurd (false≢true (c.in_default.ensures.variant.1 some))) left

pub returns-clause-next : goal.returns-clause-next
returns-clause-next c = λ sketch names left.
    let union = c.in-Some.union in
    let first = first_listed sketch names c.args.self.now.map.entries c.pop_first.new.self.entries (c.in-Some.name, union) c.in-Some.ensures.removal left in
    (first.0, first.1, ordered_answer hash_key (union_value hash_key union) union.seed_hash c.in_ok-sketch.sketch c.in_ok-sketch.ensures.ok ∙ first.2, first.3)

pub returns-clause-sound : goal.returns-clause-sound
returns-clause-sound c = let sound = c.requires.sound in
    (sound.0, (first_sound sound.0 0 c.args.self.now.map.entries c.pop_first.new.self.entries (c.in-Some.name, c.in-Some.union) c.in-Some.ensures.removal sound.1).1)
