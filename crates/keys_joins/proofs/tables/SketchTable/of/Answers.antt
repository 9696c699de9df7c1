use Rattle.std.proofs.Common.{ℕ, ◌≡◌, List, [], ◌∷◌, ◌++◌, refl, sym, ap, subst, ◌∙◌, append_assoc, append-nil}
use Rattle.keys_groups.specs.Groups.{IsFirst}
use Rattle.keys_joins.specs.Tables.{HasSketchesOf}
use Rattle.keys_joins.proofs.Lookups.{sketches_more, none_listed}
use Rattle.keys_joins.proofs.tables.SketchTable.of.Goals as goal

pub loop-init : goal.loop-init
loop-init g c = record {
  sound = c.requires.sound;
  table = λ file listed. ([], file.names, listed, refl, none_listed file.sketch c.new-map.result c.new-map.ensures.empty);
}

pub loop-preserved : goal.loop-preserved
loop-preserved g c = record {
  sound = c.in_ok-group.ensures.sound;
  table = λ file listed.
      let so_far = c.loop.invariant.table file listed in
      let next = subst (IsFirst (g.G.SketchedGroups.lists file.sketch) file.sketch so_far.1 c.take_group.new.self) c.in-Some.is (c.in_ok-group.ensures.next file.sketch so_far.1 so_far.2) in
      let name = c.in-Some.group.name.items in (
        so_far.0 ++ name ∷ [],
        next.0,
        next.3,
        so_far.3 ∙ ap (λ ns. so_far.0 ++ ns) next.1 ∙ sym (append_assoc so_far.0 (name ∷ []) next.0),
        sketches_more file.sketch so_far.0 name c.in-Some.group.sketch c.loop.map c.put_group.new.map so_far.4 c.in_ok-put_group.ensures.put next.2,
      );
}

pub returns-in_default-clause-table : goal.returns-in_default-clause-table
returns-in_default-clause-table g c = λ file listed.
    let so_far = c.loop.invariant.table file listed in
    let none = subst (IsFirst (g.G.SketchedGroups.lists file.sketch) file.sketch so_far.1 c.take_group.new.self) c.in_default.is (c.in_ok-group.ensures.next file.sketch so_far.1 so_far.2) in
    let all : so_far.0 ≡ file.names = sym (so_far.3 ∙ ap (λ ns. so_far.0 ++ ns) none ∙ append-nil so_far.0) in
    subst (λ (names : List (List ℕ)). HasSketchesOf names file.sketch c.loop.map) all so_far.4
