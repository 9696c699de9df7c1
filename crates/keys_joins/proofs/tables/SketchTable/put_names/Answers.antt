use Rattle.std.proofs.Common.{ℕ, List, ◌∷◌, ◌++◌, ap, subst}
use Rattle.std.specs.Map.Iter.{deref_pair}
use Rattle.std.proofs.lemmas.Map.Iter.{rest_more, rest_all}
use Rattle.keys_sketches.specs.Keys.{HaveSameLines}
use Rattle.keys_groups.specs.Names.{texts_of}
use Rattle.keys_joins.proofs.AllNames.{moved}
use Rattle.keys_joins.proofs.tables.SketchTable.put_names.Goals as goal

pub loop-name-preserved : goal.loop-name-preserved
loop-name-preserved c =
    let name = c.in-Some.name.now.items in
    let now = texts_of c.loop-name.names.entries in
    let new = texts_of c.put_name.new.names.entries in
    let left = texts_of c.next.new.self in
    let all = texts_of c.args.self.now.map.entries ++ texts_of c.args.names.now.entries in
    let parted = rest_more deref_pair c.loop-name.name-iterator c.next.new.self c.next.result (c.in-Some.name, c.in-Some.field-0-1) c.in-Some.is c.next.ensures.steps in
    moved name left now new all (subst (λ (n : List ℕ). HaveSameLines new (n ∷ now)) c.as_slice.ensures.value c.in_ok-put_name.ensures.put)
    (subst (λ (ts : List (List ℕ)). HaveSameLines (ts ++ now) all) (ap (λ entries. texts_of entries) parted) c.loop-name.invariant)

pub returns-clause-put : goal.returns-clause-put
returns-clause-put c =
    let now = texts_of c.loop-name.names.entries in
    let all = texts_of c.args.self.now.map.entries ++ texts_of c.args.names.now.entries in
    subst (λ (ts : List (List ℕ)). HaveSameLines (ts ++ now) all) (ap (λ entries. texts_of entries) (rest_all deref_pair c.loop-name.name-iterator c.next.new.self c.next.result c.in-None.is c.next.ensures.steps)) c.loop-name.invariant
