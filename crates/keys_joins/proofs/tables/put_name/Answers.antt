use Rattle.std.proofs.Common.{ℕ, List, ◌∷◌, subst}
use Rattle.keys_sketches.specs.Keys.{HaveSameLines}
use Rattle.keys_groups.specs.Names.{texts_of}
use Rattle.keys_joins.proofs.AllNames.{one_more}
use Rattle.keys_joins.proofs.tables.put_name.Goals as goal

pub returns-clause-put : goal.returns-clause-put
returns-clause-put c =
    subst (λ (name : List ℕ). HaveSameLines (texts_of c.insert.new.self.entries) (name ∷ texts_of c.args.names.now.entries)) c.in_ok-key.ensures.items
    (one_more c.in_ok-key.key.items tt c.args.names.now c.insert.new.self c.in_ok-insert.ensures.updates)
