use Rattle.std.proofs.Common.{◌≡◌, length, arith}
use Rattle.keys_groups.specs.Names.{texts_of}
use Rattle.keys_joins.specs.Evaluated.{names_in}
use Rattle.keys_joins.proofs.AllNames.{begun, more_names, all_put}
use Rattle.keys_joins.proofs.evaluated.all_names.Goals as goal

pub loop-table-init : goal.loop-table-init
loop-table-init c = begun (names_in c.args.tables.now) c.new-names.result c.new-names.ensures.empty

pub loop-table-preserved : goal.loop-table-preserved
loop-table-preserved c =
    more_names c.args.tables.now c.loop-table.left.now c.in-Some.table.now c.in-Some.more.now (texts_of c.loop-table.names.entries) (texts_of c.put_names.new.names.entries)
    c.in-Some.ensures.cases.0 c.in_ok-put_names.ensures.put c.loop-table.invariant

pub returns-clause-names : goal.returns-clause-names
returns-clause-names c =
    let none : length c.loop-table.left.now ≡ 0 = grind (arith, c.in_default.ensures.cases, c.in_default.ensures.variant, c.in_default.not-Some) in
    all_put c.loop-table.left.now (texts_of c.loop-table.names.entries) (names_in c.args.tables.now) none c.loop-table.invariant
