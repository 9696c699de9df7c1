use Rattle.std.proofs.Common.{◌+◌, arith}
use Rattle.std.proofs.lemmas.Result.{err_from_is_err_and}
use Rattle.theta_tables.proofs.CommandsInTurn.{table_after, replied_more}
use Rattle.theta_tables.proofs.run.run_table.Goals as goal

pub returns-in_err-push-clause-err : goal.returns-in_err-push-clause-err
returns-in_err-push-clause-err g c =
    let p = err_from_is_err_and c.from_residual-in_err-push.result c.from_residual-in_err-push.ensures.1 in
    rw (p.1) (record {
      count = c.loop-command.command-index + 1;
      within = omega (arith, c.loop-command-test.true);
      is = table_after c.args.commands.now c.loop-command.command-index _ c.loop-command-test.true (g.T.ThetaTable.map c.args.table.now) (g.T.ThetaTable.map c.loop-command.table) (g.T.ThetaTable.map c.run_command.new.table) c.loop-command.invariant.stands c.in_ok-next_reply.ensures.after;
    })

pub loop-command-preserved : goal.loop-command-preserved
loop-command-preserved g c =
    let old = g.T.ThetaTable.map c.args.table.now in
    let was = g.T.ThetaTable.map c.loop-command.table in
    record {
      replied = replied_more c.args.commands.now c.loop-command.command-index _ c.loop-command-test.true old was c.in_ok-next_reply.next_reply c.loop-command.answer.items c.push.new.self.items c.loop-command.invariant.stands c.loop-command.invariant.replied c.in_ok-next_reply.ensures.ok c.in_ok-push.ensures.items;
      stands = table_after c.args.commands.now c.loop-command.command-index _ c.loop-command-test.true old was (g.T.ThetaTable.map c.run_command.new.table) c.loop-command.invariant.stands c.in_ok-next_reply.ensures.after;
    }
