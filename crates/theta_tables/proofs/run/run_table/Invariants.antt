use Rattle.std.proofs.Common.{◌≡◌, ◌^◌, take}
use Rattle.theta_tables.specs.Command.{after_commands, replies}
use Rattle.theta_tables.proofs.run.run_table.Given as goal

-- the commands so far are replied to, and the table is as after them
abbrev pub invariant-loop-command : goal.invariant-loop-command
invariant-loop-command g l = (let old = g.T.ThetaTable.map l.initial.table in record {
  replied : l.answer.items ≡ replies (2 ^ old.lg_nom) old.start (take l.command-index l.commands) old.kept;
  stands : g.T.ThetaTable.map l.table ≡ record old { kept = after_commands (2 ^ old.lg_nom) old.start (take l.command-index l.commands) old.kept };
})
