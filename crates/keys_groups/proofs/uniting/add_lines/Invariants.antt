use Rattle.std.proofs.Common.{ℕ, List}
use Rattle.std.specs.Io.Buffered.{reader_remaining}
use Rattle.keys_groups.specs.Reading.{ContinuesLines}
use Rattle.keys_groups.specs.United.{IsUniting, AreReady}
use Rattle.keys_groups.proofs.UnitedInTurn.{AreCounted}
use Rattle.keys_groups.proofs.uniting.add_lines.Given as goal

-- the images of the lines that were read are united, behind those before, and none has a flaw, the groups are ready for more, and the other lines are left
abbrev pub invariant-loop-passed : goal.invariant-loop-passed
invariant-loop-passed g l = record {
  counted : (before : List (List ℕ)) → IsUniting l.seed l.lg_k before l.fn.groups.map → ContinuesLines (g.R.Read.remaining l.fn.reader) (reader_remaining g.R.Read.remaining l.buffered) (λ taken. AreCounted l.seed l.lg_k l.passed before taken l.groups.map);
  ready : AreReady l.seed l.groups.map;
}
