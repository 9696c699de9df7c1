use Rattle.std.proofs.Common.{length}
use Rattle.distinct_arguments.proofs.arguments.+read_command.Given as goal

abbrev pub decreases-read_command : goal.decreases-read_command
decreases-read_command l = length l.words.now
