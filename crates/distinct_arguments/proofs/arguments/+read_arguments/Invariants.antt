use Rattle.std.proofs.Common.{length}
use Rattle.distinct_arguments.proofs.arguments.+read_arguments.Given as goal

abbrev pub decreases-read_arguments : goal.decreases-read_arguments
decreases-read_arguments l = length l.words.now
