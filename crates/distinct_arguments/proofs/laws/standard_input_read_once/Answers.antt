use Rattle.distinct_arguments.proofs.Requests.{once_action}
use Rattle.distinct_arguments.proofs.laws.standard_input_read_once.Goals as goal

pub returns : goal.returns
returns c = once_action
