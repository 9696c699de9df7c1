use Rattle.keys_groups.proofs.FileNames.{apart}
use Rattle.keys_groups.proofs.laws.files_apart.Goals as goal

pub returns : goal.returns
returns c = apart
