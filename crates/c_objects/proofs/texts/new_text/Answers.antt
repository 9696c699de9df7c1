use Rattle.c_objects.proofs.Begun.{begun}
use Rattle.c_objects.proofs.texts.new_text.Goals as goal

pub returns : goal.returns
returns c = begun c.args.seed c.new.result c.new.ensures
