use Rattle.distinct_arguments.proofs.NumberRanges.{size_is}
use Rattle.distinct_arguments.proofs.settings.set_number.Goals as goal

pub as_size-requires : goal.as_size-requires
as_size-requires c = size_is c.args.option c.args.number c.in-LgK.is c.requires.fits
