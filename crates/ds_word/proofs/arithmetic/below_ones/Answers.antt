use Rattle.ds_word.proofs.Shifts.{below_ones_is}
use Rattle.ds_word.proofs.arithmetic.below_ones.Goals as goal

pub returns : goal.returns
returns c = below_ones_is c.args.places c.args.value c.requires c.ranges.value.fits
