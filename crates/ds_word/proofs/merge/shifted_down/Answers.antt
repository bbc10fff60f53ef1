use Rattle.ds_word.proofs.Shifts.{down_is}
use Rattle.ds_word.proofs.merge.shifted_down.Goals as goal

pub returns : goal.returns
returns c = down_is c.args.shift c.args.lower c.args.upper c.requires c.ranges.lower.fits c.ranges.upper.fits
