use Rattle.std.proofs.Common.{◌∙◌}
use Rattle.ds_word.proofs.Shifts.{stored_left_is}
use Rattle.ds_word.proofs.merge.store_left.Goals as goal

pub returns : goal.returns
returns c = c.shifted_down.ensures ∙ stored_left_is c.args.b c.args.word c.args.reg c.requires c.ranges.reg.fits
