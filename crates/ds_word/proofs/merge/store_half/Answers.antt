use Rattle.std.proofs.Common.{◌∙◌}
use Rattle.ds_word.proofs.Shifts.{stored_half_is}
use Rattle.ds_word.proofs.merge.store_half.Goals as goal

pub returns : goal.returns
returns c = c.shifted_up-2.ensures ∙ rw (c.shifted_up.ensures) (stored_half_is c.args.b c.args.word c.args.reg c.requires c.ranges.word.fits)
