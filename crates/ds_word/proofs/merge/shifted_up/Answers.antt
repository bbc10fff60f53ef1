use Rattle.ds_word.proofs.Shifts.{up_is}
use Rattle.ds_word.proofs.merge.shifted_up.Goals as goal

pub returns : goal.returns
returns c = up_is c.args.shift c.args.upper c.args.lower c.requires
