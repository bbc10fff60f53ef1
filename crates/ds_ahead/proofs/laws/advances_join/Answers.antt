use Rattle.ds_ahead.proofs.Advances.{advances_join}
use Rattle.ds_ahead.proofs.laws.advances_join.Goals as goal

pub returns : goal.returns
returns c = advances_join
