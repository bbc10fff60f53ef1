use Rattle.ds_ties.proofs.Alone.{nothing_ties}
use Rattle.ds_ties.proofs.laws.nothing_ties_who_is_alone.Goals as goal

pub returns : goal.returns
returns c = nothing_ties
