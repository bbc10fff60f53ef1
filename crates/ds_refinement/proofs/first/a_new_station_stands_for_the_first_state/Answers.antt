use Rattle.ds_refinement.proofs.FirstStands.{first_stands}
use Rattle.ds_refinement.proofs.first.a_new_station_stands_for_the_first_state.Goals as goal

pub returns : goal.returns
returns c = first_stands
