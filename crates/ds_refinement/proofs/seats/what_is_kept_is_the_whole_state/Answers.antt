use Rattle.ds_refinement.proofs.Seating.{is_whole}
use Rattle.ds_refinement.proofs.seats.what_is_kept_is_the_whole_state.Goals as goal

pub returns : goal.returns
returns c = is_whole
